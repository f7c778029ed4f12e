-- What the walk through a position knows at its calls: where it starts, the common field read there, where it then stands.
use mathlib.Core.Path.{◌≡◌, ◌∙◌, ap}
use mathlib.Core.List.{List}
use Prim.Native.Nat.{ℕ, ◌≤◌}
use native.Mathlib.Omega.{arith}
use denote.Ref.{Bor}
use Rattle.position.specs.Walk.{common_at, blocks_at, whole}
use Rattle.position.specs.declared.Position.{Position}
use Rattle.position.specs.declared.CommonField.{CommonField}
use Rattle.position.proofs.Whole.{common_count, next_le, walk_whole}

-- what is known of the position p that starts, of the common field c read there, and of the position p' after it
module _ (bw : ℕ) (s : Bor (List ℕ)) (p : Position) (c : CommonField) (p' : Position) where
  abbrev pub Starts : Type 0
  Starts = (p.channel ≡ s) × (p.bit ≡ 0)

  abbrev pub Reads : Type 0
  Reads = c ≡ common_at p.channel.now p.bit bw

  abbrev pub Follows : Type 0
  Follows = (p'.channel ≡ p.channel) × (p'.bit ≡ c.next)

  pub first : Starts → p.bit ≤ 4096
  first e = omega (arith, e.1)

  field : Starts → Reads → c ≡ common_at s.now 0 bw
  field e f = f ∙ ap (λ (x : Bor (List ℕ)). common_at x.now p.bit bw) e.0 ∙ ap (λ (x : ℕ). common_at s.now x bw) e.1

  pub within : Starts → Reads → Follows → (p'.bit ≤ 4096) × (c.count ≤ 72)
  within e f g =
      let h : c.next ≤ 4096 = rw (field e f) (next_le s.now bw) in
      (omega (arith, g.1), rw (field e f) (common_count s.now 0 bw))

  pub arrives : Starts → Reads → Follows → blocks_at p'.channel.now p'.bit c ≡ whole bw s.now
  arrives e f g =
      ap (λ (x : Bor (List ℕ)). blocks_at x.now p'.bit c) (g.0 ∙ e.0)
      ∙ ap (λ (x : ℕ). blocks_at s.now x c) g.1
      ∙ ap (λ (x : CommonField). blocks_at s.now x.next x) (field e f)
      ∙ walk_whole bw s.now
