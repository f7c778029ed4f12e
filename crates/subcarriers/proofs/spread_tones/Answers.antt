-- `subcarriers::spread_tones` meets its contract. The invariant: what is held and what the segments left have is the whole.
use native.Mathlib.Omega.{arith}
use mathlib.Core.Path.{◌≡◌, sym, ap, ◌∙◌}
use mathlib.Core.List.{List, ◌++◌, append_assoc, append-nil}
use Prim.Native.Nat.{ℕ, ◌+◌, ◌-◌, ◌*◌, ◌/◌, ◌%◌, ◌≤◌}
use lib.ListN.{length, length-append}
use Rattle.resource.specs.declared.Run.{Run}
use Rattle.resource.specs.declared.Tones.{Tones}
use Rattle.resource.specs.Engine.{places_runs, spread_runs, held}
use Rattle.resource.proofs.Held.{held_count, held_eight}
use Rattle.resource.proofs.Places.{next_segment, last_segment}
use Rattle.subcarriers.proofs.spread_tones.Goals as goal

-- what the next segment has is still held
room : (t : Tones) (rs ws : List Run) (b m s : ℕ) → 1 ≤ s → t ≡ held rs → rs ++ spread_runs b m s ≡ ws → length ws ≤ 8
    → t.count + length (places_runs b (m % 16)) ≤ 8
room t rs ws b m s h e f l =
    let next = spread_runs (b + 4) (m / 16) (s - 1) in
    let w = ap length (ap (rs ++◌) (sym (next_segment b m s h)) ∙ f) in
    rw e
    (omega (arith, held_count rs, length-append rs (places_runs b (m % 16) ++ next), length-append (places_runs b (m % 16)) next, w))

pub with_runs-t-requires : goal.with_runs-t-requires
with_runs-t-requires c = let from = c.args.b + 4 * c.loop-s.s in (
  rw (c.places_tones.ensures, held_count (places_runs from (c.loop-s.left % 16)))
      (room c.loop-s.t c.loop-s.invariant.0 _ from c.loop-s.left (c.args.segments - c.loop-s.s) (omega arith) c.loop-s.invariant.1 c.loop-s.invariant.2
      c.requires.2),
  rw c.loop-s.invariant.1 (held_eight c.loop-s.invariant.0),
  rw c.places_tones.ensures (held_eight _),
)

pub loop-s-preserved : goal.loop-s-preserved
loop-s-preserved c = let next = next_segment (c.args.b + 4 * c.loop-s.s) c.loop-s.left (c.args.segments - c.loop-s.s) (omega arith) in
    let from : c.args.b + 4 * (c.loop-s.s + 1) ≡ c.args.b + 4 * c.loop-s.s + 4 = omega arith in
    let more : c.args.segments - (c.loop-s.s + 1) ≡ c.args.segments - c.loop-s.s - 1 = omega arith in (
      _,
      c.with_runs-t.ensures c.loop-s.invariant.0 _ c.loop-s.invariant.1 c.places_tones.ensures,
      append_assoc c.loop-s.invariant.0 _ _ ∙ ap (c.loop-s.invariant.0 ++◌) (rw (from, more) (sym next)) ∙ c.loop-s.invariant.2,
    )

pub returns : goal.returns
returns c = c.loop-s.invariant.1 ∙ ap held (sym (append-nil c.loop-s.invariant.0) ∙ ap (c.loop-s.invariant.0 ++◌)
    (sym (last_segment (c.args.b + 4 * c.loop-s.s) c.loop-s.left (c.args.segments - c.loop-s.s) (omega arith))) ∙ c.loop-s.invariant.2)
