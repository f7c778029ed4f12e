-- No two resources of an accepted frame's plan are the same: each has a subcarrier, and no two share one.
use mathlib.Core.Path.{◌≡◌, subst}
use mathlib.Core.Bool.{true}
use mathlib.Core.List.{List}
use Prim.Native.Nat.{ℕ, ◌<◌}
use native.Mathlib.Omega.{arith}
use lib.ListN.{length, get_or}
use Rattle.std.specs.Prelude.{Ok}
use Rattle.answer.specs.Lists.{at}
use Rattle.resource.specs.Tones.{Among}
use Rattle.resource.proofs.Agree.{some_tone}
use Rattle.plan.specs.Worked.{the_plan}
use Rattle.records.specs.Records.{blank}
use Rattle.records.specs.Demand.{Width, Sound}
use Rattle.records.proofs.Demand.{sound}
use Rattle.channel.specs.Layout.{positions, row}
use Rattle.channel.proofs.Laws.{row_length}
use Rattle.halves.specs.Table.{outcome11}
use Rattle.listed.specs.Listing.{resources}
use Rattle.both_halves.proofs.Accepted.{known_code, accepted_signals}
use Rattle.compared.specs.Reading.{same_resource}
use Rattle.compared.proofs.Same.{same_tones}

-- ---- of an accepted frame
module _ (bw : ℕ) (a b : List ℕ) (e : outcome11 bw a b ≡ Ok tt) where
  abbrev r : List ℕ
  r = row bw a b

  width : Width (length r)
  unfolding positions
  width = (bw, omega (arith, known_code bw a b e), row_length bw a b)

  plan_sound : Sound (length r) (at r) (resources r)
  plan_sound = sound (the_plan r) (at r) (length r) width (accepted_signals bw a b e)

  pub plan_distinct : (i j : ℕ) → i < j → j < length (resources r) → same_resource (get_or (resources r) i blank) (get_or (resources r) j blank) ≡ true → ⊥
  plan_distinct i j l m q =
      let t = some_tone _ _ (plan_sound.named i (omega arith)) in
      plan_sound.apart i j t.0 (omega arith) m (λ h. omega arith) t.1
      (subst (Among t.0) (same_tones (get_or (resources r) i blank) (get_or (resources r) j blank) q (length r)) t.1)
