-- `vectors::rows::print_larger` is safe: a resource has at most eight runs.
use mathlib.Core.Logic.{⊎_elim}
use Rattle.std.proofs.Common.{◌<◌, ◌≤◌, length, ℕ, ◌*◌, ◌/◌, arith}
use Rattle.resource.proofs.Test.{below_or}
use Rattle.resource.proofs.Held.{held_few}
use Rattle.resource.proofs.Places.{places_few}
use Rattle.kinds.specs.Kinds.{span}
use Rattle.records.specs.Engine.{places_of, larger_runs}
use Rattle.records.proofs.Larger.{narrow_is, wide_is, wide_few}
use Rattle.vectors.proofs.rows.print_larger.Goals as goal

larger_few : (c p : ℕ) → c < 36 → length (larger_runs c p) ≤ 8
larger_few c p h =
    ⊎_elim
    (λ (l : c < 7). rw (narrow_is c p l) (omega (arith, places_few (4 * (p / 4)) (places_of c p))))
    (λ (l : 7 ≤ c). rw (wide_is c p h l) (wide_few c (span c * (p / span c)) h))
    (below_or c 7)

pub print_record-requires : goal.print_record-requires
print_record-requires g c = held_few _ _ c.larger_tones-t.ensures (larger_few _ _ c.requires.2)
