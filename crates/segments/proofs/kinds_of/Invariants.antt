-- What the loops of `segments::kinds_of` keep.
use Rattle.segments.specs.Engine.{segment_plan}
use Rattle.answer.specs.Lists.{at, filled}
use lib.ListN.{length, replicate}
use Prim.Native.Nat.{◌*◌, min}
use mathlib.Core.Path.{◌≡◌}
use Rattle.segments.proofs.kinds_of.Given as goal

abbrev pub invariant-loop-s : goal.invariant-loop-s
invariant-loop-s l = (length l.kinds ≡ 16) × (l.kinds ≡ filled (segment_plan (at l.fn.row)) (min (4 * l.s) (length l.fn.row)) (replicate 16 0))
