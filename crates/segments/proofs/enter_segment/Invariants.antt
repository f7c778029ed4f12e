-- What the loops of `segments::enter_segment` keep.
use Rattle.segments.specs.Engine.{segment_plan, Entered}
use Rattle.answer.specs.Lists.{at}
use lib.ListN.{length}
use mathlib.Core.Path.{◌≡◌}
use Rattle.segments.proofs.enter_segment.Given as goal

abbrev pub invariant-loop-p : goal.invariant-loop-p
invariant-loop-p l = (length l.kinds ≡ 16) × Entered (segment_plan (at l.fn.row)) l.fn.b l.p l.initial.kinds l.kinds
