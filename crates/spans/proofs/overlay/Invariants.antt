-- What the loops of `spans::overlay` keep.
use Rattle.segments.specs.Engine.{Entered}
use Rattle.spans.specs.Engine.{overlaid}
use Rattle.answer.specs.Lists.{at}
use lib.ListN.{length}
use mathlib.Core.Path.{◌≡◌}
use Rattle.spans.proofs.overlay.Given as goal

abbrev pub invariant-loop-p : goal.invariant-loop-p
invariant-loop-p l = (length l.kinds ≡ 16) × Entered (overlaid l.fn.kind l.fn.b (at l.initial.kinds)) l.fn.b l.p
    l.initial.kinds l.kinds
