-- What the loops of `overlaps::fill_masks` keep.
use Rattle.std.proofs.Common.{◌≡◌, ◌≤◌, length}
use Rattle.answer.specs.Answer.{passes}
use Rattle.answer.specs.Lists.{filled}
use Rattle.overlaps.specs.Engine.{mask_at}
use Rattle.overlaps.specs.Result.{entries_outcome}
use Rattle.overlaps.proofs.fill_masks.Given as goal

abbrev pub invariant-loop-i : goal.invariant-loop-i
invariant-loop-i l = (l.i ≤ l.fn.n) × (length l.masks ≡ 32) × (l.masks ≡ filled (mask_at l.fn.entries) l.i l.initial.masks) ×
    (l.read ≡ passes (entries_outcome l.fn.bandwidth l.fn.entries l.i))
