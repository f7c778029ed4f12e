-- What the loops of `overlaps::first_refused` keep, and what falls.
use Rattle.std.proofs.Common.{◌≡◌, ◌≤◌}
use Rattle.std.specs.Prelude.{Ok}
use Rattle.overlaps.specs.Result.{entries_outcome}
use Rattle.overlaps.proofs.first_refused.Given as goal

abbrev pub invariant-loop-i : goal.invariant-loop-i
invariant-loop-i l = (l.i ≤ l.fn.n) × (entries_outcome l.fn.bandwidth l.fn.entries l.i ≡ Ok tt)
