-- What the loops of `first_half::all_carried` keep.
use Rattle.std.proofs.Common.{◌≤◌, ◌≡◌}
use Rattle.resource.specs.Values.{carried}
use Rattle.answer.specs.Lists.{at}
use Rattle.answer.specs.Every.{every}
use Rattle.first_half.proofs.all_carried.Given as goal

abbrev pub invariant-loop-p : goal.invariant-loop-p
invariant-loop-p l = (l.p ≤ 16) × (l.all ≡ every (λ q. carried (at l.fn.row q)) l.p)
