-- `first_half::all_carried` meets its contract.
use Rattle.std.proofs.Common.{◌≡◌, ◌∙◌, ap, arith, length}
use Rattle.resource.specs.Values.{carried}
use Rattle.answer.specs.Lists.{at}
use Rattle.answer.specs.Every.{every}
use Rattle.halves.specs.Engine.{all_carried}
use Rattle.first_half.proofs.all_carried.Goals as goal

pub returns : goal.returns
unfolding all_carried
returns c =
    let e : c.loop-p.p ≡ length c.args.row.now = omega (arith, c.requires) in
    c.loop-p.invariant.1 ∙ ap (every (λ q. carried (at c.args.row.now q))) e
