-- `records::owners_of` meets its contract.
use Rattle.records.proofs.Entering.{few_fields, entered}
use Rattle.records.specs.Owns.{fields_before}
use Rattle.answer.specs.Lists.{at}
use Rattle.answer.proofs.Lists.{filled_start}
use Rattle.plan.specs.Engine.{only_plan}
use Rattle.std.proofs.Common.{length, ◌≡◌, refl, arith}
use Rattle.records.proofs.owners_of.Goals as goal

pub loop-p-init : goal.loop-p-init
loop-p-init c = (refl, filled_start _ _)

pub returns : goal.returns
returns c =
    let e : c.loop-p.p ≡ length c.args.row.now = omega arith in
    let j : c.loop-p.j ≡ fields_before c.args.channel (at c.args.row.now) (length c.args.row.now) = rw (← e) c.loop-p.invariant.0 in
    let few = few_fields c.args.channel (at c.args.row.now) (length c.args.row.now) c.requires.0 in
    entered (only_plan (at c.args.row.now)) (at c.args.row.now) c.args.channel (length c.args.row.now) c.loop-p.owners few (rw (← j) c.loop-p.invariant.1)
