-- `plan::channel_fields` meets its contract.
use Rattle.resource.proofs.Fields.{fields_most as most_fields}
use Rattle.std.proofs.Common.{length, ◌+◌, ◌∙◌, arith}
use Rattle.plan.proofs.Value.{fields_most, fields_next, fields_end}
use Rattle.answer.specs.Lists.{at}
use Rattle.plan.proofs.channel_fields.Goals as goal

pub overflow_add-sum : goal.overflow_add-sum
overflow_add-sum c =
    let m = fields_most c.args.channel (at c.args.row.now) c.loop-p.p in
    let k = most_fields (at c.args.row.now c.loop-p.p) in
    omega (arith, c.from-sum.ensures, c.fields_of.ensures, c.loop-p.invariant.2)

pub returns : goal.returns
returns c = c.loop-p.invariant.2 ∙ fields_end c.args.channel (at c.args.row.now) (length c.args.row.now) c.loop-p.p (omega arith) (omega arith)
    c.loop-p.invariant.1

pub returns-2 : goal.returns-2
returns-2 c =
    let p = c.loop-p.p in
    let f = fields_end c.args.channel (at c.args.row.now) (length c.args.row.now) (p + 2) (omega arith) (omega arith) (omega arith) in
    rw (c.loop-p.invariant.2, c.from-sum.ensures, c.fields_of.ensures) (fields_next c.args.channel (at c.args.row.now) p c.loop-p.invariant.1 ∙ f)
