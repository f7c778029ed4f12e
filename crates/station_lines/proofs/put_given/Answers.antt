-- `station_lines::put_given` meets its contract.
use Rattle.std.proofs.Common.{arith, ◌≡◌, sym, ap, ◌∙◌, Bool, cond, ℕ, ◌+◌}
use mir.Val.{bool_byte}
use Rattle.answer.specs.Lists.{at as value}
use Rattle.resource.specs.Values.{divides}
use Rattle.resource.proofs.Fields.{fields_most}
use Rattle.plan.specs.Engine.{only_plan}
use Rattle.records.proofs.Entering.{owner_next}
use Rattle.text.proofs.Laws.{no_item, item}
use Rattle.station_lines.specs.Engine.{given_line}
use Rattle.station_lines.proofs.Walk.{as_number, one_most, few_owners}
use Rattle.station_lines.proofs.put_given.Goals as goal

pub returns-then-f-eq0-clause-wrote : goal.returns-then-f-eq0-clause-wrote
returns-then-f-eq0-clause-wrote c =
    let e : c.args.f ≡ 0 = omega arith in
    rw e (no_item _ _ _)

pub loop-k-init : goal.loop-k-init
loop-k-init c = (ap (λ (x : ℕ). x + 1) c.first_owner.ensures, no_item _ _ _, omega arith)

pub put_sta-o-requires : goal.put_sta-o-requires
put_sta-o-requires c =
    let most = few_owners c.args.row.now c.args.p c.loop-k.k (omega arith) (omega arith) in
    (omega (arith, fields_most (value c.args.row.now c.args.p)), omega (arith, c.station_at.ensures.1), omega (arith, most, c.loop-k.invariant.0))

pub overflow_add-number-in-loop-k : goal.overflow_add-number-in-loop-k
overflow_add-number-in-loop-k c =
    let most = few_owners c.args.row.now c.args.p c.loop-k.k (omega arith) (omega arith) in
    omega (arith, most, c.loop-k.invariant.0, one_most c.is_divided-step.result)

pub loop-k-preserved : goal.loop-k-preserved
loop-k-preserved c =
    let r = value c.args.row.now in
    let o = only_plan r in
    let step : ◌≡◌ {A = ℕ} (cond (divides (r c.args.p)) 1 0) (bool_byte c.is_divided-step.result) =
    sym (as_number c.is_divided-step.result ∙ ap (λ (b : Bool). cond b 1 0) c.is_divided-step.ensures) in (
      omega (arith, c.loop-k.invariant.0, owner_next o r c.args.p c.loop-k.k, step),
      item (given_line c.args.fields.now c.args.i c.args.row.now c.args.p) c.loop-k.k c.loop-k.invariant.1
          (rw (← c.station_at.ensures.0, ← c.loop-k.invariant.0) c.put_sta-o.ensures.wrote),
      omega (arith, c.loop-k.invariant.2, c.put_sta-o.ensures.bounded),
    )
