-- `stores::put_integer` meets its contract.
use mathlib.Core.Path.{◌≡◌, ap, ◌∙◌}
use native.Mathlib.Omega.{arith}
use Rattle.stores.specs.Engine.{four_of, lead_of, digits_of, zeros_in, apart}
use Rattle.stores.proofs.Laws.{values, apart_few, signed_parts, digits_over, over_more}
use Rattle.stores.proofs.put_integer.Goals as goal

pub returns-clause-over : goal.returns-clause-over
unfolding digits_of four_of
returns-clause-over c = let n = apart c.args.u c.args.zero in
    let few = apart_few c.args.u c.args.zero c.requires.0 c.requires.1 in
    let e : c.zeros_of-lead.result ≡ lead_of n = c.zeros_of-lead.ensures.value ∙ ap zeros_in c.requires.2 ∙ (values n few).zeros in
    let o = digits_over n few (rw (e, c.requires.2) at c.put_four.ensures) in
    rw (signed_parts c.args.u c.args.zero, e) (over_more 1 3 (omega (arith)) c.put_sign-a.ensures.over o)
