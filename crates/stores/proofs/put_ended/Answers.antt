-- `stores::put_ended` meets its contract.
use mathlib.Core.Path.{◌≡◌, ap, ◌∙◌}
use Rattle.stores.specs.Engine.{four_of, lead_of, ended_of, zeros_in, apart}
use Rattle.stores.proofs.Laws.{values, apart_few, ended_integer}
use Rattle.stores.proofs.put_ended.Goals as goal

pub returns-clause-wrote : goal.returns-clause-wrote
unfolding ended_of four_of
returns-clause-wrote c = let n = apart c.args.u c.args.zero in
    let few = apart_few c.args.u c.args.zero c.requires.0 c.requires.1 in
    let e : c.zeros_of-lead.result ≡ lead_of n = c.zeros_of-lead.ensures.value ∙ ap zeros_in c.requires.2 ∙ (values n few).zeros in
    ended_integer c.args.u c.args.zero c.args.c c.requires.0 c.requires.1 c.requires.4 c.put_sign-a.ensures.over
    (rw (e, c.requires.2) at c.put_short.ensures.wrote)
