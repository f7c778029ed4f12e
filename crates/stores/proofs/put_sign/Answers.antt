-- `stores::put_sign` meets its contract.
use Rattle.stores.proofs.Laws.{sign_over}
use Rattle.stores.proofs.put_sign.Goals as goal

pub returns-clause-over : goal.returns-clause-over
returns-clause-over c = rw c.one_if.ensures.value (sign_over c.args.out.now c.args.at c.args.u c.args.zero)
