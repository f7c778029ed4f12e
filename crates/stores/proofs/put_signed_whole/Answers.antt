-- `stores::put_signed_whole` meets its contract.
use mathlib.Core.Path.{sym}
use Rattle.text.proofs.Laws.{signed_high}
use Rattle.stores.proofs.Laws.{minus_bytes}
use Rattle.stores.proofs.put_signed_whole.Goals as goal

pub returns-then-u-zero-clause-wrote : goal.returns-then-u-zero-clause-wrote
returns-then-u-zero-clause-wrote c = let t = minus_bytes c.args.u c.args.zero c.if-u-zero.true c.requires.1 in
    rw (c.lead_of.ensures.0, c.digits_of.ensures.0, t) at c.put_short.ensures.wrote

pub returns-clause-wrote : goal.returns-clause-wrote
returns-clause-wrote c = rw (sym (signed_high c.args.u c.args.zero c.if-u-zero.false)) at c.put_digits.ensures.wrote
