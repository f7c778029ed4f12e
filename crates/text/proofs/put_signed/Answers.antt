-- `text::put_signed` meets its contract.
use Rattle.text.proofs.Laws.{after, signed_low, signed_high}
use Rattle.text.proofs.put_signed.Goals as goal

pub returns-then-u-zero-clause-wrote : goal.returns-then-u-zero-clause-wrote
returns-then-u-zero-clause-wrote c = rw (signed_low _ _ c.if-u-zero.true) (after c.put-o.ensures c.put_dec.ensures.wrote)

pub returns-else-u-zero-clause-wrote : goal.returns-else-u-zero-clause-wrote
returns-else-u-zero-clause-wrote c =
    rw (signed_high _ _ c.if-u-zero.false) c.put_dec-else-u-zero.ensures.wrote
