-- `stores::put_run` meets its contract.
use native.Mathlib.Omega.{arith}
use mathlib.Core.List.{[]}
use Rattle.text.proofs.Laws.{signed_low, signed_high}
use Rattle.stores.proofs.Laws.{last_bytes, under_weak}
use Rattle.stores.proofs.put_run.Goals as goal

pub returns-then-zero-lo-clause-under : goal.returns-then-zero-lo-clause-under
returns-then-zero-lo-clause-under c = rw (
  signed_high c.args.lo c.args.zero c.if-zero-lo.true,
  signed_high c.args.hi c.args.zero
      (omega (arith, c.if-zero-lo.true, c.requires.0)),
) c.put_high.ensures.under

pub returns-then-hi-zero-clause-under : goal.returns-then-hi-zero-clause-under
returns-then-hi-zero-clause-under c = rw (signed_low c.args.lo c.args.zero c.if-zero-lo.false, signed_low c.args.hi c.args.zero c.if-hi-zero.true)
    c.put_low.ensures.under

pub returns-clause-under : goal.returns-clause-under
returns-clause-under c = under_weak 0 3 (omega arith) (last_bytes [] _ c.args.at (omega arith) c.put_span.ensures.wrote)
