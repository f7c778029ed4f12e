-- `text::put_dec` meets its contract.
use native.Mathlib.Omega.{arith}
use Prim.Native.Nat.{◌/◌}
use Rattle.text.specs.Text.{dec}
use Rattle.text.proofs.Laws.{dec_short, dec_fit, dec_more}
use Rattle.text.proofs.+put_dec.Goals as goal

pub returns-then-n-lt10000-clause-wrote : goal.returns-then-n-lt10000-clause-wrote
unfolding dec
returns-then-n-lt10000-clause-wrote t c = c.put_four.ensures

pub put_digit-requires : goal.put_digit-requires
put_digit-requires t c = omega (
  arith,
  dec_fit 18 (c.args.n / 10) (omega arith),
  c.put_dec-o.ensures.wrote.next,
)

pub returns-clause-wrote : goal.returns-clause-wrote
returns-clause-wrote t c = let w =
    dec_more c.args.n (omega arith) (omega arith)
    c.put_dec-o.ensures.wrote c.put_digit.ensures in
    w

pub returns-clause-bounded : goal.returns-clause-bounded
returns-clause-bounded t c = let w =
    dec_more c.args.n (omega arith) (omega arith)
    c.put_dec-o.ensures.wrote c.put_digit.ensures in
    omega (arith, dec_short c.args.n, w.next)
