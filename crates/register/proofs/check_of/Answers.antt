-- `register::check_of` meets its contract.
use native.Mathlib.Omega.{arith}
use lib.Bits.{bit_xor, xor_lt}
use Rattle.register.proofs.Series.{four_factors}
use Rattle.register.proofs.Word.{check_quotient}
use Rattle.register.proofs.check_of.Goals as goal

pub returns : goal.returns
returns c = let z = bit_xor c.args.r c.args.w in
    check_quotient c.args.r c.args.w c.quotient.result c.args.n (omega arith)
    (rw c.quotient.ensures (four_factors z (xor_lt 64 c.args.r c.args.w (omega arith) (omega arith))))
