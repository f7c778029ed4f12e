-- Engine: 5 of the numbers that hold the common fields. The contracts of the code cite it; nobody has to believe it: `proofs/Held.antt`.
use Rattle.std.specs.Prelude.{cond, ℕ, ◌/◌, ◌%◌, ◌^◌, eqb, ltb}
use Rattle.std.specs.Int.Bits.{bit_xor}
use Rattle.std.specs.Int.Count.{count_trailing_zeros}
use Rattle.answer.specs.Answer.{no, refuse_if, ◌or◌}
use Rattle.answer.specs.Answer.{Outcome}
use Rattle.answer.specs.declared.Refusal.TheVariants.{WrongOverflow}
use Rattle.std.specs.Prelude.{Ok}
use Rattle.channel.specs.declared.Parts.{Parts}

-- overflows that differ in the ones of x
unfoldable pub differ_in : ℕ → Outcome
differ_in x = refuse_if (ltb 0 x) (WrongOverflow 2 (count_trailing_zeros 64 x))

-- channel 1 has at most four LTF symbols, and the overflows, the lowest 17 bits, are the same
unfoldable pub overflow_in : ℕ → Parts → Outcome
overflow_in bw p =
    refuse_if (ltb 4 (p.first1 / 2 ^ 6 % 8)) (WrongOverflow 1 6) or cond (eqb bw 0) (Ok tt) (differ_in (bit_xor p.first1 p.first2 % 131072))
