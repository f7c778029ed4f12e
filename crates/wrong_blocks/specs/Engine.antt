-- Engine: 4 of the numbers that hold the common fields, part by part. The contracts of the code cite it; nobody has to
-- believe it: `proofs/Held.antt`.
use Rattle.std.specs.Prelude.{Bool, true, cond, not, ℕ, ◌+◌}
use Rattle.answer.specs.Answer.{no, refuse_if, ◌or◌}
use Rattle.answer.specs.Answer.{Outcome}
use Rattle.answer.specs.declared.Refusal.TheVariants.{WrongCommonCheck}
use Rattle.std.specs.Prelude.{Ok}
use Rattle.register.specs.Engine.{right_of}
use Rattle.channel.specs.Layout.{present, first_bits, second_at, second_bits, has_second}
use Rattle.channel.specs.declared.Parts.{Parts}

-- the second part, where there is one
unfoldable pub second_right : ℕ → ℕ → Bool
second_right bw z = cond (has_second bw) (right_of z (second_bits bw)) true

-- 4 of channel c, whose parts are x and z
unfoldable pub wrong_held : ℕ → ℕ → ℕ → ℕ → Outcome
wrong_held bw c x z =
    refuse_if (not (right_of x (first_bits bw))) (WrongCommonCheck c (first_bits bw))
    or refuse_if (not (second_right bw z)) (WrongCommonCheck c (second_at bw + second_bits bw))

-- of both, where there are two
unfoldable pub wrong_parts : ℕ → Parts → Outcome
wrong_parts bw p = wrong_held bw 1 p.first1 p.second1 or cond (present bw 2) (wrong_held bw 2 p.first2 p.second2) (Ok tt)
