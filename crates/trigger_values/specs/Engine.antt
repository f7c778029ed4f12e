-- Engine: how the code finds which bandwidths take a value, and the value of a resource by its size and index. The contracts of the code
-- cite it; nobody has to believe it: `proofs/Taken.antt` and `proofs/Back.antt`.
use Rattle.std.specs.Prelude.{cond, ◌&&◌, ℕ, ◌+◌, ◌-◌, leb, eqb}
use Rattle.answer.specs.Least.{least}
use Rattle.trigger_values.specs.Values.{taken}

-- the narrowest bandwidth code that takes a value, 3 where none does
unfoldable pub code_from : ℕ → ℕ
code_from v = least (λ b. taken b v) 3

-- the value of the i-th of a kind that has n, the first of them being f; 128, which is none, where there is no i-th
unfoldable pub nth_of : ℕ → ℕ → ℕ → ℕ
nth_of i n f = cond (leb 1 i && leb i n) (f + i - 1) 128

-- the value that could name the resource of s subcarriers with index i
unfoldable pub value_for : ℕ → ℕ → ℕ
value_for s i =
    cond (eqb s 26) (nth_of i 37 0)
    (cond (eqb s 52) (nth_of i 16 37)
    (cond (eqb s 106) (nth_of i 8 53)
    (cond (eqb s 242) (nth_of i 4 61)
    (cond (eqb s 484) (nth_of i 2 65)
    (cond (eqb s 996) (nth_of i 1 67)
    (cond (eqb s 132) (nth_of i 8 82)
    (cond (eqb s 726) (nth_of i 4 90) 128)))))))
