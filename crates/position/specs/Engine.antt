-- Engine: where the walk stands after each step. The contracts of the code cite it; nobody has to believe it: `proofs/Steps.antt`.
use Rattle.std.specs.Prelude.{cond, ℕ, ◌+◌, ◌%◌, eqb}

-- past the check and the tail where `next` stands at the check
unfoldable pub past_check : ℕ → ℕ → ℕ
past_check next check = cond (eqb next check) (next + 10) next

-- past User field i of n, and past check and tail where it is its block's last
unfoldable pub past_user : ℕ → ℕ → ℕ → ℕ
past_user next i n = cond (eqb (i % 2) 1) (next + 32) (cond (eqb (i + 1) n) (next + 32) (next + 22))
