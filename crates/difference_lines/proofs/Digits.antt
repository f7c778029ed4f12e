-- The hex digits, by what the code adds to a number.
use mathlib.Core.Path.{◌≡◌}
use Prim.Native.Nat.{ℕ, ◌+◌, ◌≤◌, ◌<◌}
use lib.Dec.{T, eqb, leb, eqb→eq}
use Rattle.input.specs.Form.{hex_digit}
use Rattle.resource.proofs.Test.{wherever, below, every_below, every_between}

tests : T (below (λ d. eqb (48 + d) (hex_digit d)) 10) × T (below (λ d. wherever (leb 10 d) (eqb (55 + d) (hex_digit d))) 16)
unfolding hex_digit
tests = (tt, tt)

pub low_digit : (d : ℕ) → d < 10 → 48 + d ≡ hex_digit d
low_digit d l = eqb→eq (48 + d) (hex_digit d) (every_below (λ d. eqb (48 + d) (hex_digit d)) 10 tests.0 d l)

pub high_digit : (d : ℕ) → 10 ≤ d → d < 16 → 55 + d ≡ hex_digit d
high_digit d h l = eqb→eq (55 + d) (hex_digit d) (every_between (λ d. eqb (55 + d) (hex_digit d)) 10 16 d tests.1 h l)
