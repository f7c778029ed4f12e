-- A block that is held in one number: what `register` works out of it is its check, and the test of it.
use Prim.Native.Nat.{ℕ, ◌+◌, ◌-◌, ◌/◌, ◌%◌, ◌^◌, ◌≤◌, ◌<◌}
use mathlib.Core.Path.{◌≡◌, sym, ◌∙◌, ap, ap₂}
use mathlib.Core.List.{List}
use native.Mathlib.Nat.{add-zero, zero-add}
use native.Mathlib.Omega.{arith}
use lib.Bits.{bit_xor}
use lib.Dec.{eqb}
use Rattle.bits.specs.Bits.{field}
use Rattle.bits.proofs.Fields.{inner, field_part}
use Rattle.bits.proofs.Windows.{low_low, field_low}
use Rattle.block.specs.Check.{register, check, right}
use Rattle.block.proofs.Checks.{register_lt, right_ten}
use Rattle.register.specs.Engine.{shifts, product, check_from, right_of}
use Rattle.register.proofs.Series.{quotient_law}
use Rattle.block.proofs.Mirror.{steps, mirror, all_out, mirror_start, mirror_part, sent_mirror}

-- ---- of a list

-- n bits that follow the first k of a block
pub check_from_lem : (s : List ℕ) (at k n w : ℕ) → w % 2 ^ n ≡ field s (at + k) n
    → check_from (mirror (register s at k)) w n ≡ check s at (k + n)
unfolding check_from check
check_from_lem s at k n w e =
    ap (λ (x : ℕ). 15 - shifts (bit_xor (mirror (register s at k)) x) n % 16) e
    ∙ ap (λ (x : ℕ). 15 - x % 16) (mirror_part s at k n)
    ∙ sym (sent_mirror (register s at (k + n)) (register_lt s at (k + n)))

-- a whole block
pub check_whole : (s : List ℕ) (at n w : ℕ) → w % 2 ^ n ≡ field s at n → check_from 255 w n ≡ check s at n
check_whole s at n w e =
    ap (λ (r : ℕ). check_from r w n) (mirror_start s at)
    ∙ check_from_lem s at 0 n w (e ∙ ap (λ (k : ℕ). field s k n) (sym (add-zero at)))
    ∙ ap (λ (k : ℕ). check s at k) (zero-add n)

pub right_whole : (s : List ℕ) (at n w : ℕ) → w % 2 ^ (n + 10) ≡ field s at (n + 10) → right_of w n ≡ right s at n
unfolding right_of
right_whole s at n w e =
    let f : w / 2 ^ n % 1024 ≡ field s (at + n) 10 =
    sym (inner w n 10 (n + 10) (omega arith)) ∙ ap (λ (x : ℕ). x / 2 ^ n % 1024) e ∙ field_part s at (n + 10) n 10 (omega arith) in
    let g : w % 2 ^ n ≡ field s at n =
    sym (low_low w (n + 10) n (omega arith)) ∙ ap (λ (x : ℕ). x % 2 ^ n) e ∙ field_low s at (n + 10) n (omega arith) in
    ap₂ eqb f (check_whole s at n w g) ∙ right_ten s at n

-- ---- of the quotient

-- a law of `step`, over every number of bits: after the n steps of a word of n bits the four lowest bits of the register r,
-- mirrored, are the quotient's from n on
pub quotient_steps : (b r w q n : ℕ) → r < 256 → w < 2 ^ n → n + 4 ≤ b → product q % 2 ^ b ≡ bit_xor (mirror r) w % 2 ^ b
    → q / 2 ^ n % 16 ≡ mirror (steps r w n) % 16
quotient_steps b r w q n l h m e = quotient_law b q (bit_xor (mirror r) w) n m e ∙ ap (λ (x : ℕ). x % 16) (all_out r w n l h)
