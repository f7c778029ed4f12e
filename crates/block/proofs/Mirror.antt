-- The mirrored register is the register: a place moved is a step.
use Prim.Native.Nat.{ℕ, zero, suc, ◌+◌, ◌-◌, ◌*◌, ◌/◌, ◌%◌, ◌^◌, ◌≤◌, ◌<◌}
use mathlib.Core.Path.{◌≡◌, refl, sym, ◌∙◌, ap}
use mathlib.Core.List.{List}
use native.Mathlib.Numerals.{add-one}
use native.Mathlib.Nat.{add-zero, div-one, div-eq_of_lt}
use native.Mathlib.Omega.{arith}
use lib.Bits.{bit_xor, xor_comm}
use lib.Pow as P
use Rattle.answer.specs.Least.{least}
use Rattle.answer.proofs.Least.{equal_below}
use Rattle.bits.specs.Bits.{bit, field}
use Rattle.bits.proofs.Fields.{field_bit, field_lt}
use Rattle.block.specs.Check.{step, register, sent}
use Rattle.block.proofs.Checks.{step_lt, register_lt}
use Rattle.register.specs.Engine.{shift, shifts}
use Rattle.register.proofs.Xor.{xor_odd, xor_half, xor_assoc}

-- ---- the register by parts of its block

-- the register r after the m lowest bits of w, the lowest first
unfoldable pub steps : ℕ → ℕ → ℕ → ℕ
steps r w zero = r
steps r w (suc m) = step (steps r w m) (w / 2 ^ m % 2)

pub steps_lt : (r w m : ℕ) → r < 256 → steps r w m < 256
unfolding steps
steps_lt r w zero l = l
steps_lt r w (suc m) l = step_lt (steps r w m) (w / 2 ^ m % 2)

-- some of the n bits that follow the first k, as a field has them
pub register_part : (s : List ℕ) (at k n m : ℕ) → m ≤ n → steps (register s at k) (field s (at + k) n) m ≡ register s at (k + m)
unfolding steps register
register_part s at k n zero l = rw add-zero refl
register_part s at k n (suc m) l =
    let e : field s (at + k) n / 2 ^ m % 2 ≡ bit s (at + k + m) = field_bit s (at + k) n m (omega arith) in
    let f : at + k + m ≡ at + (k + m) = omega arith in
    let g : k + suc m ≡ suc (k + m) = omega arith in
    let h = register_part s at k n m (omega arith) in
    rw (h, e, f, g) refl

-- ---- eight bits in the reverse order, tested at all 256

unfoldable pub mirror : ℕ → ℕ
mirror r =
    r / 128 % 2 + r / 64 % 2 * 2 + r / 32 % 2 * 4 + r / 16 % 2 * 8 + r / 8 % 2 * 16 + r / 4 % 2 * 32 + r / 2 % 2 * 64 + r % 2 * 128

pub mirror_lt : (r : ℕ) → mirror r < 256
unfolding mirror
mirror_lt r = omega arith

pub mirror_twice : (r : ℕ) → r < 256 → mirror (mirror r) ≡ r
unfolding mirror least
mirror_twice = equal_below (λ r. mirror (mirror r)) (λ r. r) 256 refl

step_mirror : (b r : ℕ) → b < 2 → r < 256 → mirror (step r b) ≡ bit_xor (mirror r / 2) (224 * ((mirror r + b) % 2))
unfolding mirror step least
step_mirror zero r l h =
    equal_below (λ r. mirror (step r 0)) (λ r. bit_xor (mirror r / 2) (224 * ((mirror r + 0) % 2))) 256 refl r h
step_mirror (suc zero) r l h =
    equal_below (λ r. mirror (step r 1)) (λ r. bit_xor (mirror r / 2) (224 * ((mirror r + 1) % 2))) 256 refl r h
step_mirror (suc (suc b)) r l h = absurd (omega arith)

-- the four bits that are sent, inverted, are its lowest
pub sent_mirror : (r : ℕ) → r < 256 → sent (255 - r) ≡ 15 - mirror r % 16
unfolding mirror sent least
sent_mirror r h = equal_below (λ r. sent (255 - r)) (λ r. 15 - mirror r % 16) 256 refl r h

pub mirror_start : (s : List ℕ) (at : ℕ) → 255 ≡ mirror (register s at 0)
unfolding mirror register
mirror_start s at = refl

-- ---- the bits of a word

one_place : (w r : ℕ) → r < 256 → shift (bit_xor w (mirror r)) ≡ bit_xor (w / 2) (mirror (step r (w % 2)))
unfolding shift
one_place w r h =
    let e : bit_xor w (mirror r) % 2 ≡ (mirror r + w % 2) % 2 = omega (arith, xor_odd w (mirror r)) in
    rw (xor_half w (mirror r), e, step_mirror (w % 2) r (omega arith) h)
    (xor_assoc (w / 2) (mirror r / 2) (224 * ((mirror r + w % 2) % 2)))

-- after m places the word has moved by m, and the register is the one after its m lowest bits
shifted : (r w m : ℕ) → r < 256 → shifts (bit_xor w (mirror r)) m ≡ bit_xor (w / 2 ^ m) (mirror (steps r w m))
unfolding shifts steps
shifted r w zero l = ap (λ (x : ℕ). bit_xor x (mirror r)) (sym (div-one w))
shifted r w (suc m) l =
    ap shift (shifted r w m l)
    ∙ one_place (w / 2 ^ m) (steps r w m) (steps_lt r w m l)
    ∙ ap (λ (x : ℕ). bit_xor x (mirror (step (steps r w m) (w / 2 ^ m % 2)))) (P.shr-shr w m 1 ∙ ap (λ (k : ℕ). w / 2 ^ k) (add-one m))

-- a word of m bits is moved out whole, and m steps are made
pub all_out : (r w m : ℕ) → r < 256 → w < 2 ^ m → shifts (bit_xor (mirror r) w) m ≡ mirror (steps r w m)
all_out r w m l h =
    ap (λ (x : ℕ). shifts x m) (xor_comm (mirror r) w)
    ∙ shifted r w m l
    ∙ ap (λ (x : ℕ). bit_xor x (mirror (steps r w m))) (div-eq_of_lt h)

-- the m bits that follow the first k
pub mirror_part : (s : List ℕ) (at k m : ℕ)
    → shifts (bit_xor (mirror (register s at k)) (field s (at + k) m)) m ≡ mirror (register s at (k + m))
mirror_part s at k m =
    all_out (register s at k) (field s (at + k) m) m (register_lt s at k) (field_lt s (at + k) m)
    ∙ ap mirror (register_part s at k m m (omega arith))
