-- The laws of the first difference of two lists.
use mathlib.Core.Path.{◌≡◌, ap}
use mathlib.Core.Bool.{true, false, not}
use mathlib.Core.List.{List}
use Prim.Native.Nat.{ℕ, ◌+◌}
use native.Mathlib.Nat.{zero-add}
use lib.Dec.{eqb}
use borrow.Author.Tests.{eq-eqb, ne_eqb, eqb-true, not-false}
use Rattle.answer.specs.Least.{least}
use Rattle.answer.proofs.Least.{least_none, least_all, least_cong}
use Rattle.bits.specs.Bits.{bit, field, differs}
use Rattle.bits.proofs.Fields.{field_ext, field_same}

pub differ : (s t : List ℕ) (i : ℕ) → (bit s i ≡ bit t i → ⊥) → differs s t i ≡ true
unfolding differs
differ s t i d = ap not (ne_eqb (bit s i) (bit t i) d)

pub agree : (s t : List ℕ) (i : ℕ) → bit s i ≡ bit t i → differs s t i ≡ false
unfolding differs
agree s t i e = ap not (eq-eqb (bit s i) (bit t i) e)

pub agrees : (s t : List ℕ) (i : ℕ) → differs s t i ≡ false → bit s i ≡ bit t i
unfolding differs
agrees s t i e = eqb-true (bit s i) (bit t i) (not-false (eqb (bit s i) (bit t i)) e)

-- ranges differ nowhere exactly where their fields are equal
pub differ_nowhere : (s t : List ℕ) (at n : ℕ) → field s at n ≡ field t at n → least (λ k. differs s t (at + k)) n ≡ n
differ_nowhere s t at n e =
    least_none (λ k. differs s t (at + k)) n (λ k l. agree s t (at + k) (field_same s t at at n e k l))

pub nowhere_same : (s t : List ℕ) (at n : ℕ) → least (λ k. differs s t (at + k)) n ≡ n → field s at n ≡ field t at n
nowhere_same s t at n e =
    field_ext s t at at n (λ k l. agrees s t (at + k) (least_all (λ k. differs s t (at + k)) n e k l))

-- a range from bit 0: its place is the bit itself
pub differs_from_0 : (s t : List ℕ) (n : ℕ) → least (λ k. differs s t (0 + k)) n ≡ least (differs s t) n
differs_from_0 s t n =
    least_cong (λ k. differs s t (0 + k)) (differs s t) n (λ k l. ap (λ (i : ℕ). differs s t i) (zero-add k))
