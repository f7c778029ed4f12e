-- Masks of which each is apart from the union of those before it have no pair that meets.
use mathlib.Core.Path.{◌≡◌, refl, sym, ◌∙◌, ap}
use mathlib.Core.Logic.{⊎_elim}
use mathlib.Core.Bool.{Bool, true, false, not, ◌&&◌}
use mathlib.Core.List.{[]}
use Prim.Native.Nat.{ℕ, zero, suc, ◌*◌, ◌/◌, ◌%◌, ◌<◌}
use native.Mathlib.Omega.{arith}
use native.Mathlib.Nat.{eq-or-lt_of_le, le_of_suc-le-suc}
use lib.Arith.{bin_ind}
use lib.Bits.{bit_and, bit_or, and_step, or_step}
use lib.Dec.{T, ltb, eqb, eqb→eq}
use borrow.Author.Tests.{ltb-true}
use mir.Facts.{and_yes}
use Rattle.answer.specs.Tally.{tally}
use Rattle.answer.proofs.Tally.{tally_none}
use Rattle.masks.specs.Engine.{union_to, apart_to, meet, hit, pairs_to}
use Rattle.masks.proofs.Rows.{pairs_skip}

-- what has no bit of a union has none of either part
or_apart : (a b c : ℕ) → bit_and (bit_or a b) c ≡ 0 → (bit_and a c ≡ 0) × (bit_and b c ≡ 0)
or_apart =
    bin_ind (λ (a : ℕ). (b c : ℕ) → bit_and (bit_or a b) c ≡ 0 → (bit_and a c ≡ 0) × (bit_and b c ≡ 0)) (λ b c e. (refl, e))
    (λ a ih b c e.
    let o = or_step a b in
    let h : bit_or (a / 2) (b / 2) ≡ bit_or a b / 2 = omega arith in
    let s = and_step (bit_or a b) c in
    let z : bit_and (bit_or a b / 2) (c / 2) ≡ 0 = omega arith in
    let r = ih (b / 2) (c / 2) (ap (λ (x : ℕ). bit_and x (c / 2)) h ∙ z) in
    (omega (arith, and_step a c, r.0), omega (arith, and_step b c, r.1)))

module _ (m : ℕ → ℕ) where
  in_union : (j c i : ℕ) → i < j → bit_and (union_to m j) c ≡ 0 → bit_and (m i) c ≡ 0
  unfolding union_to
  in_union zero c i l e = absurd (omega arith)
  in_union (suc j) c i l e =
      let r = or_apart (union_to m j) (m j) c e in
      ⊎_elim (λ (q : i ≡ j). rw q r.1) (λ (q : i < j). in_union j c i q r.0) (eq-or-lt_of_le (le_of_suc-le-suc l))

  from_union : (n : ℕ) → T (apart_to m n) → (j : ℕ) → j < n → bit_and (union_to m j) (m j) ≡ 0
  unfolding apart_to
  from_union zero e j l = absurd (omega arith)
  from_union (suc n) e j l =
      let r = and_yes (apart_to m n) (eqb (bit_and (union_to m n) (m n)) 0) e in
      ⊎_elim (λ (q : j ≡ n). rw q (eqb→eq (bit_and (union_to m n) (m n)) 0 r.1)) (λ (q : j < n). from_union n r.0 j q)
      (eq-or-lt_of_le (le_of_suc-le-suc l))

  module _ (n : ℕ) (e : apart_to m n ≡ true) where
    pub apart_two : (i j : ℕ) → i < j → j < n → bit_and (m i) (m j) ≡ 0
    apart_two i j h l = in_union j (m j) i h (from_union n (rw e tt) j l)

    no_hit : (q : ℕ) → hit m n q ≡ false
    unfolding hit meet
    no_hit q = go (ltb (q / 32) (q % 32)) (ltb (q % 32) n) refl refl
      where
        never : (t : Bool) → (t && false) ≡ false
        never true = refl
        never false = refl

        go : (a b : Bool) → ltb (q / 32) (q % 32) ≡ a → ltb (q % 32) n ≡ b → ((a && b) && meet (m (q / 32)) (m (q % 32))) ≡ false
        go true true f g =
            rw (apart_two (q / 32) (q % 32) (ltb-true (q / 32) (q % 32) f) (ltb-true (q % 32) n g)) (never (not (eqb (m (q / 32)) (m (q % 32)))))
        go true false f g = refl
        go false b f g = refl

    pub none_counted : tally (hit m n) (32 * n) ≡ 0
    none_counted = tally_none (hit m n) (32 * n) (λ k l. no_hit k)

    pub none_written : pairs_to m n (32 * n) ≡ []
    unfolding pairs_to
    none_written = sym (pairs_skip m n 0 (32 * n) (omega arith) (λ k h l. no_hit k))
