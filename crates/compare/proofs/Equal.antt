-- Frames that the code finds to read the same have no difference.
use mathlib.Core.Path.{◌≡◌, refl, sym, ap, ◌∙◌}
use mathlib.Core.Bool.{Bool, true, false, cond, not, false≢true}
use mathlib.Core.List.{List, []}
use Prim.Native.Nat.{ℕ, ◌+◌, ◌-◌, ◌<◌}
use native.Mathlib.Omega.{arith}
use borrow.Author.Tests.{le-ltb, ltb-true, ltb-false, leb-true, eqb-true, eq-eqb}
use lib.Dec.{ltb, leb, eqb}
use lib.ListN.{length}
use lib.Pointwise.{pointwise, bytes_decides}
use Rattle.answer.specs.Least.{least}
use Rattle.answer.specs.Lists.{at}
use Rattle.std.specs.Prelude.{Ok}
use Rattle.answer.proofs.Least.{least_le, least_none, equal_below}
use Rattle.answer.proofs.Lists.{build_is}
use Rattle.bits.specs.Bits.{field}
use Rattle.bits.specs.Pack.{unpack}
use Rattle.channel.specs.Layout.{overflow, row, count, user_at}
use Rattle.channel.specs.Fields.{overflow_widths}
use Rattle.channel.proofs.Laws.{row_length}
use Rattle.records.specs.Owns.{fields_before}
use Rattle.halves.specs.Table.{outcome11}
use Rattle.both_halves.specs.Engine.{Given}
use Rattle.listed.specs.Listing.{resources}
use Rattle.compared.specs.Reading.{user_bits, reading_of}
use Rattle.compared.specs.Differences.{comparison}
use Rattle.compared.specs.Text.{difference_lines, comparison_text}
use Rattle.compared.proofs.Silent.{Equal, equal_silent}
use Rattle.compare.specs.Engine.{first_other, first_changed, all_same}
use Rattle.compare.proofs.Coded.{fields_1, fields_2}

-- what the code has looked at
pub record Same (bw v w : ℕ) (r t a b : List ℕ) (m k : ℕ) (c d : List ℕ) : Type 0 where
  pub overflows : v ≡ w
  pub values : (p : ℕ) → p < length r → at r p ≡ at t p
  pub bits_1 : (i : ℕ) → i < m → field a (user_at bw i) 22 ≡ field c (user_at bw i) 22
  pub bits_2 : (i : ℕ) → i < k → field b (user_at bw i) 22 ≡ field d (user_at bw i) 22

all_same_lem : (bw v w : ℕ) (r t a b : List ℕ) (m k : ℕ) (c d : List ℕ) → all_same bw v w r t a b m k c d ≡ true → Same bw v w r t a b m k c d
unfolding all_same first_other first_changed
all_same_lem bw v w r t a b m k c d =
    go (eqb v w) refl (ltb (least f (length r)) (length r)) refl (ltb (least g m) m) refl (leb k (least h k)) refl
  where
    f : ℕ → Bool
    f p = not (eqb (at r p) (at t p))

    g : ℕ → Bool
    g i = not (eqb (field a (user_at bw i) 22) (field c (user_at bw i) 22))

    h : ℕ → Bool
    h i = not (eqb (field b (user_at bw i) 22) (field d (user_at bw i) 22))

    go : (s : Bool) → eqb v w ≡ s → (x : Bool) → ltb (least f (length r)) (length r) ≡ x → (y : Bool) → ltb (least g m) m ≡ y
        → (z : Bool) → leb k (least h k) ≡ z → cond s (cond x false (cond y false z)) false ≡ true → Same bw v w r t a b m k c d
    go true e false p false q true o u = record {
      overflows = eqb-true v w e;
      values = equal_below (at r) (at t) (length r) (omega (arith, least_le f (length r), ltb-false (least f (length r)) (length r) p));
      bits_1 = equal_below (λ i. field a (user_at bw i) 22) (λ i. field c (user_at bw i) 22) m (omega (arith, least_le g m, ltb-false (least g m) m q));
      bits_2 = equal_below (λ i. field b (user_at bw i) 22) (λ i. field d (user_at bw i) 22) k (omega (arith, least_le h k, leb-true k (least h k) o));
    }
    go true e true p y q z o u = absurd (false≢true u)
    go true e false p true q z o u = absurd (false≢true u)
    go true e false p false q false o u = absurd (false≢true u)
    go false e x p y q z o u = absurd (false≢true u)

-- lists of one length with the same elements
same_list : (r t : List ℕ) → length t ≡ length r → ((p : ℕ) → p < length r → at r p ≡ at t p) → r ≡ t
same_list r t l h = build_is (at t) 0 r (length r) refl h ∙ sym (build_is (at t) 0 t (length r) l (λ i j. refl))

-- whether two rows are the same, as `==` of slices tells
pub rows_apart : (r t : List ℕ) → length t ≡ length r → true ≡ not (pointwise eqb r t) → ltb (first_other r t) (length r) ≡ true
unfolding first_other
rows_apart r t l e = go (ltb (least f (length r)) (length r)) refl
  where
    f : ℕ → Bool
    f p = not (eqb (at r p) (at t p))

    go : (s : Bool) → ltb (least f (length r)) (length r) ≡ s → ltb (least f (length r)) (length r) ≡ true
    go true h = h
    go false h =
        let same = equal_below (at r) (at t) (length r) (omega (arith, least_le f (length r), ltb-false (least f (length r)) (length r) h)) in
        absurd (false≢true (sym (e ∙ ap not ((bytes_decides r t).1 (same_list r t l same)))))

pub rows_same : (r t : List ℕ) → false ≡ not (pointwise eqb r t) → ltb (first_other r t) (length r) ≡ false
unfolding first_other
rows_same r t e =
    let same = (bytes_decides r t).0 (yes (pointwise eqb r t) e) in
    rw (least_none (λ p. not (eqb (at r p) (at t p))) (length r) (λ k l. ap not (eq-eqb _ _ (ap (λ (s : List ℕ). at s k) same))))
    (le-ltb (length r) (length r) (omega arith))
  where
    yes : (b : Bool) → false ≡ not b → b ≡ true
    yes true h = refl
    yes false h = absurd (false≢true h)

module _ (bw : ℕ) (a b c d : List ℕ) (e : outcome11 bw a b ≡ Ok tt) (f : outcome11 bw c d ≡ Ok tt)
    (s : Same bw (overflow a) (overflow c) (row bw a b) (row bw c d) a b (count bw 1 a) (count bw 2 b) c d) where
  rows : row bw a b ≡ row bw c d
  rows = same_list (row bw a b) (row bw c d) (row_length bw c d ∙ sym (row_length bw a b)) s.values

  counts_1 : count bw 1 a ≡ count bw 1 c
  counts_1 = fields_1 bw a b e ∙ ap (λ (r : List ℕ). fields_before 1 (at r) (length r)) rows ∙ sym (fields_1 bw c d f)

  counts_2 : count bw 2 b ≡ count bw 2 d
  counts_2 = fields_2 bw a b e ∙ ap (λ (r : List ℕ). fields_before 2 (at r) (length r)) rows ∙ sym (fields_2 bw c d f)

  bits_same : (i : ℕ) → i < count bw 1 a + count bw 2 b → user_bits bw a b (count bw 1 a) i ≡ user_bits bw c d (count bw 1 a) i
  unfolding user_bits
  bits_same i l = go (ltb i (count bw 1 a)) refl
    where
      go : (t : Bool) → ltb i (count bw 1 a) ≡ t
          → cond t (field a (user_at bw i) 22) (field b (user_at bw (i - count bw 1 a)) 22)
          ≡ cond t (field c (user_at bw i) 22) (field d (user_at bw (i - count bw 1 a)) 22)
      go true q = s.bits_1 i (ltb-true i (count bw 1 a) q)
      go false q = s.bits_2 (i - count bw 1 a) (omega (arith, ltb-false i (count bw 1 a) q))

  equal : Equal (reading_of bw a b) (reading_of bw c d)
  unfolding reading_of
  equal = record {
    equal_bandwidth = refl;
    equal_overflows = ap (unpack overflow_widths) s.overflows;
    equal_values = rows;
    equal_plan = ap resources rows;
    equal_fields = rw (counts_1, counts_2);
    equal_bits = λ i l. bits_same i l ∙ ap (λ (m : ℕ). user_bits bw c d m i) counts_1;
    equal_owner = λ i. rw (rows, counts_1);
  }

  none : comparison_text bw a b bw c d ≡ []
  unfolding comparison_text comparison difference_lines
  none = rw (e, f, equal_silent (reading_of bw a b) (reading_of bw c d) equal)

-- by what the code is given of both
pub no_text : (bw : ℕ) (a b c d : List ℕ) → outcome11 bw a b ≡ Ok tt → outcome11 bw c d ≡ Ok tt → {r s t u : List ℕ} {m k m' k' : ℕ}
    → Given bw a b r s m k → Given bw c d t u m' k' → all_same bw (overflow a) (overflow c) r t a b m k c d ≡ true → comparison_text bw a b bw c d ≡ []
no_text bw a b c d e f g h q =
    none bw a b c d e f
    (rw (g.the_row, h.the_row, g.count1, g.count2) at (all_same_lem bw (overflow a) (overflow c) _ _ a b _ _ c d q))
