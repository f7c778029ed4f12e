-- The text that the code makes, group by group, is that of the differences (02, T-06).
use mathlib.Core.Path.{◌≡◌, refl, sym, ap, ap₂, ◌∙◌}
use mathlib.Core.Bool.{Bool, true, false, cond, not, ◌&&◌, false≢true}
use mathlib.Core.List.{List, [], ◌∷◌, ◌++◌, append_assoc, append-nil}
use Prim.Native.Nat.{ℕ, zero, suc, ◌≤◌, ◌<◌, max}
use native.Mathlib.Omega.{arith}
use borrow.Author.Tests.{lt-ltb, le-ltb, ltb-true, ltb-false, eqb-true, eqb-false, eq-eqb, ne_eqb}
use lib.Dec.{ltb, eqb}
use lib.ListN.{length, replicate}
use Rattle.std.specs.Prelude.{Option, Some, None}
use Rattle.std.specs.Option.{option_eq}
use Rattle.answer.specs.Lists.{at, filled}
use Rattle.std.specs.Prelude.{Ok}
use Rattle.text.specs.Text.{upto}
use Rattle.text.proofs.Laws.{upto_cong}
use Rattle.channel.specs.Layout.{overflow, row, count}
use Rattle.channel.proofs.Laws.{row_length}
use Rattle.halves.specs.Table.{outcome11}
use Rattle.plan.specs.Engine.{only_plan}
use Rattle.records.specs.Records.{records_from}
use Rattle.both_halves.specs.Engine.{Given}
use Rattle.user_codes.specs.Engine.{record_code, resource_codes, user_code, owned_code}
use Rattle.compared.specs.Reading.{Item, overflow_is, value_is, Reading, reading_of, tells}
use Rattle.compared.specs.Differences.{Difference, by, nth, in_turn, longer, turns, overflow_item, value_item, user_item, overflow_turns, value_turns}
use Rattle.compared.specs.Differences.{resource_items, user_turns, all_said, differs, keep, differences, comparison}
use Rattle.compared.specs.Text.{item_line, difference_line, difference_lines, comparison_text}
use Rattle.compared.proofs.Keep.{keep_append}
use Rattle.only_in.specs.Engine.{only_lines}
use Rattle.only_in.proofs.Only.{only_first, only_second}
use Rattle.compare.specs.Engine.{overflow_pair, overflow_turn, value_turn, common_text, same_code, code_if, code_turn, code_turns}
use Rattle.compare.specs.Engine.{channel_codes, frame_code, fields_text, code_part}
use Rattle.difference_lines.specs.Engine.{code_line}
use Rattle.compare.proofs.Coded.{Bounds, code_same, coded, frame_code_lem, code_bounds}

pub longer_most : {m n k : ℕ} → m ≤ k → n ≤ k → longer m n ≤ k
unfolding longer
longer_most {m} {n} {k} h l = go (ltb m n)
  where
    go : (t : Bool) → cond t n m ≤ k
    go true = l
    go false = h

pub longer_max : (m n : ℕ) → max m n ≡ longer m n
unfolding longer
longer_max m n = go (ltb m n) refl
  where
    go : (t : Bool) → ltb m n ≡ t → max m n ≡ cond t n m
    go true e = let l = ltb-true m n e in omega arith
    go false e = let l = ltb-false m n e in omega arith

eqb_swap : (x y : ℕ) → eqb x y ≡ eqb y x
eqb_swap x y = go (eqb x y) refl
  where
    go : (t : Bool) → eqb x y ≡ t → t ≡ eqb y x
    go true e = sym (eq-eqb y x (sym (eqb-true x y e)))
    go false e = sym (ne_eqb y x (λ f. eqb-false x y e (sym f)))

-- ---- lines one after the other
pub lines_append : (n : ℕ) (xs ys : List Difference) → difference_lines n (xs ++ ys) ≡ difference_lines n xs ++ difference_lines n ys
unfolding difference_lines
lines_append n [] ys = refl
lines_append n (x ∷ xs) ys =
    ap (λ (t : List ℕ). difference_line n x ++ t) (lines_append n xs ys) ∙ sym (append_assoc (difference_line n x) (difference_lines n xs)
    (difference_lines n ys))

module _ (n : ℕ) (t : Difference → Bool) where
  kept_append : (xs ys : List Difference) → difference_lines n (keep t (xs ++ ys)) ≡ difference_lines n (keep t xs) ++ difference_lines n (keep t ys)
  kept_append xs ys = ap (difference_lines n) (keep_append t xs ys) ∙ lines_append n (keep t xs) (keep t ys)

  -- item by item
  pub turn_lines : (f : ℕ → Item) (m : ℕ) (g : ℕ → Item) (k i : ℕ)
      → difference_lines n (keep t (in_turn f m g k i)) ≡ upto (λ j. difference_lines n (keep t (nth 1 f m j ++ nth 2 g k j))) i
  unfolding in_turn upto keep difference_lines
  turn_lines f m g k zero = refl
  turn_lines f m g k (suc i) =
      kept_append (in_turn f m g k i) (nth 1 f m i ++ nth 2 g k i)
      ∙ ap (λ (x : List ℕ). x ++ difference_lines n (keep t (nth 1 f m i ++ nth 2 g k i))) (turn_lines f m g k i)

  -- both frames' lines, or none
  pub pair_lines : (d e : Difference) (b : Bool) → t d ≡ not b → t e ≡ not b
      → difference_lines n (keep t (d ∷ e ∷ [])) ≡ cond b [] (difference_line n d ++ difference_line n e)
  unfolding keep difference_lines
  pair_lines d e true p q = rw (p, q)
  pair_lines d e false p q = rw (p, q, append-nil)

  one_line : (d : Difference) → t d ≡ true → difference_lines n (keep t (d ∷ [])) ≡ difference_line n d
  unfolding keep difference_lines
  one_line d p = rw (p, append-nil)

longer_same : (k : ℕ) → longer k k ≡ k
unfolding longer
longer_same k = rw (le-ltb k k (omega arith))

-- ---- the overflow and the values, which both frames have as many of
module _ (x y : Reading) (n : ℕ) where
  overflow_here : length x.overflows ≡ 7 → length y.overflows ≡ 7 → (k : ℕ) → k < 7
      → difference_lines n (keep (differs x y) (nth 1 (overflow_item x) 7 k ++ nth 2 (overflow_item y) 7 k))
      ≡ overflow_pair k (at x.overflows k) (at y.overflows k)
  unfolding nth overflow_pair differs tells difference_line item_line
  overflow_here h l k j =
      let v = at x.overflows k in
      let w = at y.overflows k in
      rw (lt-ltb k 7 j)
      (pair_lines n (differs x y) (by 1 (overflow_is k v)) (by 2 (overflow_is k w)) (eqb v w)
      (rw (l, lt-ltb k 7 j) (ap not (eqb_swap w v)))
      (rw (h, lt-ltb k 7 j)))

  overflow_lines : length x.overflows ≡ 7 → length y.overflows ≡ 7
      → difference_lines n (keep (differs x y) (overflow_turns x y)) ≡ upto (λ k. overflow_pair k (at x.overflows k) (at y.overflows k)) 7
  unfolding overflow_turns turns
  overflow_lines h l =
      rw (h, l, longer_same 7)
      (turn_lines n (differs x y) (overflow_item x) 7 (overflow_item y) 7 7
      ∙ upto_cong
      (λ k. difference_lines n (keep (differs x y) (nth 1 (overflow_item x) 7 k ++ nth 2 (overflow_item y) 7 k)))
      (λ k. overflow_pair k (at x.overflows k) (at y.overflows k)) 7 (overflow_here h l))

  value_here : length y.values ≡ length x.values → (p : ℕ) → p < length x.values
      → difference_lines n (keep (differs x y) (nth 1 (value_item x) (length x.values) p ++ nth 2 (value_item y) (length x.values) p))
      ≡ value_turn p (at x.values p) (at y.values p)
  unfolding nth value_turn differs tells difference_line item_line
  value_here h p j =
      let v = at x.values p in
      let w = at y.values p in
      rw (lt-ltb p (length x.values) j)
      (pair_lines n (differs x y) (by 1 (value_is p v)) (by 2 (value_is p w)) (eqb v w)
      (rw (h, lt-ltb p (length x.values) j) (ap not (eqb_swap w v)))
      (rw (lt-ltb p (length x.values) j)))

  value_lines : length y.values ≡ length x.values
      → difference_lines n (keep (differs x y) (value_turns x y)) ≡ upto (λ p. value_turn p (at x.values p) (at y.values p)) (length x.values)
  unfolding value_turns turns
  value_lines h =
      let k = length x.values in
      rw (h, longer_same k)
      (turn_lines n (differs x y) (value_item x) k (value_item y) k k
      ∙ upto_cong
      (λ p. difference_lines n (keep (differs x y) (nth 1 (value_item x) k p ++ nth 2 (value_item y) k p)))
      (λ p. value_turn p (at x.values p) (at y.values p)) k (value_here h))

-- ---- the User fields: cx and cy are the numbers of the i-th
module _ (x y : Reading) (n i : ℕ) (cx cy : ℕ) where
  user_both : Bounds (x.bits i) (x.owner i) → Bounds (y.bits i) (y.owner i) → i < x.fields → i < y.fields
      → cx ≡ user_code (x.bits i) (record_code (x.owner i)) → cy ≡ user_code (y.bits i) (record_code (y.owner i))
      → difference_lines n (keep (differs x y) (nth 1 (user_item x) x.fields i ++ nth 2 (user_item y) y.fields i))
      ≡ code_turn i x.fields cx y.fields cy
  unfolding nth code_turn same_code code_if differs tells
  user_both p q h l e f =
      let a = code_same (y.bits i) (x.bits i) (y.owner i) (x.owner i) q.bits_most p.bits_most q.index_most p.index_most in
      let b = code_same (x.bits i) (y.bits i) (x.owner i) (y.owner i) p.bits_most q.bits_most p.index_most q.index_most in
      let ga = coded n 1 i (x.bits i) (x.owner i) p.bits_most p.index_most p.segment_most in
      let gb = coded n 2 i (y.bits i) (y.owner i) q.bits_most q.index_most q.segment_most in
      rw (e, f, lt-ltb i x.fields h, lt-ltb i y.fields l, ga, gb)
      (pair_lines n (differs x y) (by 1 (user_item x i)) (by 2 (user_item y i))
      (eqb (user_code (x.bits i) (record_code (x.owner i))) (user_code (y.bits i) (record_code (y.owner i))))
      (rw (lt-ltb i y.fields l)
      (ap not (sym a ∙ eqb_swap (user_code (y.bits i) (record_code (y.owner i))) (user_code (x.bits i) (record_code (x.owner i))))))
      (rw (lt-ltb i x.fields h) (ap not (sym b))))

  user_first : Bounds (x.bits i) (x.owner i) → i < x.fields → y.fields ≤ i → cx ≡ user_code (x.bits i) (record_code (x.owner i))
      → difference_lines n (keep (differs x y) (nth 1 (user_item x) x.fields i ++ nth 2 (user_item y) y.fields i))
      ≡ code_turn i x.fields cx y.fields cy
  unfolding nth code_turn same_code code_if differs tells
  user_first p h l e =
      rw (e, lt-ltb i x.fields h, le-ltb i y.fields l, append-nil)
      (one_line n (differs x y) (by 1 (user_item x i)) (rw (le-ltb i y.fields l))
      ∙ sym (coded n 1 i (x.bits i) (x.owner i) p.bits_most p.index_most p.segment_most))

  user_second : Bounds (y.bits i) (y.owner i) → x.fields ≤ i → i < y.fields → cy ≡ user_code (y.bits i) (record_code (y.owner i))
      → difference_lines n (keep (differs x y) (nth 1 (user_item x) x.fields i ++ nth 2 (user_item y) y.fields i))
      ≡ code_turn i x.fields cx y.fields cy
  unfolding nth code_turn same_code code_if differs tells
  user_second q h l f =
      rw (f, le-ltb i x.fields h, lt-ltb i y.fields l)
      (one_line n (differs x y) (by 2 (user_item y i)) (rw (le-ltb i x.fields h))
      ∙ sym (coded n 2 i (y.bits i) (y.owner i) q.bits_most q.index_most q.segment_most))

-- all of them
module _ (x y : Reading) (n : ℕ) (cx cy : ℕ → ℕ)
    (bx : (i : ℕ) → i < x.fields → Bounds (x.bits i) (x.owner i))
    (by' : (i : ℕ) → i < y.fields → Bounds (y.bits i) (y.owner i))
    (ex : (i : ℕ) → i < x.fields → cx i ≡ user_code (x.bits i) (record_code (x.owner i)))
    (ey : (i : ℕ) → i < y.fields → cy i ≡ user_code (y.bits i) (record_code (y.owner i))) where
  user_here : (i : ℕ) → i < longer x.fields y.fields
      → difference_lines n (keep (differs x y) (nth 1 (user_item x) x.fields i ++ nth 2 (user_item y) y.fields i))
      ≡ code_turn i x.fields (cx i) y.fields (cy i)
  user_here i j = go (ltb i x.fields) refl (ltb i y.fields) refl
    where
      go : (s : Bool) → ltb i x.fields ≡ s → (t : Bool) → ltb i y.fields ≡ t
          → difference_lines n (keep (differs x y) (nth 1 (user_item x) x.fields i ++ nth 2 (user_item y) y.fields i))
          ≡ code_turn i x.fields (cx i) y.fields (cy i)
      go true e true f =
          let h = ltb-true i x.fields e in
          let l = ltb-true i y.fields f in
          user_both x y n i (cx i) (cy i) (bx i h) (by' i l) h l (ex i h) (ey i l)
      go true e false f = let h = ltb-true i x.fields e in user_first x y n i (cx i) (cy i) (bx i h) h (ltb-false i y.fields f) (ex i h)
      go false e true f = let l = ltb-true i y.fields f in user_second x y n i (cx i) (cy i) (by' i l) (ltb-false i x.fields e) l (ey i l)
      go false e false f =
          absurd (omega (arith, longer_most {k = i} (ltb-false i x.fields e) (ltb-false i y.fields f)))

  pub user_lines : difference_lines n (keep (differs x y) (user_turns x y)) ≡ code_turns cx x.fields cy y.fields
  unfolding user_turns turns code_turns
  user_lines =
      turn_lines n (differs x y) (user_item x) x.fields (user_item y) y.fields (longer x.fields y.fields)
      ∙ upto_cong
      (λ i. difference_lines n (keep (differs x y) (nth 1 (user_item x) x.fields i ++ nth 2 (user_item y) y.fields i)))
      (λ i. code_turn i x.fields (cx i) y.fields (cy i)) (longer x.fields y.fields) user_here

regroup : (o v a b u : List ℕ) → o ++ (v ++ (a ++ (b ++ u))) ≡ (o ++ (v ++ (a ++ b))) ++ u
regroup o v a b u =
    sym (
    append_assoc o (v ++ (a ++ b)) u
    ∙ ap (λ (l : List ℕ). o ++ l) (append_assoc v (a ++ b) u ∙ ap (λ (l : List ℕ). v ++ l) (append_assoc a b u))
    )

-- ---- the whole text of two accepted frames of one bandwidth
module _ (bw : ℕ) (a b c d : List ℕ) (e : outcome11 bw a b ≡ Ok tt) (f : outcome11 bw c d ≡ Ok tt) where
  abbrev x : Reading
  x = reading_of bw a b

  abbrev y : Reading
  y = reading_of bw c d

  abbrev n : ℕ
  n = length (row bw a b)

  abbrev lines_of : List Difference → List ℕ
  lines_of ds = difference_lines n (keep (differs x y) ds)

  frame_fields : lines_of (user_turns x y)
      ≡ fields_text bw a b (row bw a b) (count bw 1 a) (count bw 2 b) c d (row bw c d) (count bw 1 c) (count bw 2 d)
  unfolding reading_of fields_text
  frame_fields =
      user_lines x y n
      (frame_code bw a b (row bw a b) (count bw 1 a) (count bw 2 b)) (frame_code bw c d (row bw c d) (count bw 1 c) (count bw 2 d))
      (code_bounds bw a b e) (code_bounds bw c d f) (frame_code_lem bw a b e) (frame_code_lem bw c d f)

  frame_overflows : lines_of (overflow_turns x y) ≡ upto (overflow_turn (overflow a) (overflow c)) 7
  unfolding reading_of overflow_turn
  frame_overflows = overflow_lines x y n refl refl

  frame_values : lines_of (value_turns x y) ≡ upto (λ p. value_turn p (at (row bw a b) p) (at (row bw c d) p)) n
  unfolding reading_of
  frame_values = value_lines x y n (row_length bw c d ∙ sym (row_length bw a b))

  cut : lines_of (all_said x y)
      ≡ lines_of (overflow_turns x y)
      ++ (lines_of (value_turns x y) ++ (lines_of (resource_items 1 x) ++ (lines_of (resource_items 2 y) ++ lines_of (user_turns x y))))
  unfolding all_said
  cut =
      let t = differs x y in
      kept_append n t (overflow_turns x y) (value_turns x y ++ (resource_items 1 x ++ (resource_items 2 y ++ user_turns x y)))
      ∙ ap (λ (l : List ℕ). lines_of (overflow_turns x y) ++ l)
      (kept_append n t (value_turns x y) (resource_items 1 x ++ (resource_items 2 y ++ user_turns x y))
      ∙ ap (λ (l : List ℕ). lines_of (value_turns x y) ++ l)
      (kept_append n t (resource_items 1 x) (resource_items 2 y ++ user_turns x y)
      ∙ ap (λ (l : List ℕ). lines_of (resource_items 1 x) ++ l) (kept_append n t (resource_items 2 y) (user_turns x y))))

  one_bandwidth : x.bandwidth ≡ y.bandwidth
  unfolding reading_of
  one_bandwidth = refl

  all_kept : differences x y ≡ keep (differs x y) (all_said x y)
  unfolding differences
  all_kept = rw (eq-eqb x.bandwidth y.bandwidth one_bandwidth)

  whole : comparison_text bw a b bw c d ≡ lines_of (all_said x y)
  unfolding comparison_text comparison
  whole = rw (e, f) (ap (difference_lines n) all_kept)

  pub same_text : comparison_text bw a b bw c d
      ≡ common_text (overflow a) (overflow c) (row bw a b) (row bw c d)
      ++ fields_text bw a b (row bw a b) (count bw 1 a) (count bw 2 b) c d (row bw c d) (count bw 1 c) (count bw 2 d)
  unfolding common_text
  same_text =
      whole
      ∙ cut
      ∙ ap₂ ◌++◌ frame_overflows
      (ap₂ ◌++◌ frame_values (ap₂ ◌++◌ (sym (only_first bw a b c d e)) (ap₂ ◌++◌ (sym (only_second bw a b c d f)) frame_fields)))
      ∙ regroup (upto (overflow_turn (overflow a) (overflow c)) 7) (upto (λ p. value_turn p (at (row bw a b) p) (at (row bw c d) p)) n)
      (only_lines 1 (row bw a b) (row bw c d)) (only_lines 2 (row bw c d) (row bw a b))
      (fields_text bw a b (row bw a b) (count bw 1 a) (count bw 2 b) c d (row bw c d) (count bw 1 c) (count bw 2 d))

  -- by what the code is given of both
  module _ {r s t u : List ℕ} {m k m' k' : ℕ} (g : Given bw a b r s m k) (h : Given bw c d t u m' k') where
    pub given_text : common_text (overflow a) (overflow c) r t ++ fields_text bw a b r m k c d t m' k' ≡ comparison_text bw a b bw c d
    given_text = rw (g.the_row, g.count1, g.count2, h.the_row, h.count1, h.count2) (sym same_text)

-- ---- a field that both frames have, and one that they have not
module _ (i m x n y : ℕ) where
  pub turn_even : option_eq eqb (cond (ltb i m) (Some x) None) (cond (ltb i n) (Some y) None) ≡ true → code_turn i m x n y ≡ []
  unfolding code_turn same_code code_if
  turn_even = go (ltb i m) (ltb i n)
    where
      go : (s t : Bool) → option_eq eqb (cond s (Some x) None) (cond t (Some y) None) ≡ true
          → cond ((s && t) && eqb x y) [] (cond s (code_line 1 i x) [] ++ cond t (code_line 2 i y) []) ≡ []
      go true true e = rw e
      go true false e = absurd (false≢true e)
      go false true e = absurd (false≢true e)
      go false false e = refl

  pub turn_odd : option_eq eqb (cond (ltb i m) (Some x) None) (cond (ltb i n) (Some y) None) ≡ false
      → code_part 1 i (cond (ltb i m) (Some x) None) ++ code_part 2 i (cond (ltb i n) (Some y) None) ≡ code_turn i m x n y
  unfolding code_turn same_code code_if
  turn_odd = go (ltb i m) (ltb i n)
    where
      go : (s t : Bool) → option_eq eqb (cond s (Some x) None) (cond t (Some y) None) ≡ false
          → code_part 1 i (cond s (Some x) None) ++ code_part 2 i (cond t (Some y) None)
          ≡ cond ((s && t) && eqb x y) [] (cond s (code_line 1 i x) [] ++ cond t (code_line 2 i y) [])
      go true true e = rw e
      go true false e = refl
      go false true e = refl
      go false false e = refl

-- frames of one bandwidth have as many values
pub row_lengths : {v w : ℕ} {a b r s c d t u : List ℕ} {m k m' k' : ℕ} → w ≡ v → Given v a b r s m k → Given w c d t u m' k' → length t ≡ length r
row_lengths {v} {a = a} {b = b} {c = c} {d = d} e g h = rw (g.the_row, h.the_row, e) (row_length v c d ∙ sym (row_length v a b))

-- a channel's numbers, as the code makes them
pub entered : (bw : ℕ) (s r : List ℕ) (c n : ℕ) {x codes : List ℕ}
    → codes ≡ filled (resource_codes r) (length (records_from (only_plan (at r)) (at r) (length r))) (replicate 144 0)
    → x ≡ filled (owned_code bw s r codes c) n (replicate 72 0) → x ≡ channel_codes bw s r c n
unfolding channel_codes
entered bw s r c n e f = f ∙ ap (λ (l : List ℕ). filled (owned_code bw s r l c) n (replicate 72 0)) e
