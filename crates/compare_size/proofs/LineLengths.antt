-- The most bytes of each line of a comparison (02, T-06) but a resource's, and of those that are kept of two frames' item by item.
use mathlib.Core.Path.{◌≡◌, refl, ap, ◌∙◌}
use mathlib.Core.Bool.{Bool, true, false, cond}
use mathlib.Core.List.{List, [], ◌∷◌, ◌++◌}
use Prim.Native.Nat.{ℕ, zero, suc, ◌+◌, ◌*◌, ◌/◌, ◌%◌, ◌≤◌, ◌<◌}
use native.Mathlib.Omega.{arith}
use lib.Dec.{ltb, leb, leb→le}
use lib.ListN.{length, length-append}
use borrow.Author.Tests.{ltb-true, lt-ltb, le-ltb}
use Rattle.answer.specs.declared.Answer.{Answer}
use Rattle.answer.specs.Lists.{at}
use Rattle.bits.specs.Pack.{unpack}
use Rattle.resource.proofs.Test.{every_below}
use Rattle.records.specs.declared.Record.{Record}
use Rattle.records.proofs.Sums.{sum_to, sum_cong, sum_past}
use Rattle.channel.specs.Fields.{overflow_widths}
use Rattle.text.proofs.Laws.{dec_short, dec_fit}
use Rattle.lines.proofs.LineLaws.{id_short}
use Rattle.resource_line.specs.ResourceLine.{ru_name}
use Rattle.listed.proofs.ByPosition.{sum_each}
use Rattle.compared.specs.Reading.{Item, refused_with, bandwidth_is, overflow_is, value_is, user_is}
use Rattle.compared.specs.Differences.{Difference, by, nth, in_turn, longer, turns, keep}
use Rattle.compared.specs.Text.{overflow_name, hexs, bits_text, user_line, item_line, side_text, difference_line, difference_lines}
use Rattle.compared.proofs.Keep.{keep_append}
use Rattle.compared.proofs.Turns.{longer_ge}

-- ---- each line
pub side_short : (s : ℕ) → s < 10 → length (side_text s) ≤ 8
unfolding side_text
side_short s l = simp length-append (omega (arith, dec_fit 0 s (omega arith)))

-- none is longer than `pe-disambiguity=`
name_most : (k : ℕ) → k < 7 → length (overflow_name k) ≤ 16
unfolding overflow_name
name_most k l = leb→le (length (overflow_name k)) 16 (every_below (λ k. leb (length (overflow_name k)) 16) 7 tt k l)

-- none has more than four bits
pub overflow_low : (x k : ℕ) → k < 7 → at (unpack overflow_widths x) k < 16
overflow_low x zero l = omega arith
overflow_low x (suc zero) l = omega arith
overflow_low x (suc (suc zero)) l = omega arith
overflow_low x (suc (suc (suc zero))) l = omega arith
overflow_low x (suc (suc (suc (suc zero)))) l = omega arith
overflow_low x (suc (suc (suc (suc (suc zero))))) l = omega arith
overflow_low x (suc (suc (suc (suc (suc (suc zero)))))) l = omega arith
overflow_low x (suc (suc (suc (suc (suc (suc (suc k))))))) l = absurd (omega arith)

hexs_length : (k f : ℕ) → length (hexs k f) ≡ k
hexs_length zero f = refl
hexs_length (suc k) f = rw (length-append (hexs k (f / 16)), hexs_length k (f / 16)) (omega arith)

module _ (n s : ℕ) (l : s < 10) where
  pub line_most : (i : Item) (m : ℕ) → length (item_line n i) ≤ m → length (difference_line n (by s i)) ≤ 8 + m
  unfolding difference_line
  line_most i m h = rw (length-append (side_text s) (item_line n i)) (omega (arith, side_short s l))

  pub refused_most : (x : Answer) → length (difference_line n (by s (refused_with x))) ≤ 92
  unfolding item_line
  refused_most x =
      line_most (refused_with x) 84 (simp length-append (omega (arith, dec_short x.number, dec_short x.channel, dec_short x.place)))

  pub bandwidth_most : (b : ℕ) → length (difference_line n (by s (bandwidth_is b))) ≤ 92
  unfolding item_line
  bandwidth_most b = line_most (bandwidth_is b) 84 (simp length-append (omega (arith, dec_short b)))

  pub overflow_most : (k v : ℕ) → k < 7 → v < 16 → length (difference_line n (by s (overflow_is k v))) ≤ 27
  unfolding item_line
  overflow_most k v h j = line_most (overflow_is k v) 19 (simp length-append (omega (arith, name_most k h, dec_fit 1 v (omega arith))))

  pub value_most : (p v : ℕ) → p < 100 → v < 1000 → length (difference_line n (by s (value_is p v))) ≤ 30
  unfolding item_line
  value_most p v h j =
      line_most (value_is p v) 22 (simp length-append (omega (arith, dec_fit 1 p (omega arith), dec_fit 2 v (omega arith))))

  pub user_most : (i f : ℕ) (z : Record) → i < 999
      → length (difference_line n (by s (user_is i f z))) ≤ 39 + length (ru_name z.segment z.resource)
  unfolding item_line user_line bits_text
  user_most i f z h =
      let m = 31 + length (ru_name z.segment z.resource) in
      let k : length (item_line n (user_is i f z)) ≤ m =
      simp length-append (omega (arith, dec_fit 2 (i + 1) (omega arith), id_short (f % 2048) (omega arith), hexs_length 6 f)) in
      omega (arith, line_most (user_is i f z) m k)

-- ---- the lines of a list
pub lines_both : (n : ℕ) (ds es : List Difference)
    → length (difference_lines n (ds ++ es)) ≡ length (difference_lines n ds) + length (difference_lines n es)
unfolding difference_lines
lines_both n [] es = omega arith
lines_both n (d ∷ ds) es =
    omega (
      arith,
      lines_both n ds es,
      length-append (difference_line n d) (difference_lines n (ds ++ es)),
      length-append (difference_line n d) (difference_lines n ds),
    )

pub kept_both : (n : ℕ) (t : Difference → Bool) (ds es : List Difference)
    → length (difference_lines n (keep t (ds ++ es))) ≡ length (difference_lines n (keep t ds)) + length (difference_lines n (keep t es))
kept_both n t ds es =
    ap (λ (fs : List Difference). length (difference_lines n fs)) (keep_append t ds es) ∙ lines_both n (keep t ds) (keep t es)

-- of one that is kept or not
pub kept_one : (n : ℕ) (t : Difference → Bool) (d : Difference) → length (difference_lines n (keep t (d ∷ []))) ≤ length (difference_line n d)
unfolding keep difference_lines
kept_one n t d = go (t d)
  where
    go : (b : Bool) → length (difference_lines n (cond b (d ∷ []) [])) ≤ length (difference_line n d)
    go true = rw (length-append (difference_line n d) []) (omega arith)
    go false = omega arith

-- ---- item by item
-- u below m, and nothing from there on
abbrev up_to : (ℕ → ℕ) → ℕ → ℕ → ℕ
up_to u m i = cond (ltb i m) (u i) 0

upto_all : (u : ℕ → ℕ) (m k : ℕ) → m ≤ k → sum_to (up_to u m) k ≡ sum_to u m
upto_all u m k h =
    sum_past (up_to u m) m k h (λ i l. rw (le-ltb i m l)) ∙ sum_cong (up_to u m) u m (λ i l. rw (lt-ltb i m l))

nth_most : (n : ℕ) (t : Difference → Bool) (s : ℕ) (f : ℕ → Item) (m : ℕ) (u : ℕ → ℕ) (k : ℕ)
    → (k < m → length (difference_line n (by s (f k))) ≤ u k) → length (difference_lines n (keep t (nth s f m k))) ≤ up_to u m k
unfolding nth
nth_most n t s f m u k h = go (ltb k m) refl
  where
    go : (b : Bool) → ltb k m ≡ b → length (difference_lines n (keep t (cond b (by s (f k) ∷ []) []))) ≤ cond b (u k) 0
    go true e = omega (arith, kept_one n t (by s (f k)), h (ltb-true k m e))
    go false e = unfold keep difference_lines in omega arith

-- of frame 1's i-th at most u, of frame 2's at most w
module _ (t : Difference → Bool) (n : ℕ) (f : ℕ → Item) (m : ℕ) (g : ℕ → Item) (m' : ℕ) (u w : ℕ → ℕ)
    (p : (i : ℕ) → i < m → length (difference_line n (by 1 (f i))) ≤ u i)
    (q : (i : ℕ) → i < m' → length (difference_line n (by 2 (g i))) ≤ w i) where
  turn_sum : (k : ℕ) → length (difference_lines n (keep t (in_turn f m g m' k))) ≤ sum_to (up_to u m) k + sum_to (up_to w m') k
  unfolding in_turn
  turn_sum zero = unfold keep difference_lines in omega arith
  turn_sum (suc k) =
      omega (
        arith,
        turn_sum k,
        kept_both n t (in_turn f m g m' k) (nth 1 f m k ++ nth 2 g m' k),
        kept_both n t (nth 1 f m k) (nth 2 g m' k),
        nth_most n t 1 f m u k (p k),
        nth_most n t 2 g m' w k (q k),
      )

  pub turns_sum : length (difference_lines n (keep t (turns f m g m'))) ≤ sum_to u m + sum_to w m'
  unfolding turns
  turns_sum =
      let k = longer m m' in
      omega (arith, turn_sum k, upto_all u m k (longer_ge m m').0, upto_all w m' k (longer_ge m m').1)

pub turns_most : (t : Difference → Bool) (n k : ℕ) (f : ℕ → Item) (m : ℕ) (g : ℕ → Item) (m' : ℕ)
    → ((i : ℕ) → i < m → length (difference_line n (by 1 (f i))) ≤ k) → ((i : ℕ) → i < m' → length (difference_line n (by 2 (g i))) ≤ k)
    → length (difference_lines n (keep t (turns f m g m'))) ≤ m * k + m' * k
turns_most t n k f m g m' p q =
    omega (
      arith,
      turns_sum t n f m g m' (λ i. k) (λ i. k) p q,
      sum_each (λ i. k) k m (λ i l. omega arith),
      sum_each (λ i. k) k m' (λ i l. omega arith),
    )
