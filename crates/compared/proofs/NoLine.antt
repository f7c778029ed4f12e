-- "Equal readings give no line, and no line means equal readings; padding doesn't count" (02, T-06): of any two frames.
use mathlib.Core.Path.{◌≡◌, refl, sym, ◌∙◌, ap, ap₂}
use mathlib.Core.List.{List, []}
use Prim.Native.Nat.{ℕ, ◌+◌, ◌-◌, ◌<◌}
use native.Mathlib.Decide.{dec_lt}
use native.Mathlib.Omega.{arith}
use lib.ListN.{get_or}
use borrow.Author.Tests.{lt-ltb, le-ltb}
use Rattle.answer.specs.Answer.{Outcome}
use Rattle.std.specs.Prelude.{Ok, Err}
use Rattle.answer.specs.Lists.{at}
use Rattle.bits.specs.Bits.{field}
use Rattle.bits.specs.Pack.{pack, unpack}
use Rattle.bits.proofs.Fields.{field_lt}
use Rattle.bits.proofs.Pack.{pack_unpack}
use Rattle.kinds.specs.Fields.{fields_to}
use Rattle.records.specs.Records.{blank}
use Rattle.channel.specs.Layout.{positions, overflow, row, count, user_at}
use Rattle.channel.specs.Fields.{overflow_widths}
use Rattle.halves.specs.Table.{outcome11}
use Rattle.halves.proofs.Counts.{count_1, count_2}
use Rattle.frame_words.specs.Words.{words_of, SameFrame}
use Rattle.frame_words.proofs.Determine.{words_determine}
use Rattle.listed.specs.Listing.{resources, owner_in}
use Rattle.both_halves.proofs.Accepted.{known_code}
use Rattle.compared.specs.Reading.{Reading, user_bits, reading_of}
use Rattle.compared.specs.Differences.{Difference, judged_both, differences, comparison}
use Rattle.compared.specs.Exact.{NoLine}
use Rattle.compared.proofs.Keep.{cons_not_nil}
use Rattle.compared.proofs.Words.{frame_words}
use Rattle.compared.proofs.Silent.{silent_bandwidth, silent_overflows, silent_values, silent_bits, Equal, equal_silent}

-- ---- both are accepted, or there is a line
none_refused : (o o' : Outcome) (ds : List Difference) → judged_both o o' ds ≡ [] → (o ≡ Ok tt) × (o' ≡ Ok tt) × (ds ≡ [])
none_refused (Ok u) (Ok v) ds e = (refl, refl, e)
none_refused (Ok u) (Err z) ds e = absurd (cons_not_nil e)
none_refused (Err z) o ds e = absurd (cons_not_nil e)

-- ---- the User fields over both channels are those of each
module _ (bw : ℕ) (a b : List ℕ) (m : ℕ) where
  bits_1 : (j : ℕ) → j < m → user_bits bw a b m j ≡ field a (user_at bw j) 22
  unfolding user_bits
  bits_1 j l = rw (lt-ltb j m l)

  bits_2 : (j : ℕ) → user_bits bw a b m (m + j) ≡ field b (user_at bw j) 22
  unfolding user_bits
  bits_2 j =
      let e : m + j - m ≡ j = omega arith in
      rw (le-ltb (m + j) m (omega arith), e)

-- the overflow is had back from its fields
overflow_back : (s : List ℕ) → pack overflow_widths (unpack overflow_widths (overflow s)) ≡ overflow s
overflow_back s = pack_unpack overflow_widths (overflow s) (field_lt s 0 17)

module _ (bw : ℕ) (a b : List ℕ) (bw' : ℕ) (a' b' : List ℕ) where
  abbrev x : Reading
  x = reading_of bw a b

  abbrev y : Reading
  y = reading_of bw' a' b'

  -- ---- no line between accepted frames: the same frame
  module _ (e : outcome11 bw a b ≡ Ok tt) (e' : outcome11 bw' a' b' ≡ Ok tt) (n : differences x y ≡ []) where
    bandwidth_same : bw ≡ bw'
    unfolding reading_of
    bandwidth_same = silent_bandwidth x y n

    row_same : row bw a b ≡ row bw' a' b'
    unfolding reading_of
    row_same = silent_values x y n

    overflow_same : overflow a ≡ overflow a'
    unfolding reading_of
    overflow_same = sym (overflow_back a) ∙ ap (pack overflow_widths) (silent_overflows x y n) ∙ overflow_back a'

    -- the counts are sums over the row's values
    counted : (c : ℕ) → fields_to c (at (row bw a b)) (positions bw) ≡ fields_to c (at (row bw' a' b')) (positions bw')
    counted c = ap₂ (λ (r : List ℕ) (k : ℕ). fields_to c (at r) k) row_same (ap positions bandwidth_same)

    count_1_same : count bw 1 a ≡ count bw' 1 a'
    count_1_same = count_1 bw a b (known_code bw a b e) ∙ counted 1 ∙ sym (count_1 bw' a' b' (known_code bw' a' b' e'))

    count_2_same : count bw 2 b ≡ count bw' 2 b'
    count_2_same = count_2 bw a b (known_code bw a b e) ∙ counted 2 ∙ sym (count_2 bw' a' b' (known_code bw' a' b' e'))

    bits_same : (i : ℕ) → i < count bw 1 a + count bw 2 b → user_bits bw a b (count bw 1 a) i ≡ user_bits bw' a' b' (count bw 1 a) i
    unfolding reading_of
    bits_same i l = silent_bits x y n i (omega arith) ∙ ap (λ (m : ℕ). user_bits bw' a' b' m i) (sym count_1_same)

    same_frame : SameFrame bw a b bw' a' b'
    same_frame = record {
      bandwidth = bandwidth_same;
      the_row = row_same;
      the_overflow = overflow_same;
      count_1 = count_1_same;
      count_2 = count_2_same;
      users_1 = λ j l.
          sym (bits_1 bw a b (count bw 1 a) j l) ∙ bits_same j (omega arith) ∙ bits_1 bw' a' b' (count bw 1 a) j l;
      users_2 = λ j l.
          sym (bits_2 bw a b (count bw 1 a) j) ∙ bits_same (count bw 1 a + j) (omega arith) ∙ bits_2 bw' a' b' (count bw 1 a) j;
    }

  -- ---- the same frame says the same
  module _ (f : SameFrame bw a b bw' a' b') where
    same_bits : (i : ℕ) → i < count bw 1 a + count bw 2 b → user_bits bw a b (count bw 1 a) i ≡ user_bits bw' a' b' (count bw 1 a) i
    same_bits i l = go (dec_lt i (count bw 1 a))
      where
        go : Dec (i < count bw 1 a) → user_bits bw a b (count bw 1 a) i ≡ user_bits bw' a' b' (count bw 1 a) i
        go (yes h) = bits_1 bw a b (count bw 1 a) i h ∙ f.users_1 i h ∙ sym (bits_1 bw' a' b' (count bw 1 a) i h)
        go (no h) =
            let j = i - count bw 1 a in
            let k : i ≡ count bw 1 a + j = omega arith in
            ap (user_bits bw a b (count bw 1 a)) k
            ∙ bits_2 bw a b (count bw 1 a) j ∙ f.users_2 j (omega arith) ∙ sym (bits_2 bw' a' b' (count bw 1 a) j)
            ∙ ap (user_bits bw' a' b' (count bw 1 a)) (sym k)

    same_reading : Equal x y
    unfolding reading_of
    same_reading = record {
      equal_bandwidth = f.bandwidth;
      equal_overflows = ap (unpack overflow_widths) f.the_overflow;
      equal_values = f.the_row;
      equal_plan = ap resources f.the_row;
      equal_fields = omega (arith, f.count_1, f.count_2);
      equal_bits = λ i l. same_bits i l ∙ ap (λ (m : ℕ). user_bits bw' a' b' m i) f.count_1;
      equal_owner = λ i. ap₂ (λ (r : List ℕ) (m : ℕ). get_or (resources r) (owner_in r m i) blank) f.the_row f.count_1;
    }

  -- ---- the theorem
  said_nothing : comparison bw a b bw' a' b' ≡ [] → (outcome11 bw a b ≡ Ok tt) × (outcome11 bw' a' b' ≡ Ok tt) × (differences x y ≡ [])
  unfolding comparison
  said_nothing n = none_refused (outcome11 bw a b) (outcome11 bw' a' b') (differences x y) n

  equal : outcome11 bw a b ≡ Ok tt → outcome11 bw' a' b' ≡ Ok tt → words_of bw a b ≡ words_of bw' a' b' → comparison bw a b bw' a' b' ≡ []
  unfolding comparison
  equal e e' w =
      rw (e, e')
      (equal_silent x y (same_reading (words_determine bw bw' a b a' b' (known_code bw a b e) (known_code bw' a' b' e') w)))

  pub no_line : NoLine bw a b bw' a' b'
  no_line = record {
    accepted_1 = λ n. (said_nothing n).0;
    accepted_2 = λ n. (said_nothing n).1;
    one_bandwidth = λ n. let s = said_nothing n in bandwidth_same s.0 s.1 s.2;
    one_reading = λ n. let s = said_nothing n in frame_words bw a b bw' a' b' s.0 s.1 (same_frame s.0 s.1 s.2);
    equal = λ e e' f w. equal e e' w;
  }

-- an accepted frame beside itself
pub with_itself : (bw : ℕ) (a b : List ℕ) → outcome11 bw a b ≡ Ok tt → comparison bw a b bw a b ≡ []
with_itself bw a b e = equal bw a b bw a b e e refl
