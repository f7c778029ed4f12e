-- How many `sta=` lines there are, what each says, and whose field it is (01, "Listing": "sta= lines follow the User words"); how many of the
-- User fields are stations' (02, T-01).
use mathlib.Core.Path.{◌≡◌, refl, sym, ap, ◌∙◌, subst}
use mathlib.Core.Logic.{◌≢◌}
use mathlib.Core.Bool.{Bool, true, false, not, cond}
use mathlib.Core.List.{List}
use Prim.Native.Nat.{ℕ, ◌+◌, ◌-◌, ◌*◌, ◌/◌, ◌%◌, ◌≤◌, ◌<◌}
use native.Mathlib.Omega.{arith}
use borrow.Author.Tests.{ltb-true, ltb-false}
use lib.Dec.{ltb, eqb}
use lib.ListN.{length, get_or}
use Rattle.std.specs.Prelude.{Ok}
use Rattle.answer.specs.Lists.{at}
use Rattle.answer.specs.Tally.{tally}
use Rattle.answer.proofs.Tally.{tally_both}
use Rattle.bits.specs.Bits.{field}
use Rattle.bits.proofs.Fields.{field_lt, field_split}
use Rattle.words.specs.Engine.{field_in, user_field}
use Rattle.channel.specs.Layout.{row, count, user_at}
use Rattle.stations.specs.Stations.{station_at, station_of}
use Rattle.plan.specs.Worked.{the_plan}
use Rattle.kinds.proofs.Tests.{Tested, eqb_decides, move}
use Rattle.resource.specs.Tones.{tones_of}
use Rattle.records.specs.Records.{HasTone, blank}
use Rattle.records.specs.Owns.{fields_before, Owns}
use Rattle.records.specs.Worked.{Worked, the_owner}
use Rattle.records.proofs.Shares.{counts_of}
use Rattle.records.proofs.Worked.{worked}
use Rattle.halves.specs.Table.{outcome11}
use Rattle.frame_words.specs.Words.{word_count, words_of}
use Rattle.frame_words.proofs.Determine.{words_length, user_back_1, user_back_2}
use Rattle.frame_words.proofs.Counts.{row_count_1, row_count_2}
use Rattle.text.specs.Text.{codes, line}
use Rattle.resource_line.specs.ResourceLine.{ru_head, ru_line}
use Rattle.lines.specs.Lines.{assigned, sta_line}
use Rattle.lines.proofs.LineLaws.{number_line, none_line, only_none}
use Rattle.listed.specs.Listing.{record_line, resources, owner_in, sta_line_at, stations_in}
use Rattle.listed.specs.Stations.{channel_at, place_in, word_station, SaysNone, TonesOf, Station, Counted}
use Rattle.both_halves.proofs.Accepted.{known_code, accepted_signals}

-- ---- how many: "the count is the sum over the row's values", in each channel

module _ (bw : ℕ) (a b : List ℕ) (l : bw ≤ 4) where
  -- fields1=
  pub fields_1 : fields_before 1 (at (row bw a b)) (length (row bw a b)) ≡ count bw 1 a
  fields_1 = row_count_1 bw a b l

  -- fields2=
  pub fields_2 : fields_before 2 (at (row bw a b)) (length (row bw a b)) ≡ count bw 2 b
  fields_2 = row_count_2 bw a b l

-- and together, as many as there are words past the first ten
pub fields_words : (bw : ℕ) (a b : List ℕ) → count bw 1 a + count bw 2 b ≡ length (words_of bw a b) - 10
unfolding word_count
fields_words bw a b = omega (arith, words_length bw a b)

-- ---- the STA-ID of a User word: 002, "STA-ID 0x7ff00", its bits 8 to 18
low_part : (x y : ℕ) → x < 2048 → (x + 2048 * y) % 2048 ≡ x
low_part x y l = omega arith

station_bits : (w : ℕ) → user_field w % 2048 ≡ w / 256 % 2048
unfolding user_field
station_bits w = go (eqb (w % 256) 0x47)
  where
    go : (t : Bool) → field_in t w % 2048 ≡ w / 256 % 2048
    go true = low_part (w / 256 % 2048) _ (omega arith)
    go false = low_part (w / 256 % 2048) _ (omega arith)

first_11 : (s : List ℕ) (n : ℕ) → field s n 22 % 2048 ≡ field s n 11
first_11 s n = omega (arith, field_split s n 11 11, field_lt s n 11)

-- of a word that is made of the User field at bit n
said_11 : (w : ℕ) (s : List ℕ) (n : ℕ) → user_field w ≡ field s n 22 → w / 256 % 2048 ≡ field s n 11
said_11 w s n e = sym (station_bits w) ∙ ap (λ (x : ℕ). x % 2048) e ∙ first_11 s n

module _ (bw : ℕ) (a b : List ℕ) where
  -- the i-th User word's is the i-th User field's
  pub word_station_lem : (i : ℕ) → i < length (words_of bw a b) - 10 → word_station (words_of bw a b) i ≡ station_of bw a b (count bw 1 a) i
  word_station_lem i l = go (ltb i (count bw 1 a)) refl
    where
      go : (t : Bool) → ltb i (count bw 1 a) ≡ t
          → word_station (words_of bw a b) i ≡ cond t (station_at bw a i) (station_at bw b (i - count bw 1 a))
      go true f = said_11 _ a (user_at bw i) (user_back_1 bw a b i (ltb-true i (count bw 1 a) f))
      go false f =
          let j = i - count bw 1 a in
          let h = ltb-false i (count bw 1 a) f in
          let n : 10 + i ≡ 10 + count bw 1 a + j = omega arith in
          said_11 _ b (user_at bw j)
          (ap (λ (x : ℕ). user_field (at (words_of bw a b) x)) n ∙ user_back_2 bw a b j (omega (arith, fields_words bw a b)))

-- a test that decides a fact, turned round, decides its denial
not_tested : (t : Bool) (A : Type 0) → Tested t A → Tested (not t) (A → ⊥)
not_tested true A p = λ h. h p
not_tested false A p = p

-- ---- "sta= lines follow the User words"

owner_is : (r : List ℕ) (m i : ℕ) → owner_in r m i ≡ the_owner r (channel_at m i) (place_in m i)
unfolding owner_in
owner_is r m i = go (ltb i m)
  where
    go : (t : Bool) → cond t (the_owner r 1 i) (the_owner r 2 (i - m)) ≡ the_owner r (cond t 1 2) (cond t i (i - m))
    go true = refl
    go false = refl

-- of an accepted frame
module _ (bw : ℕ) (a b : List ℕ) (e : outcome11 bw a b ≡ Ok tt) where
  abbrev the_row : List ℕ
  the_row = row bw a b

  abbrev first : ℕ
  first = count bw 1 a

  abbrev id : ℕ → ℕ
  id i = station_of bw a b first i

  owner : (i : ℕ) → i < length (words_of bw a b) - 10 → Worked (the_plan the_row) the_row (channel_at first i) (place_in first i)
  owner i l = worked (the_plan the_row) the_row (accepted_signals bw a b e) (channel_at first i) (place_in first i) (go (ltb i first) refl)
    where
      go : (t : Bool) → ltb i first ≡ t → cond t i (i - first) < fields_before (cond t 1 2) (at the_row) (length the_row)
      go true f = omega (arith, ltb-true i first f, fields_1 bw a b (known_code bw a b e))
      go false f = omega (arith, ltb-false i first f, fields_words bw a b, fields_2 bw a b (known_code bw a b e))

  -- the line of the resource that owns a field has the field's subcarriers
  owner_tones : (c j x : ℕ) → x < length (resources the_row) → Owns (the_plan the_row) (at the_row) (length the_row) x c j
      → ((y : ℕ) → Owns (the_plan the_row) (at the_row) (length the_row) y c j → y ≡ x)
      → TonesOf the_row c j (record_line (length the_row) (get_or (resources the_row) x blank))
  unfolding ru_line
  owner_tones c j x l w only =
      let y = get_or (resources the_row) x blank in
      record {
        front = ru_head y.segment y.resource (y.fields1 + y.fields2);
        spans = tones_of (length the_row) y.segment y.resource;
        is = refl;
        owned = λ k t. (x, l, w, t);
        all_owned = λ k t. subst (λ (z : ℕ). HasTone (length the_row) (get_or (resources the_row) z blank) k) (only t.0 t.2) t.3;
      }

  -- each User word has its line
  pub station : (i : ℕ) → i < length (words_of bw a b) - 10 → Station bw a b the_row first i
  unfolding sta_line_at
  station i l =
      let w = owner i l in
      let o = owner_is the_row first i in
      let s = word_station_lem bw a b i l in
      let n = owner_in the_row first i + 1 in
      record {
        none_line = λ h. none_line (id i) n (sym s ∙ h);
        number_line = λ h. rw s (number_line (id i) n (λ z. h (s ∙ z)));
        only_none = λ h. s ∙ only_none (id i) n h.0 h.1;
        listed = rw o w.listed;
        owns = rw o w.owns;
        only_owner = λ x h. w.only x h ∙ sym o;
        its_tones = owner_tones (channel_at first i) (place_in first i) (owner_in the_row first i) (rw o w.listed) (rw o w.owns)
            (λ x h. w.only x h ∙ sym o);
      }

  -- ---- 02, T-01: "stations= leaves it out"
  is_station : (i : ℕ) → i < length (words_of bw a b) - 10 → Tested (assigned (id i)) (word_station (words_of bw a b) i ≢ 2046)
  is_station i l = rw (word_station_lem bw a b i l) (not_tested (eqb (id i) 2046) (id i ≡ 2046) (eqb_decides (id i) 2046))

  says_none : (i : ℕ) → Tested (eqb (id i) 2046) (SaysNone (sta_line_at bw the_row a b first i))
  unfolding sta_line_at
  says_none i =
      let n = owner_in the_row first i + 1 in
      move (eqb (id i) 2046) (id i ≡ 2046) (SaysNone (sta_line (id i) n))
      (λ e. (line (codes "resource=") n, none_line (id i) n e)) (λ h. only_none (id i) n h.0 h.1) (eqb_decides (id i) 2046)

  pub counted : Counted bw a b the_row first (count bw 2 b)
  unfolding stations_in
  counted =
      let k = first + count bw 2 b in
      record {
        stations = rw (fields_words bw a b)
            (counts_of (λ i. word_station (words_of bw a b) i ≢ 2046) (λ i. assigned (id i)) (length (words_of bw a b) - 10) is_station);
        nones = tally (λ i. eqb (id i) 2046) k;
        none_lines = counts_of (λ i. SaysNone (sta_line_at bw the_row a b first i)) (λ i. eqb (id i) 2046) k (λ i l. says_none i);
        all_fields = omega (arith, tally_both (λ i. eqb (id i) 2046) k);
      }
