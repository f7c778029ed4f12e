-- Spatial streams are as 02 has them.
use mathlib.Core.Path.{◌≡◌, refl, sym, ◌∙◌, ap}
use mathlib.Core.Logic.{◌⊎◌, inl, inr, ◌≢◌}
use mathlib.Core.Bool.{Bool, true, false, cond, not, ◌||◌}
use mathlib.Core.List.{List, [], ◌∷◌}
use Prim.Native.Nat.{ℕ, ◌+◌, ◌-◌, ◌≤◌, ◌<◌}
use native.Mathlib.Omega.{arith}
use borrow.Author.Tests.{lt-ltb, le-ltb, le-leb, eq-eqb, ne_eqb, leb-true, eqb-false, not-true, not-false}
use lib.Dec.{leb, eqb}
use lib.ListN.{length, take, get_or}
use Rattle.answer.specs.Answer.{no, ◌or◌, answer_at}
use Rattle.answer.specs.Every.{every}
use Rattle.answer.specs.Lists.{at, filled}
use Rattle.answer.specs.declared.Answer.{Answer}
use Rattle.answer.specs.Answer.{Outcome}
use Rattle.std.specs.Prelude.{Ok, Err}
use Rattle.answer.proofs.Every.{every_at, some_fails}
use Rattle.answer.proofs.Lists.{get_d_build, get_d_filled, drop_filled}
use Rattle.answer.proofs.Order.{pass_or_refuse, pass_left}
use Rattle.answer.specs.declared.Refusal.{Refusal}
use Rattle.kinds.specs.Signals.{Signals}
use Rattle.records.specs.declared.Record.{Record}
use Rattle.records.specs.Records.{records_of}
use Rattle.records.specs.Owns.{fields_before, Owns}
use Rattle.records.specs.Demand.{resource_in}
use Rattle.records.specs.FieldsOf.{fields_on, FieldOf, in_1, in_2, word_of}
use Rattle.records.proofs.FieldsOf.{owned_below, turns}
use Rattle.records.proofs.Worked.{worked}
use Rattle.turns.specs.Turns.{users_of, turn_of}
use Rattle.turns.proofs.Order.{turn_is, of_word}
use Rattle.channel.specs.Layout.{row, count, user, user_of}
use Rattle.halves.specs.Table.{outcome11}
use Rattle.frame_words.specs.Words.{word_count}
use Rattle.frame_words.proofs.Counts.{row_count_1, row_count_2}
use Rattle.reader.specs.Table.{check12}
use Rattle.reader.specs.Result.{read_answer}
use Rattle.reader.proofs.Stages.{read_outcome_stages}
use Rattle.reader.proofs.Exactly as reading
use Rattle.stream_rows.specs.Rows.{Listed, Before, row_in, Counted}
use Rattle.stream_rows.specs.Worked.{the_rows, is_listed}
use Rattle.stream_rows.specs.Result.{not2to8, no_row, row_outcome, row_answer, not_row, number_answer}
use Rattle.stream_rows.proofs.Worked as rows
use Rattle.stream_rows.proofs.Totals.{row_counts}
use Rattle.stream_rows.proofs.Count.{is_listed_lem}
use Rattle.stream_rows.proofs.Judged.{RowPassed, up_to_8}
use Rattle.stream_rows.proofs.Inverse as inverse
use Rattle.streams.specs.Streams.{station_in, nss_in, configuration_in, alone_streams, shared_streams, streams_by, none_by, streams_of, names_none}
use Rattle.streams.specs.Result.{fields, field_at, streams_at, named_at, streams_outcome, streams_answer, streams_after}
use Rattle.faults.proofs.Passing.{of_both}
use Rattle.streams.proofs.Fields.{named_row}
use Rattle.streams.proofs.Frame.{known, of_eight, refused_answer, read_outcome_lem}
use Rattle.streams.proofs.Judged as judged
use Rattle.claims.specs.Calls.{Call, RowCall, NumberCall, Reads, reads, PutsRow, GivesNumber, GivesStreams}
use Rattle.claims.specs.Streams.{From2To8, row_given, Decoding, StreamsOn, NoRow, channel_of, TheField, the_resource, byte_of}
use Rattle.claims.specs.Streams.{SameChannels, SignalsRow, PerStation}
use Rattle.claims.proofs.Given.{row_gives, number_gives, streams_give}

-- ---- rows and numbers
same_number : {x y : Answer} {n : ℕ} → x ≡ y → x.number ≡ n → y.number ≡ n
same_number e z = ap (λ (a : Answer). a.number) (sym e) ∙ z

so_many : (users : ℕ) (given : List (List ℕ)) → From2To8 users → Counted users given
    → length given ≡ get_or (10 ∷ 20 ∷ 35 ∷ 49 ∷ 54 ∷ 50 ∷ 41 ∷ []) (users - 2) 0
so_many users given l c =
    let e : 2 + (users - 2) ≡ users = omega (arith, l) in
    ap length ((rows.worked users).only given c)
    ∙ ap (λ (n : ℕ). length (the_rows n)) (sym e)
    ∙ sym (get_d_build (λ i. length (the_rows (2 + i))) 7 (users - 2) 0 (omega (arith, l)))
    ∙ ap (λ (v : List ℕ). get_or v (users - 2) 0) row_counts

module _ (c : RowCall) (h : PutsRow c) (z : c.answer.number ≡ 0) where
  accepted : (row_answer c.users c.number (length c.lent)).number ≡ 0
  accepted = same_number (row_gives c h).0 z

  passed : RowPassed c.users c.number (length c.lent)
  passed = inverse.row_accepted c.users c.number (length c.lent) accepted

  is_row : row_given c ≡ row_in (the_rows c.users) c.number
  is_row = ap (take c.users) (row_gives c h).1 ∙ inverse.row_written c.users c.number c.lent passed

each_given : (users : ℕ) (listed : List ℕ) → From2To8 users → Listed users listed
    → (k : ℕ) × ((c : RowCall) → PutsRow c → c.users ≡ users → c.number ≡ k → users ≤ length c.lent
    → (c.answer ≡ no 0 0 users) × (row_given c ≡ listed))
each_given users listed l w =
    let n = (rows.counted users).all listed w in (
      n.0,
      λ c h e f m.
          let g = row_gives c h in
          let p : RowPassed users n.0 (length c.lent) = record { from_2 = l.0; to_8 = l.1; numbered = n.1; room = m } in
          let a : c.answer ≡ no 0 0 users = g.0 ∙ rw (e, f) (inverse.row_answered users n.0 c.lent p) in
          let b : row_given c ≡ listed = rw (g.1, e, f) (inverse.row_written users n.0 c.lent p ∙ n.2) in
          (a, b),
    )

in_order : (c c' : RowCall) → PutsRow c → PutsRow c' → c.answer.number ≡ 0 → c'.answer.number ≡ 0 → c.users ≡ c'.users
    → c.number < c'.number → Before (row_given c) (row_given c')
in_order c c' h h' z z' e l =
    let a = is_row c h z in
    let b = is_row c' h' z' in
    rw (a, b, e) ((rows.counted c'.users).ordered c.number c'.number l (passed c' h' z').numbered)

-- ---- 21
is_21 : (users number n : ℕ) → not2to8 users || leb (length (the_rows users)) number ≡ true → row_answer users number n ≡ no 21 0 0
unfolding row_answer row_outcome no_row
is_21 users number n e = rw e

refused_row : (c : RowCall) → PutsRow c
    → ((given : List (List ℕ)) → From2To8 c.users → Counted c.users given → length given ≤ c.number) → c.answer ≡ no 21 0 0
refused_row c h past = (row_gives c h).0 ∙ is_21 c.users c.number (length c.lent) (test (not2to8 c.users) refl)
  where
    test : (t : Bool) → not2to8 c.users ≡ t → not2to8 c.users || leb (length (the_rows c.users)) c.number ≡ true
    test true e = rw e
    test false e = rw (e, le-leb (length (the_rows c.users)) c.number (past (the_rows c.users) (up_to_8 c.users e) (rows.counted c.users)))

refused_number : (d : NumberCall) → GivesNumber d → (From2To8 (length d.row) → Listed (length d.row) d.row → ⊥) → d.answer ≡ no 21 0 0
unfolding number_answer not_row
refused_number d h none = number_gives d h ∙ go (not2to8 (length d.row)) (is_listed d.row) refl refl
  where
    go : (t u : Bool) → not2to8 (length d.row) ≡ t → is_listed d.row ≡ u → number_answer d.row ≡ no 21 0 0
    go true u e f = rw e
    go false true e f = absurd (none (up_to_8 (length d.row) e) ((is_listed_lem d.row).yes f))
    go false false e f = rw (e, f)

pub decoding : Decoding
decoding = record {
  counted = λ users. (the_rows users, (rows.worked users).counted, (rows.worked users).only);
  so_many = so_many;
  decodes = λ c h z. (
    ((passed c h z).from_2, (passed c h z).to_8),
    rw (row_gives c h).1 (inverse.row_configured c.users c.number c.lent (accepted c h z)),
  );
  past_kept = λ c h z. rw (row_gives c h).1 (inverse.past_kept c.users c.number c.lent (passed c h z));
  each_listed = λ c h z. rw (is_row c h z) ((rows.counted c.users).listed c.number (passed c h z).numbered);
  each_given = each_given;
  in_order = in_order;
  encoding_undoes = λ c d h g z e.
      number_gives d g ∙ rw (e, (row_gives c h).1) (inverse.encodes_back c.users c.number c.lent (accepted c h z));
  decoding_undoes = λ d c g h z e f m.
      let w = number_gives d g in
      let x = row_gives c h in
      let n : c.number ≡ (number_answer d.row).place = f ∙ ap (λ (y : Answer). y.place) w in
      let b = inverse.decodes_back d.row c.lent (same_number w z) (rw e at m) in
      (x.0 ∙ rw (e, n) b.0, rw (x.1, e, n) b.1);
  row_refused = λ c h z l given k. inverse.row_21 c.users c.number (length c.lent) given (same_number (row_gives c h).0 z) l.0 l.1 k;
  refused_row = refused_row;
  number_refused = λ d g z l w. inverse.number_21 d.row (same_number (number_gives d g) z) l.0 l.1 w;
  refused_number = refused_number;
  rows_agree = λ c c' h h' e f g.
      ((row_gives c h).0 ∙ rw (e, f, g) (sym (row_gives c' h').0), (row_gives c h).1 ∙ rw (e, f, g) (sym (row_gives c' h').1));
  numbers_agree = λ d d' h h' e. number_gives d h ∙ rw e (sym (number_gives d' h'));
}

-- ---- the streams of a User field
streams_on : (x : Record) (t f v : ℕ) → v ≡ streams_of (fields_on x) t f → names_none (fields_on x) f ≡ false → StreamsOn x t f v
unfolding streams_of streams_by alone_streams shared_streams
streams_on x t f v g e = record {
  nobodys = λ n. g ∙ rw (eq-eqb (station_in f) 2046 n);
  alone = λ n l k. g ∙ rw (ne_eqb (station_in f) 2046 n, lt-ltb (fields_on x) 2 l, lt-ltb (nss_in f) 8 k);
  not_known = λ n l k. g ∙ rw (ne_eqb (station_in f) 2046 n, lt-ltb (fields_on x) 2 l, le-ltb (nss_in f) 8 k);
  shared = λ n l. (
    row_in (the_rows (fields_on x)) (configuration_in f),
    inverse.configured (fields_on x) (configuration_in f) _ (named_row (fields_on x) f e n l) refl,
    g ∙ rw (ne_eqb (station_in f) 2046 n, le-ltb (fields_on x) 2 l),
  );
}

-- 21 of a field is by 02's words
none_named : (x : Record) (f : ℕ) → names_none (fields_on x) f ≡ true → NoRow x f
unfolding names_none none_by
none_named x f e =
    let a = of_both (not (eqb (station_in f) 2046)) _ e in
    let b = of_both (leb 2 (fields_on x)) _ a.1 in
    record {
      somebodys = eqb-false (station_in f) 2046 (not-true _ a.0);
      is_shared = leb-true 2 (fields_on x) b.0;
      past_last = λ given c.
          rw ((rows.worked (fields_on x)).only given c) (leb-true (length (the_rows (fields_on x))) (configuration_in f) b.1);
    }

named_none : (x : Record) (f : ℕ) → NoRow x f → names_none (fields_on x) f ≡ true
unfolding names_none none_by
named_none x f n =
    rw (
      ne_eqb (station_in f) 2046 n.somebodys,
      le-leb 2 (fields_on x) n.is_shared,
      le-leb (length (the_rows (fields_on x))) (configuration_in f) (n.past_last (the_rows (fields_on x)) (rows.counted (fields_on x))),
    )

-- ---- a field of a frame by its resource, in any plan that signals the row
module _ (bw : ℕ) (a b : List ℕ) (e : outcome11 bw a b ≡ Ok tt) (o : ℕ → ℕ) (s : Signals o (at (row bw a b)) 0 (length (row bw a b))) where
  abbrev r : List ℕ
  r = row bw a b

  abbrev number : ℕ → ℕ → ℕ
  number n j = word_of (at r) (length r) n j

  abbrev resource : ℕ → Record
  resource i = resource_in (records_of o r) i

  abbrev bits : ℕ → ℕ → ℕ
  bits n j = user bw (cond (eqb n 1) a b) j

  owns_it : (i t n j : ℕ) → FieldOf o (at r) (length r) i t n j → Owns o (at r) (length r) i n j
  owns_it i t n j (in_1 x w k) = w
  owns_it i t n j (in_2 x m m' w k l f) = w

  -- it is one of the frame's, and its bits are those of its word's number
  of_frame : (i t n j : ℕ) → FieldOf o (at r) (length r) i t n j → (number n j < fields bw a b) × (field_at bw a b (number n j) ≡ bits n j)
  unfolding user_of
  of_frame i t n j (in_1 x w k) =
      let l : x < count bw 1 a = omega (arith, owned_below o (at r) (length r) i 1 x w, row_count_1 bw a b (known bw a b e)) in
      (omega arith, rw (lt-ltb x (count bw 1 a) l))
  of_frame i t n j (in_2 x m m' w k l f) =
      let c : fields_before 1 (at r) (length r) ≡ count bw 1 a = row_count_1 bw a b (known bw a b e) in
      let d : x < count bw 2 b = omega (arith, owned_below o (at r) (length r) i 2 x w, row_count_2 bw a b (known bw a b e)) in
      let g : count bw 1 a + x - count bw 1 a ≡ x = omega arith in
      (omega arith, rw (c, le-ltb (count bw 1 a + x) (count bw 1 a) (omega arith), g))

  module _ (i t n j : ℕ) (w : FieldOf o (at r) (length r) i t n j) where
    turn : turn_of r (number n j) ≡ t
    turn = (turns o (at r) (length r) s).one_turn i _ t n j (turn_is o r s i n j (owns_it i t n j w)).turn w

    users : users_of r (number n j) ≡ fields_on (resource i)
    users = (turn_is o r s i n j (owns_it i t n j w)).users

    pub streams_same : streams_at bw a b (number n j) ≡ streams_of (fields_on (resource i)) t (bits n j)
    unfolding streams_at
    streams_same = rw (turn, users, (of_frame i t n j w).1)

    pub named_same : named_at bw a b (number n j) ≡ not (names_none (fields_on (resource i)) (bits n j))
    unfolding named_at
    named_same = rw (users, (of_frame i t n j w).1)

  -- and each of the frame's fields is one of a resource's
  pub field_of : (x : ℕ) → x < fields bw a b
      → (i : ℕ) × (t : ℕ) × (n : ℕ) × (j : ℕ) × FieldOf o (at r) (length r) i t n j × (number n j ≡ x)
  field_of x h =
      let v = of_word o r s x (omega (arith, row_count_1 bw a b (known bw a b e), row_count_2 bw a b (known bw a b e))) in
      let k = worked o r s v.0 v.1 v.2 in
      let f = (turns o (at r) (length r) s).each_owned _ v.0 v.1 k.owns in
      (_, f.0, v.0, v.1, f.1, v.3)

-- ---- an accepted call
module _ (c : Call) (h : GivesStreams c) where
  abbrev bw : ℕ
  bw = c.bandwidth

  abbrev a : List ℕ
  a = c.channel_1

  abbrev b : List ℕ
  b = c.channel_2

  module _ (z : c.answer.number ≡ 0) where
    every_row_passes : streams_outcome bw a b (length c.lent) ≡ Ok tt
    every_row_passes = judged.accepted_exactly bw a b (length c.lent) (same_number (streams_give c h).0 z)

    reading_passes : outcome11 bw a b ≡ Ok tt
    reading_passes = (judged.passed bw a b (length c.lent) every_row_passes).0

    all_named : every (named_at bw a b) (fields bw a b) ≡ true
    all_named = (judged.passed bw a b (length c.lent) every_row_passes).1

    one_each : c.answer ≡ no 0 0 (fields bw a b)
    unfolding streams_answer
    one_each = (streams_give c h).0 ∙ rw every_row_passes

    after_is : c.after ≡ filled (streams_at bw a b) (fields bw a b) c.lent
    unfolding streams_after
    after_is = (streams_give c h).1 ∙ rw every_row_passes

    -- a field of a resource, in a plan that signals the row
    module _ (o : ℕ → ℕ) (s : SignalsRow c o) (i t n j : ℕ) (w : TheField c o i t n j) where
      inside : byte_of c n j < fields bw a b
      inside = (of_frame bw a b reading_passes o s i t n j w).0

      is_named : names_none (fields_on (the_resource c o i)) (user bw (channel_of c n) j) ≡ false
      is_named =
          not-true _
          (sym (named_same bw a b reading_passes o s i t n j w) ∙ every_at (named_at bw a b) (fields bw a b) all_named (byte_of c n j) inside)

      its_streams : StreamsOn (the_resource c o i) t (user bw (channel_of c n) j) (at c.after (byte_of c n j))
      its_streams =
          streams_on (the_resource c o i) t (user bw (channel_of c n) j) _
          (ap (λ (v : List ℕ). at v (byte_of c n j)) after_is
          ∙ get_d_filled (streams_at bw a b) (fields bw a b) c.lent (byte_of c n j) 0 inside
          ∙ streams_same bw a b reading_passes o s i t n j w)
          is_named

  -- ---- 21
  some_field : c.answer.number ≡ 21 → (o : ℕ → ℕ) → SignalsRow c o
      → (i : ℕ) × (t : ℕ) × (n : ℕ) × (j : ℕ) × TheField c o i t n j × NoRow (the_resource c o i) (user bw (channel_of c n) j)
  some_field z o s =
      let q = judged.refused_21 bw a b (length c.lent) (same_number (streams_give c h).0 z) in
      let x = some_fails (named_at bw a b) (fields bw a b) q.1 in
      let f = field_of bw a b q.0 o s x.0 x.1 in
      let w = f.4 in
      let e : named_at bw a b (byte_of c f.2 f.3) ≡ false = ap (named_at bw a b) f.5 ∙ x.2 in
      (f.0, f.1, f.2, f.3, w, none_named _ _ (not-false _ (sym (named_same bw a b q.0 o s f.0 f.1 f.2 f.3 w) ∙ e)))

-- ---- 1 to 11
read_answers : (d : Call) → Reads d → d.answer ≡ read_answer d.bandwidth d.channel_1 d.channel_2 (length d.lent)
read_answers d (reads κs a r s p) = p.0

module _ (c d : Call) (h : GivesStreams c) (k : Reads d) (m : SameChannels c d) where
  -- the reading's outcome is that of 1 to 11
  accepted_11 : d.answer.number ≡ 0 → outcome11 c.bandwidth c.channel_1 c.channel_2 ≡ Ok tt
  accepted_11 z =
      rw (m.bandwidths, m.channels_1, m.channels_2)
      (pass_left _ (check12 d.bandwidth d.channel_1 d.channel_2 (length d.lent))
      (sym (read_outcome_stages d.bandwidth d.channel_1 d.channel_2 (length d.lent))
      ∙ reading.accepted_exactly d.bandwidth d.channel_1 d.channel_2 (length d.lent) (same_number (read_answers d k) z)))

  as_read : 154 ≤ length d.lent → d.answer.number ≢ 0 → c.answer ≡ d.answer
  unfolding read_answer
  as_read l n = go (pass_or_refuse (outcome11 c.bandwidth c.channel_1 c.channel_2))
    where
      words : ℕ
      words = word_count d.bandwidth d.channel_1 d.channel_2

      answered : d.answer ≡ answer_at (outcome11 c.bandwidth c.channel_1 c.channel_2) words
      answered =
          read_answers d k
          ∙ rw (m.bandwidths, m.channels_1, m.channels_2, read_outcome_lem d.bandwidth d.channel_1 d.channel_2 (length d.lent) l)

      go : (outcome11 c.bandwidth c.channel_1 c.channel_2 ≡ Ok tt)
          ⊎ ((y : Refusal) × (outcome11 c.bandwidth c.channel_1 c.channel_2 ≡ Err y)) → c.answer ≡ d.answer
      go (inl p) = absurd (n (ap (λ (x : Answer). x.number) (answered ∙ ap (λ (x : Outcome). answer_at x words) p)))
      go (inr (y, q)) =
          (streams_give c h).0
          ∙ refused_answer c.bandwidth c.channel_1 c.channel_2 y q (length c.lent)
          ∙ sym (answered ∙ ap (λ (x : Outcome). answer_at x words) q)

  given_21 : d.answer.number ≡ 0 → (o : ℕ → ℕ) → SignalsRow c o → (i t n j : ℕ) → TheField c o i t n j
      → NoRow (the_resource c o i) (user c.bandwidth (channel_of c n) j) → c.answer ≡ no 21 0 0
  given_21 z o s i t n j w v =
      let a = c.channel_1 in
      let b = c.channel_2 in
      let e = accepted_11 z in
      let x = byte_of c n j in
      let f : named_at c.bandwidth a b x ≡ false =
      named_same c.bandwidth a b e o s i t n j w ∙ ap not (named_none (the_resource c o i) (user c.bandwidth (channel_of c n) j) v) in
      (streams_give c h).0
      ∙ judged.given_21 c.bandwidth a b (length c.lent) e x (of_frame c.bandwidth a b e o s i t n j w).0 f

pub per_station : PerStation
per_station = record {
  one_each = one_each;
  past_kept = λ c h z. rw (after_is c h z) (drop_filled (streams_at _ _ _) (fields _ _ _) c.lent);
  a_plan = λ c h z. of_eight c.bandwidth c.channel_1 c.channel_2 (reading_passes c h z);
  the_streams = its_streams;
  refused_21 = some_field;
  given_21 = given_21;
  as_read = as_read;
  streams_agree = λ c c' h h' m e. (
    (streams_give c h).0 ∙ rw (m.bandwidths, m.channels_1, m.channels_2, e) (sym (streams_give c' h').0),
    (streams_give c h).1 ∙ rw (m.bandwidths, m.channels_1, m.channels_2, e) (sym (streams_give c' h').1),
  );
}
