-- The second demand, the third and the listing hold of the calls from C.
use mathlib.Core.Path.{◌≡◌, refl, sym, ◌∙◌, ap, subst}
use mathlib.Core.Logic.{◌≢◌, ⊎_elim}
use mathlib.Core.Bool.{Bool, true, false}
use mathlib.Core.List.{List}
use Prim.Native.Nat.{ℕ, ◌*◌, ◌/◌, ◌%◌, ◌≤◌}
use native.Mathlib.Omega.{arith}
use lib.Dec.{eqb}
use lib.ListN.{length, take, drop}
use lib.Seq.{take-append_seam, drop-append_seam}
use borrow.Author.Tests.{le-ltb, eqb-true, eqb-false}
use Rattle.answer.specs.Answer.{no, ◌or◌}
use Rattle.answer.specs.declared.Answer.{Answer}
use Rattle.answer.specs.Answer.{Outcome}
use Rattle.std.specs.Prelude.{Ok, Err}
use Rattle.bits.specs.Bits.{Small}
use Rattle.word_bytes.specs.Bytes.{words_in, bytes_in}
use Rattle.word_bytes.proofs.Inverse.{inverse}
use Rattle.channel.specs.Layout.{present}
use Rattle.halves.specs.Table.{outcome11}
use Rattle.frame_words.specs.Words.{words_of, SameFrame}
use Rattle.frame_words.proofs.Determine.{words_length}
use Rattle.frame_words.proofs.Counted.{word_count_le}
use Rattle.reader.specs.Result.{read_answer}
use Rattle.writer.specs.Result.{write_answer, channel_after}
use Rattle.writer.specs.Worked.{ReadsTo}
use Rattle.writer.specs.Inverse.{Accepts, GivenBack}
use Rattle.writer.proofs.Reading.{read_place, accepts_reads, reads_pass, reads_accepts}
use Rattle.byte_reader.specs.Bytes.{bytes_read_answer, read_bytes}
use Rattle.brachymel.specs.Bytes.{bytes_write_answer, write_channel}
use Rattle.listed.specs.Listing.{listing, check23, list_outcome, list_answer, list_after}
use Rattle.listing.proofs.Facts.{read_refuses, read_accepts, list_refuses, list_accepts}
use Rattle.listing.proofs.Judged as listed
use Rattle.listing_size.specs.Longest.{longest_at}
use Rattle.listing_size.proofs.Longest.{listing_within}
use Rattle.claims.specs.Calls.{Call, WriteCall, Reads, reads, Writes, writes, lists, CReads, c_reads, CWrites, c_writes, c_lists}
use Rattle.claims.specs.Second.{bytes_of, words_read, written_1, written_2}
use Rattle.claims.specs.Rows.{CarryRow, ForLayout}
use Rattle.claims.specs.FromC.{in_words, of_words, bytes_read, AcceptsBytes, SecondFromC, AnyLists, from_rattle, from_c, listing_in, HoldsListing}
use Rattle.claims.specs.FromC.{ListingWritten, CReadAccepts, ListAccepts, ThirdFromC}
use Rattle.claims.proofs.InWords.{words_of_bytes, room_in_words, words_after_lem, bytes_there, past_there, bytes_whole, bytes_read_lem, read_bytes_lem}
use Rattle.claims.proofs.InWords.{whole_words, no_whole_words, accepted_whole}
use Rattle.claims.proofs.Second.{second_demand}
use Rattle.claims.proofs.Answers.{all_channels, for_layout, some_accepted}
use Rattle.claims.proofs.Program.{of_table}

-- ---- each call is one in words
in_words_lem : (c : Call) → CReads c → Reads (in_words c)
in_words_lem c (c_reads κs a r s p) =
    let bw = a.0 in
    let x = a.1.0.now in
    let y = a.1.1.0.now in
    let w = a.1.1.1.0 in
    let e = s.1.1.1.0 in
    reads κs
    (bw, (a.1.0, (a.1.1.0, (record { ref_ptr = w.ref_ptr; ghost_name = w.ghost_name; now = words_in w.now }, tt))))
    r
    (bw, (s.1.0, (s.1.1.0, (record { ref_ptr = e.ref_ptr; ghost_name = e.ghost_name; now = words_in e.now }, tt))))
    (p.0 ∙ ap (read_answer bw x y) (sym (room_in_words w.now)), ap words_in p.1 ∙ words_after_lem bw x y w.now)

of_words_lem : (d : WriteCall) → CWrites d → length d.words % 4 ≡ 0 → Writes (of_words d)
unfolding bytes_write_answer write_channel write_answer channel_after
of_words_lem d (c_writes κs a r s p) z =
    let t = a.1.0.now in
    let o = whole_words a.0 t (length a.1.1.0.now) (length a.1.1.1.0.now) z in
    let w = a.1.0 in
    let e = s.1.0 in
    writes κs
    (a.0, (record { ref_ptr = w.ref_ptr; now = words_in t }, (a.1.1.0, (a.1.1.1.0, tt))))
    r
    (s.0, (record { ref_ptr = e.ref_ptr; now = words_in t }, (s.1.1.0, (s.1.1.1.0, tt))))
    (rw o at p.0, (rw o at p.1.0, rw o at p.1.1))

-- ---- reading
equations : (c : Call) → CReads c
    → (c.answer ≡ read_answer c.bandwidth c.channel_1 c.channel_2 (length c.lent / 4))
    × (c.after ≡ read_bytes c.bandwidth c.channel_1 c.channel_2 c.lent)
equations c (c_reads κs a r s p) = (p.0, p.1)

module _ (c : Call) (h : CReads c) (z : c.answer.number ≡ 0) where
  abbrev ws : List ℕ
  ws = words_of c.bandwidth c.channel_1 c.channel_2

  number_0 : (bytes_read_answer c.bandwidth c.channel_1 c.channel_2 c.lent).number ≡ 0
  number_0 = ap (λ (x : Answer). x.number) (sym (equations c h).0) ∙ z

  bytes_are : bytes_read c ≡ bytes_in ws
  bytes_are =
      rw ((equations c h).0, (equations c h).1) (bytes_there c.bandwidth c.channel_1 c.channel_2 c.lent number_0)

  past_kept : drop (4 * c.answer.place) c.after ≡ drop (4 * c.answer.place) c.lent
  past_kept = rw ((equations c h).0, (equations c h).1) (past_there c.bandwidth c.channel_1 c.channel_2 c.lent number_0)

  words_are : words_read (in_words c) ≡ ws
  words_are =
      let e = second_demand.reading_is (in_words c) (in_words_lem c h) in
      let a : Accepts c.bandwidth c.channel_1 c.channel_2 (words_in c.lent) (words_read (in_words c)) =
      record { number_0 = ap (λ (x : Answer). x.number) (sym e.0) ∙ z; exactly = rw (← e.0, ← e.1) refl } in
      sym (accepts_reads c.bandwidth c.channel_1 c.channel_2 (words_in c.lent) (words_read (in_words c)) a).the_words

  -- the words of the bytes
  words_of_lem : words_in (bytes_read c) ≡ words_read (in_words c)
  words_of_lem = ap words_in bytes_are ∙ words_of_bytes c.bandwidth c.channel_1 c.channel_2 ∙ sym words_are

all_said : (c c' : Call) → CReads c → CReads c' → c.answer.number ≡ 0 → c'.answer.number ≡ 0 → bytes_read c ≡ bytes_read c'
    → SameFrame c.bandwidth c.channel_1 c.channel_2 c'.bandwidth c'.channel_1 c'.channel_2
all_said c c' h h' z z' e =
    second_demand.words_say_all (in_words c) (in_words c') (in_words_lem c h) (in_words_lem c' h') z z'
    (sym (words_of_lem c h z) ∙ ap words_in e ∙ words_of_lem c' h' z')

-- ---- writing
written_back : (c : Call) (d : WriteCall) → CReads c → CWrites d → c.answer.number ≡ 0
    → d.bandwidth ≡ c.bandwidth → d.words ≡ bytes_read c
    → bytes_of c ≤ length d.lent_1 → (present c.bandwidth 2 ≡ true → bytes_of c ≤ length d.lent_2)
    → GivenBack c.bandwidth c.channel_1 c.channel_2 d.lent_1 d.lent_2 d.after_1 d.after_2 d.answer
written_back c d h k z e f =
    let m : length d.words % 4 ≡ 0 = ap (λ (t : List ℕ). length t % 4) (f ∙ bytes_are c h z) ∙ bytes_whole (ws c h z) in
    second_demand.writing_gives_back (in_words c) (of_words d) (in_words_lem c h) (of_words_lem d k m) z e (ap words_in f ∙ words_of_lem c h z)

answered : (d : WriteCall) → CWrites d → d.answer ≡ bytes_write_answer d.bandwidth d.words (length d.lent_1) (length d.lent_2)
answered d (c_writes κs a r s p) = p.0

whole : (d : WriteCall) → CWrites d → d.answer.number ≡ 0 → length d.words % 4 ≡ 0
whole d k z =
    accepted_whole d.bandwidth d.words (length d.lent_1) (length d.lent_2) (ap (λ (x : Answer). x.number) (sym (answered d k)) ∙ z)

read_back : (d : WriteCall) (c : Call) → CWrites d → CReads c → Small d.words → d.answer.number ≡ 0
    → c.bandwidth ≡ d.bandwidth → c.channel_1 ≡ written_1 d → c.channel_2 ≡ written_2 d
    → length d.words ≤ length c.lent
    → (c.answer ≡ no 0 0 (length d.words / 4)) × (take (length d.words) c.after ≡ d.words)
read_back d c k h s z e f g l =
    let t = d.words in
    let m = whole d k z in
    let n = room_in_words t in
    let o = room_in_words c.lent in
    let r = second_demand.reading_gives_back (of_words d) (in_words c) (of_words_lem d k m) (in_words_lem c h) z e f g (omega (arith, n, o)) in
    let x : c.answer ≡ no 0 0 (length t / 4) = r.0 ∙ ap (no 0 0) n in
    let y : c.answer.number ≡ 0 = ap (λ (v : Answer). v.number) x in
    let i : 4 * c.answer.place ≡ length t = ap (λ (v : Answer). 4 * v.place) x ∙ omega arith in
    let j : length (words_in t) ≡ c.answer.place = ap (λ (v : Answer). v.place) (sym r.0) in
    let w : ws c h y ≡ words_in t = sym (words_are c h y) ∙ ap (λ (q : ℕ). take q (words_in c.after)) (sym j) ∙ r.1 in (
      x,
      ap (λ (q : ℕ). take q c.after) (sym i) ∙ bytes_are c h y ∙ ap bytes_in w ∙ inverse.bytes_again t s.small m,
    )

ragged_refused : (d : WriteCall) → CWrites d → d.bandwidth ≤ 4 → (length d.words % 4 ≡ 0 → ⊥) → d.answer ≡ no 13 0 0
ragged_refused d k l m = answered d k ∙ no_whole_words d.bandwidth d.words (length d.lent_1) (length d.lent_2) l m

none_read : (d : WriteCall) → CWrites d → Small d.words → d.bandwidth ≤ 4
    → ((x y t : List ℕ) → Small x → Small y → AcceptsBytes d.bandwidth x y t d.words → ⊥) → d.answer.number ≡ 13
none_read d k s l f = go (eqb (length d.words % 4) 0) refl
  where
    go : (t : Bool) → eqb (length d.words % 4) 0 ≡ t → d.answer.number ≡ 13
    go true e =
        let m = eqb-true (length d.words % 4) 0 e in
        second_demand.words_of_none_refused (of_words d) (of_words_lem d k m) l
        (λ x y w i j a. f x y d.words i j (read_bytes_lem d.bandwidth x y d.words s m (accepts_reads d.bandwidth x y w (words_in d.words) a)))
    go false e = ap (λ (x : Answer). x.number) (ragged_refused d k l (eqb-false (length d.words % 4) 0 e))

refused_none : (d : WriteCall) → CWrites d → d.answer.number ≡ 13 → (x y t : List ℕ) → AcceptsBytes d.bandwidth x y t d.words → ⊥
refused_none d k z x y t a =
    let r = bytes_read_lem d.bandwidth x y t d.words a in
    let w = words_in d.words in
    second_demand.only_words_of_none_refused (of_words d) (of_words_lem d k r.0) z x y w (reads_accepts d.bandwidth x y w w r.1 (omega arith))

pub second_from_c : SecondFromC
second_from_c = record {
  little_endian = inverse;
  reads_words = in_words_lem;
  writes_words = of_words_lem;
  ragged_refused = ragged_refused;
  reading_is = equations;
  bytes_are = bytes_are;
  past_kept = past_kept;
  user_words_are = λ c h. second_demand.user_words_are (in_words c) (in_words_lem c h);
  words_say_all = all_said;
  writing_gives_back = written_back;
  reading_gives_back = read_back;
  words_of_none_refused = none_read;
  only_words_of_none_refused = refused_none;
}

-- ---- the listing
module _ (bw : ℕ) (a b : List ℕ) where
  list_room : (room : ℕ) → outcome11 bw a b ≡ Ok tt → longest_at bw ≤ room → (list_answer bw a b room).number ≡ 0
  unfolding list_answer list_outcome check23
  list_room room e l = rw (e, le-ltb room (length (listing bw a b)) (omega (arith, listing_within bw a b e)))

lists_are : (c : Call) → AnyLists c
    → (c.answer ≡ list_answer c.bandwidth c.channel_1 c.channel_2 (length c.lent))
    × (c.after ≡ list_after c.bandwidth c.channel_1 c.channel_2 c.lent)
lists_are c (from_rattle (lists κs a r s p)) = (p.0, p.1)
lists_are c (from_c (c_lists κs a r s p)) = (p.0, p.1)

holds : (c : Call) → AnyLists c → c.answer.number ≡ 0 → HoldsListing c
unfolding list_answer list_after
holds c h z =
    let e = lists_are c h in
    let t = listing_in c in
    let o = listed.accepted_exactly c.bandwidth c.channel_1 c.channel_2 (length c.lent) (ap (λ (x : Answer). x.number) (sym e.0) ∙ z) in
    record {
      its_answer = e.0 ∙ rw o;
      text = rw (e.1, o) (take-append_seam t (drop (length t) c.lent));
      past_kept = rw (e.1, o) (drop-append_seam t (drop (length t) c.lent));
    }

list_number : (c : Call) → AnyLists c → c.answer.number ≡ (list_answer c.bandwidth c.channel_1 c.channel_2 (length c.lent)).number
list_number c h = ap (λ (x : Answer). x.number) (lists_are c h).0

never_23 : (c : Call) → AnyLists c → longest_at c.bandwidth ≤ length c.lent → c.answer.number ≡ 23 → ⊥
never_23 c h l z = go (outcome11 bw a b) refl
  where
    bw : ℕ
    bw = c.bandwidth

    a : List ℕ
    a = c.channel_1

    b : List ℕ
    b = c.channel_2

    go : (o : Outcome) → outcome11 bw a b ≡ o → ⊥
    go (Ok u) e = omega (arith, z, list_number c h, list_room bw a b (length c.lent) e l)
    go (Err x) e =
        omega (arith, z, ap (λ (y : Answer). y.number) ((lists_are c h).0 ∙ list_refuses bw a b (length c.lent) x e), (of_table bw a b x e).1)

pub listing_written : ListingWritten
listing_written = record { holds = holds; always_room = never_23 }

-- ---- the third demand

-- of two answers that are neither 7 nor 8 both are for the layout, or none
another : (r : List ℕ) (x y : Answer) → ForLayout r x → x.number ≢ 7 → x.number ≢ 8 → y.number ≢ 7 → y.number ≢ 8 → ForLayout r y
another r x y f n7 n8 m7 m8 =
    let p = f.neither n7 n8 in
    record {
      neither = λ i j. p;
      signalled = λ q. (m7, m8);
      otherwise = λ q. absurd (q p);
      seven = λ e. absurd (m7 e);
      gets_7 = λ s l q. absurd (n7 (f.gets_7 s l q));
      eight = λ e. absurd (m8 e);
      gets_8 = λ o w s v. absurd (n8 (f.gets_8 o w s v));
      seven_before = λ w e. absurd (m7 e);
      gets_7_before = λ w s l q. absurd (n7 (f.gets_7_before w s l q));
      eight_before = λ w e. absurd (m8 e);
      gets_8_before = λ w q s l v. absurd (n8 (f.gets_8_before w q s l v));
    }

list_layout : (bw : ℕ) (r a b : List ℕ) (room : ℕ) → CarryRow bw r a b → ForLayout r (list_answer bw a b room)
list_layout bw r a b room h = go (outcome11 bw a b) refl
  where
    f : ForLayout r (read_answer bw a b 154)
    f = for_layout bw r a b 154 h

    go : (o : Outcome) → outcome11 bw a b ≡ o → ForLayout r (list_answer bw a b room)
    go (Err x) e = subst (ForLayout r) (read_refuses bw a b x e ∙ sym (list_refuses bw a b room x e)) f
    go (Ok u) e =
        let z = read_accepts bw a b e in
        let y = list_accepts bw a b room e in
        another r (read_answer bw a b 154) (list_answer bw a b room) f (λ n. omega arith) (λ n. omega arith)
        (λ n. ⊎_elim (λ p. omega (arith, n, p)) (λ p. omega (arith, n, p)) y)
        (λ n. ⊎_elim (λ p. omega (arith, n, p)) (λ p. omega (arith, n, p)) y)

accepts : (bw : ℕ) (x y : List ℕ) → outcome11 bw x y ≡ Ok tt → CReadAccepts bw x y
accepts bw x y e c h f g i l =
    let w : ReadsTo bw x y (words_of bw x y) = record { accepted = e; the_words = refl } in
    let n : length (words_of bw x y) ≤ length c.lent / 4 = omega (arith, words_length bw x y, word_count_le bw x y) in
    let p = read_place bw x y (length c.lent / 4) (reads_pass bw x y (words_of bw x y) (length c.lent / 4) w n) in
    ap (λ (v : Answer). v.number) (rw (f, g, i) at (equations c h).0 ∙ p)

list_accepts_it : (bw : ℕ) (x y : List ℕ) → outcome11 bw x y ≡ Ok tt → ListAccepts bw x y
list_accepts_it bw x y e c h f g i l = list_number c h ∙ rw (f, g, i) (list_room bw x y (length c.lent) e l)

pub third_from_c : (b : ℕ) (row : List ℕ) → ThirdFromC b row
third_from_c b row = record {
  row_is_answered = λ c h. all_channels row (in_words c) (in_words_lem c h);
  row_is_listed = λ c h w. rw (lists_are c h).0 (list_layout c.bandwidth row c.channel_1 c.channel_2 (length c.lent) w);
  plan_is_read = λ w p.
      let g = some_accepted b row w p in
      (g.0, g.1, g.2, g.3, g.4, accepts b g.0 g.1 g.5, list_accepts_it b g.0 g.1 g.5);
}
