-- 02's T-06 holds.
use mathlib.Core.Path.{◌≡◌, refl, sym, ap, ◌∙◌}
use mathlib.Core.Bool.{Bool, true, false}
use mathlib.Core.Logic.{◌⊎◌, inl, inr}
use mathlib.Core.List.{List, [], ◌++◌}
use Prim.Native.Nat.{ℕ, ◌≤◌}
use native.Mathlib.Omega.{arith}
use lib.Dec.{ltb}
use lib.ListN.{length, take, drop}
use lib.Seq.{take-append_seam}
use borrow.Author.Tests.{ne_eqb}
use Rattle.answer.specs.Answer.{no, ◌or◌, refuse_if, answer_at}
use Rattle.answer.specs.declared.Answer.{Answer}
use Rattle.answer.specs.declared.Refusal.TheVariants.{TooFewWords}
use Rattle.answer.specs.declared.Refusal.{Refusal}
use Rattle.answer.specs.Answer.{answer_of}
use Rattle.std.specs.Prelude.{Ok, Err}
use Rattle.channel.specs.Layout.{row}
use Rattle.halves.specs.Table.{outcome11}
use Rattle.frame_words.specs.Words.{word_count}
use Rattle.reader.specs.Table.{check12, no_room}
use Rattle.reader.specs.Result.{read_answer}
use Rattle.reader.proofs.Stages.{read_outcome_stages, reading_stopped}
use Rattle.text.specs.Text.{codes, line, Wrote}
use Rattle.text.proofs.Laws.{front, count as written}
use Rattle.lines.specs.Lines.{refusal_text}
use Rattle.captures.specs.Worked.{SaidTwo, wrong_six, frames, said_two, TextOfTwo}
use Rattle.captures.proofs.Worked.{worked}
use Rattle.compared.specs.Reading.{reading_of}
use Rattle.compared.specs.Differences.{differences, comparison}
use Rattle.compared.specs.Text.{difference_lines, comparison_text, text_answer, text_after}
use Rattle.compare_size.specs.Size.{compare_size}
use Rattle.compared.specs.Program.{said_of_two, compared_text}
use Rattle.compared.proofs.Exact.{exact}
use Rattle.compared.proofs.Once.{once}
use Rattle.compared.proofs.InOrder.{in_order}
use Rattle.compared.proofs.Exchanged.{frames_exchanged_1, frames_exchanged_2}
use Rattle.compared.proofs.Words.{frame_words}
use Rattle.compared.proofs.NoLine.{no_line, with_itself}
use Rattle.compare_size.proofs.Within.{comparison_within}
use Rattle.comparing.proofs.Within.{program_within}
use Rattle.claims.specs.Calls.{Call, TextCall, CompareCall, Reads, reads, Compares, compares, c_compares, CompareResponds, compare_responds}
use Rattle.claims.specs.Compared.{Compared, SameReading, list_of, lines_in, Accepted1, Accepted2, EqualReadings, EqualFields, Twice, SameFrames}
use Rattle.claims.specs.Compared.{ComparesFirst, ComparesSay, PlaceOf22, EqualSaid, ComparesProgram}
use Rattle.claims.proofs.Texts.{text_judged, room_enough, text_kept, text_there, past_there, no_bytes}

-- ---- what each call gives
record Gives (c : CompareCall) : Type 0 where
  pub answers : c.answer ≡ text_answer (lines_in c) (length c.lent)
  pub leaves : c.after ≡ text_after (lines_in c) c.lent

gives : (c : CompareCall) → Compares c → Gives c
unfolding comparison_text
gives c (compares κs a r s p) = record { answers = p.0; leaves = p.1 }
gives c (c_compares κs a r s p) = record { answers = p.0; leaves = p.1 }

module _ (c : CompareCall) (h : Compares c) where
  given_number : c.answer.number ≡ 0 → (text_answer (lines_in c) (length c.lent)).number ≡ 0
  given_number z = ap (λ (x : Answer). x.number) (sym (gives c h).answers) ∙ z

  kept : (c.answer.number ≡ 0 → ⊥) → c.after ≡ c.lent
  kept n =
      let g = gives c h in
      g.leaves ∙ text_kept (lines_in c) c.lent (λ z. n (ap (λ (x : Answer). x.number) g.answers ∙ z))

  there : c.answer.number ≡ 0 → take c.answer.place c.after ≡ lines_in c
  there z = let g = gives c h in rw (g.answers, g.leaves) (text_there (lines_in c) c.lent (given_number z))

  past : c.answer.number ≡ 0 → drop c.answer.place c.after ≡ drop c.answer.place c.lent
  past z = let g = gives c h in rw (g.answers, g.leaves) (past_there (lines_in c) c.lent (given_number z))

  always : compare_size ≤ length c.lent → c.answer.number ≡ 0
  unfolding comparison_text
  always l =
      let w = comparison_within c.bandwidth_1 c.first_1 c.first_2 c.bandwidth_2 c.second_1 c.second_2 in
      ap (λ (x : Answer). x.number) ((gives c h).answers ∙ room_enough (lines_in c) (length c.lent) (omega arith))

  -- no difference is no byte, and back
  none_silent : list_of c ≡ [] → c.answer ≡ no 0 0 0
  unfolding difference_lines
  none_silent e = rw e at (gives c h).answers ∙ room_enough [] (length c.lent) (omega arith)

  silent_none : c.answer ≡ no 0 0 0 → list_of c ≡ []
  silent_none e =
      let n = length (row c.bandwidth_1 c.first_1 c.first_2) in
      let j = text_judged (lines_in c) (length c.lent) in
      let z : text_answer (lines_in c) (length c.lent) ≡ no 0 0 0 = sym (gives c h).answers ∙ e in
      let p = (j.accepted (ap (λ (x : Answer). x.number) z)).0 in
      no_bytes n (list_of c) (ap (λ (x : Answer). x.place) (sym p ∙ z))

agreed : (c c' : CompareCall) → Compares c → Compares c' → SameFrames c c' → (c.answer ≡ c'.answer) × (c.after ≡ c'.after)
agreed c c' h h' i =
    let g = gives c h in
    let g' = gives c' h' in
    let same : lines_in c ≡ lines_in c' =
    rw (
      i.bandwidths.0,
      i.bandwidths.1,
      i.first_frames.0,
      i.first_frames.1,
      i.second_frames.0,
      i.second_frames.1,
    ) refl in (
      g.answers ∙ rw (same, i.buffers) (sym g'.answers),
      g.leaves ∙ rw (same, i.buffers) (sym g'.leaves),
    )

responses : (c c' : TextCall) → CompareResponds c → CompareResponds c' → c.text ≡ c'.text → c.lent ≡ c'.lent
    → (c.bytes ≡ c'.bytes) × (c.after ≡ c'.after)
responses c c' (compare_responds κs a r s p) (compare_responds κs' a' r' s' q) e f =
    (p.next ∙ rw e (sym q.next), p.bytes ∙ rw (e, f) (sym q.bytes))

pub compares_first : ComparesFirst
compares_first = record {
  ends = λ c h. rw (gives c h).answers (text_judged (lines_in c) (length c.lent));
  asks_nothing = λ κs a. tt;
  c_asks_nothing = λ κs a. tt;
  respond_asks_nothing = λ κs a. tt;
  keeps = kept;
  always_room = always;
  agree = agreed;
  responses_agree = responses;
}

-- ---- the list of the differences
compared : (bw : ℕ) (a b : List ℕ) (bw' : ℕ) (a' b' : List ℕ) → Compared bw a b bw' a' b' (comparison bw a b bw' a' b')
unfolding comparison differences reading_of
compared bw a b bw' a' b' = record {
  are_differences = λ e f. rw (e, f);
  exact = exact (reading_of bw a b) (reading_of bw' a' b');
  once = once bw a b bw' a' b';
  in_order = in_order bw a b bw' a' b';
  other_bandwidth = λ e f n. rw (e, f, ne_eqb bw bw' n);
  first_refused = λ x e f. rw (e, f);
  second_refused = λ y e f. rw (e, f);
  both_refused = λ x y e f. rw (e, f);
  exchanged_1 = frames_exchanged_1 bw a b bw' a' b';
  exchanged_2 = frames_exchanged_2 bw a b bw' a' b';
}

-- ---- the answers of reading
its_answer : (c : Call) → Reads c → (x : Refusal) → outcome11 c.bandwidth c.channel_1 c.channel_2 ≡ Err x → c.answer ≡ answer_of x
unfolding read_answer
its_answer c (reads κs a r s p) x e =
    p.0 ∙ rw (reading_stopped a.0 a.1.0.now a.1.1.0.now (length a.1.1.1.0.now) x e)

read_or_12 : (bw : ℕ) (a b : List ℕ) (room : ℕ) → outcome11 bw a b ≡ Ok tt
    → ((read_answer bw a b room).number ≡ 0) ⊎ ((read_answer bw a b room).number ≡ 12)
unfolding read_answer check12 no_room
read_or_12 bw a b room e = rw (read_outcome_stages bw a b room, e) (go (ltb room (word_count bw a b)))
  where
    go : (t : Bool) → ((answer_at (refuse_if t (TooFewWords (word_count bw a b))) (word_count bw a b)).number ≡ 0)
        ⊎ ((answer_at (refuse_if t (TooFewWords (word_count bw a b))) (word_count bw a b)).number ≡ 12)
    go true = inr refl
    go false = inl refl

is_read : (c : Call) → Reads c → outcome11 c.bandwidth c.channel_1 c.channel_2 ≡ Ok tt → (c.answer.number ≡ 0) ⊎ (c.answer.number ≡ 12)
is_read c (reads κs a r s p) e =
    rw p.0 (read_or_12 a.0 a.1.0.now a.1.1.0.now (length a.1.1.1.0.now) e)

-- ---- equal readings
same_none : (bw : ℕ) (a b : List ℕ) (bw' : ℕ) (a' b' : List ℕ) → SameReading bw a b bw' a' b' → comparison bw a b bw' a' b' ≡ []
same_none bw a b bw' a' b' s = (no_line bw a b bw' a' b').equal s.accepted_1 s.accepted_2 s.one_bandwidth s.one_reading

none_same : (bw : ℕ) (a b : List ℕ) (bw' : ℕ) (a' b' : List ℕ) → comparison bw a b bw' a' b' ≡ [] → SameReading bw a b bw' a' b'
none_same bw a b bw' a' b' e =
    let n = no_line bw a b bw' a' b' in
    record { accepted_1 = n.accepted_1 e; accepted_2 = n.accepted_2 e; one_bandwidth = n.one_bandwidth e; one_reading = n.one_reading e }

module _ (c : CompareCall) (h : Compares c) where
  equal_silent : EqualReadings c → c.answer ≡ no 0 0 0
  equal_silent s = none_silent c h (same_none c.bandwidth_1 c.first_1 c.first_2 c.bandwidth_2 c.second_1 c.second_2 s)

  silent_equal : c.answer ≡ no 0 0 0 → EqualReadings c
  silent_equal e = none_same c.bandwidth_1 c.first_1 c.first_2 c.bandwidth_2 c.second_1 c.second_2 (silent_none c h e)

  padding_silent : Accepted1 c → Accepted2 c → EqualFields c → c.answer ≡ no 0 0 0
  padding_silent e f s = equal_silent (record {
    accepted_1 = e;
    accepted_2 = f;
    one_bandwidth = s.bandwidth;
    one_reading = frame_words c.bandwidth_1 c.first_1 c.first_2 c.bandwidth_2 c.second_1 c.second_2 e f s;
  })

  itself_silent : Twice c → Accepted1 c → c.answer ≡ no 0 0 0
  itself_silent t e =
      none_silent c h
      (rw (← t.bandwidths, ← t.channels_1, ← t.channels_2) (with_itself c.bandwidth_1 c.first_1 c.first_2 e))

pub compares_say : ComparesSay
compares_say = record {
  writes_lines = there;
  past_kept = past;
  compared = compared;
  its_answer = its_answer;
  is_read = is_read;
  equal_silent = equal_silent;
  silent_equal = silent_equal;
  padding_silent = padding_silent;
  itself_silent = itself_silent;
}

-- ---- the program's text
responds_with : (c : TextCall) → CompareResponds c → Wrote c.lent 0 (compared_text c.text) c.after c.bytes
responds_with c (compare_responds κs a r s p) = p

module _ (c : TextCall) (h : CompareResponds c) where
  bytes_are : c.bytes ≡ length (compared_text c.text)
  bytes_are = written (responds_with c h)

  front_is : c.bytes ≤ length c.lent → take c.bytes c.after ≡ compared_text c.text
  front_is l =
      let t = compared_text c.text in
      let n = bytes_are in
      rw (front (omega arith) (responds_with c h), n) (take-append_seam t (drop (length t) c.lent))

  within : c.bytes ≤ compare_size
  within = omega (arith, bytes_are, program_within c.text)

  module _ (bw : ℕ) (a b : List ℕ) (bw' : ℕ) (a' b' : List ℕ) (t : TextOfTwo c.text bw a b bw' a' b') where
    text_is : compared_text c.text ≡ difference_lines (length (row bw a b)) (comparison bw a b bw' a' b')
    unfolding compared_text comparison_text
    text_is = rw ((worked c.text).says bw a b bw' a' b' t)

  refused : c.bytes ≤ length c.lent → ((bw : ℕ) (a b : List ℕ) (bw' : ℕ) (a' b' : List ℕ) → TextOfTwo c.text bw a b bw' a' b' → ⊥)
      → (k : ℕ) × PlaceOf22 k c.text
      × (take c.bytes c.after ≡ line (codes "answer=") 22 ++ line (codes "channel=") 0 ++ line (codes "place=") k)
  unfolding compared_text refusal_text
  refused l n = go (said_two c.text) refl
    where
      go : (x : SaidTwo) → said_two c.text ≡ x → (k : ℕ) × PlaceOf22 k c.text
          × (take c.bytes c.after ≡ line (codes "answer=") 22 ++ line (codes "channel=") 0 ++ line (codes "place=") k)
      go (wrong_six k) e = (k, (worked c.text).is_wrong k e, front_is l ∙ ap said_of_two e)
      go (frames bw a b bw' a' b') e = absurd (n bw a b bw' a' b' ((worked c.text).is_said bw a b bw' a' b' e))

  said_nothing : c.bytes ≡ 0 → EqualSaid c.text
  unfolding compared_text comparison_text refusal_text
  said_nothing z = go (said_two c.text) refl
    where
      no_byte : (x : SaidTwo) → said_two c.text ≡ x → length (said_of_two x) ≡ 0
      no_byte x e = ap (λ (y : SaidTwo). length (said_of_two y)) (sym e) ∙ sym bytes_are ∙ z

      go : (x : SaidTwo) → said_two c.text ≡ x → EqualSaid c.text
      go (wrong_six k) e = absurd (let n = no_byte (wrong_six k) e in omega arith)
      go (frames bw a b bw' a' b') e =
          let n = no_byte (frames bw a b bw' a' b') e in
          record {
            bandwidth_1 = bw;
            first_1 = a;
            first_2 = b;
            bandwidth_2 = bw';
            second_1 = a';
            second_2 = b';
            is = (worked c.text).is_said bw a b bw' a' b' e;
            same = none_same bw a b bw' a' b' (no_bytes (length (row bw a b)) (comparison bw a b bw' a' b') n);
          }

  nothing_said : EqualSaid c.text → c.bytes ≡ 0
  unfolding difference_lines
  nothing_said s =
      let e = same_none s.bandwidth_1 s.first_1 s.first_2 s.bandwidth_2 s.second_1 s.second_2 s.same in
      let t = text_is s.bandwidth_1 s.first_1 s.first_2 s.bandwidth_2 s.second_1 s.second_2 s.is in
      bytes_are ∙ ap length (rw e at t)

pub compares_program : ComparesProgram
compares_program = record {
  compares = λ c h l bw a b bw' a' b' t. front_is c h l ∙ text_is c h bw a b bw' a' b' t;
  refuses_22 = refused;
  always_room = within;
  silent_equal = said_nothing;
  equal_silent = nothing_said;
}
