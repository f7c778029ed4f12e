-- What the code makes of an accepted frame's words is what 02 asks of the frame.
use mathlib.Core.Path.{◌≡◌, sym, ◌∙◌, ap}
use mathlib.Core.Logic.{⊎_elim, ◌⊎◌, inl, inr}
use mathlib.Core.Bool.{Bool, not}
use mathlib.Core.List.{List, [], ◌∷◌, ◌++◌}
use Prim.Native.Nat.{ℕ, ◌+◌, ◌-◌, ◌*◌, ◌/◌, ◌%◌, ◌≤◌, ◌<◌}
use native.Mathlib.Omega.{arith}
use borrow.Author.Tests.{lt-ltb, le-ltb}
use lib.Dec.{leb}
use lib.ListN.{length, replicate, take, drop, length-append, length-drop}
use lib.Seq.{get_or-drop, take-append_seam}
use Rattle.answer.specs.Answer.{◌or◌, answer_at}
use Rattle.answer.specs.Lists.{at}
use Rattle.answer.specs.Order.{first_of}
use Rattle.answer.specs.declared.Answer.{Answer}
use Rattle.answer.specs.Answer.{Outcome}
use Rattle.std.specs.Prelude.{Ok, Err}
use Rattle.answer.proofs.Every.{every_cong}
use Rattle.answer.proofs.First.{first_append}
use Rattle.answer.proofs.Lists.{build_cong, get_d_filled, filled_cong}
use Rattle.answer.proofs.Order.{or_end, or_next, or_refuse, pass_left, pass_right, pass_or_refuse, if_pass}
use Rattle.answer.specs.declared.Refusal.{Refusal}
use Rattle.answer.specs.Answer.{answer_of}
use Rattle.resource.proofs.Test.{below_or}
use Rattle.plan.specs.Answers.{SomePlanOfEight}
use Rattle.plan.specs.Engine.{plan_outcome}
use Rattle.plan.specs.Worked.{the_plan}
use Rattle.plan.proofs.Laid.{outcome_laid}
use Rattle.plan.proofs.Demand.{accepted_plan}
use Rattle.records.specs.Owns.{ComesFrom}
use Rattle.records.specs.FieldsOf.{word_of}
use Rattle.records.proofs.Worked.{worked}
use Rattle.records.proofs.Formats.{as_owned}
use Rattle.turns.specs.Turns.{fields_in, users_of, turn_of}
use Rattle.turns.specs.Engine.{turn_code}
use Rattle.turns.proofs.Order.{turn_is, users_most, turn_below}
use Rattle.channel.specs.Layout.{row, row_at, positions, count, user, user_of}
use Rattle.halves.specs.Table.{checks11, outcome11, outcome6}
use Rattle.halves.specs.Engine.{outcome9to11}
use Rattle.halves.proofs.Stages.{outcome11_stages}
use Rattle.both_halves.proofs.Accepted.{known_code, accepted_signals}
use Rattle.words.specs.Engine.{value_of}
use Rattle.words.specs.Words.{user_word}
use Rattle.frame_words.specs.Words.{position_in, giver, shared_at, user_word_at, word_count, words_of}
use Rattle.frame_words.proofs.Counted.{word_count_le}
use Rattle.frame_words.proofs.Counts.{row_count_1, row_count_2, given_1, given_2}
use Rattle.frame_words.proofs.Determine.{words_length, value_back, word_1, word_2}
use Rattle.reader.specs.Table.{no_room, check12, read_outcome}
use Rattle.reader.specs.Result.{read_answer, words_after}
use Rattle.reader.proofs.Stages.{read_outcome_stages}
use Rattle.reader.proofs.Exactly.{accepted_exactly}
use Rattle.streams.proofs.Fields.{word_none_lem, word_streams_lem}
use Rattle.streams.specs.Engine.{Coded, named_in, streams_in, all_named, outcome_in, answer_in, after_in, codes_of, row_of, Worded, words_answer, words_streams}
use Rattle.streams.specs.Result.{fields, field_at, streams_at, named_at, no_row_named, no_streams_room, streams_outcome, streams_answer, streams_after}

module _ (bw : ℕ) (a b : List ℕ) (e : outcome11 bw a b ≡ Ok tt) where
  abbrev r : List ℕ
  r = row bw a b

  abbrev w : List ℕ
  w = words_of bw a b

  pub known : bw ≤ 4
  known = known_code bw a b e

  -- ---- the row is that of the words
  row_back : row_of bw w ≡ r
  unfolding row row_of
  row_back = build_cong (value_of w) (row_at bw a b) (positions bw) (value_back bw a b known)

  pub of_eight : SomePlanOfEight r 0 (length r)
  of_eight =
      let f = pass_right (outcome6 bw a b) (plan_outcome r) (pass_left _ (outcome9to11 bw a b) (sym (outcome11_stages bw a b) ∙ e)) in
      accepted_plan r (rw f at (outcome_laid r))

  -- ---- its fields
  all_fields : fields_in 1 r + fields_in 2 r ≡ fields bw a b
  all_fields = omega (arith, row_count_1 bw a b known, row_count_2 bw a b known)

  abbrev codes : List ℕ
  codes = codes_of r

  abbrev users : List ℕ
  users = drop 10 w

  ten : 10 ≤ length w
  unfolding word_count
  ten = omega (arith, words_length bw a b)

  users_length : length users ≡ fields bw a b
  unfolding word_count
  users_length = length-drop 10 w ∙ omega (arith, words_length bw a b)

  code_at : (x : ℕ) → x < fields bw a b → at codes x ≡ turn_of r x + 256 * users_of r x
  unfolding codes_of turn_code
  code_at x h = get_d_filled (turn_code r) (fields_in 1 r + fields_in 2 r) (replicate {A = ℕ} 144 0) x 0 (rw all_fields h)

  few : (x : ℕ) → x < fields bw a b → users_of r x ≤ 8
  few x h = users_most of_eight.0 r of_eight.1 of_eight.2 x (rw all_fields h)

  below : (x : ℕ) → x < fields bw a b → turn_of r x < users_of r x
  below x h = turn_below r x (rw all_fields h)

  code_users : (x : ℕ) → x < fields bw a b → at codes x / 256 ≡ users_of r x
  code_users x h = omega (arith, code_at x h, few x h, below x h)

  code_turn : (x : ℕ) → x < fields bw a b → at codes x % 256 ≡ turn_of r x
  code_turn x h = omega (arith, code_at x h, few x h, below x h)

  coded : Coded (length users) codes
  coded = record {
    turn = λ x h. rw (code_users x (rw users_length at h), code_turn x (rw users_length at h)) (below x (rw users_length at h));
    few = λ x h. rw (code_users x (rw users_length at h)) (few x (rw users_length at h));
  }

  -- what the code asks of the words
  pub worded : Worded bw w
  worded = record {
    ten = ten;
    most = omega (arith, words_length bw a b, word_count_le bw a b);
    signals = rw row_back (accepted_signals bw a b e);
    coded = rw row_back coded;
  }

  -- each User word is of the format that its field's resource has: of channel n, whose bytes are d
  field_word : (n : ℕ) (d : List ℕ) → ((j p k : ℕ) → ComesFrom (at r) (length r) n j p k → position_in n (giver bw n d j) ≡ p)
      → (j : ℕ) → j < fields_in n r → user_word_at bw r n d j ≡ user_word (leb 2 (users_of r (word_of (at r) (length r) n j))) (user bw d j)
  unfolding user_word_at
  field_word n d given j h =
      let s = accepted_signals bw a b e in
      let o = (worked (the_plan r) r s n j h).owns in
      let g = as_owned (the_plan r) (at r) (length r) s _ n j o in
      ap (λ (q : ℕ). user_word (shared_at r q) (user bw d j)) (given j g.0 g.1 g.2)
      ∙ ap (λ (t : Bool). user_word t (user bw d j)) (sym g.3 ∙ ap (leb 2) (sym (turn_is (the_plan r) r s _ n j o).users))

  word_at : (x : ℕ) → x < fields bw a b → at users x ≡ user_word (leb 2 (users_of r x)) (field_at bw a b x)
  unfolding user_of
  word_at x h =
      rw (get_or-drop 10 w x 0) (⊎_elim
      (λ (k : x < count bw 1 a).
      rw (lt-ltb x (count bw 1 a) k)
      (word_1 bw a b x k ∙ field_word 1 a (given_1 bw a b known) x (omega (arith, row_count_1 bw a b known))))
      (λ (k : count bw 1 a ≤ x).
      let j = x - count bw 1 a in
      let d : 10 + x ≡ 10 + count bw 1 a + j = omega arith in
      let v : word_of (at r) (length r) 2 j ≡ x = omega (arith, row_count_1 bw a b known) in
      rw (le-ltb x (count bw 1 a) k, d)
      (word_2 bw a b j (omega arith)
      ∙ field_word 2 b (given_2 bw a b known) j (omega (arith, row_count_2 bw a b known))
      ∙ ap (λ (y : ℕ). user_word (leb 2 (users_of r y)) (user bw b j)) v))
      (below_or x (count bw 1 a)))

  streams_in_lem : (x : ℕ) → x < fields bw a b → streams_in codes users x ≡ streams_at bw a b x
  unfolding streams_in streams_at
  streams_in_lem x h = rw (code_users x h, code_turn x h, word_at x h) (word_streams_lem (users_of r x) (turn_of r x) (field_at bw a b x))

  named_in_lem : (x : ℕ) → x < fields bw a b → named_in codes users x ≡ named_at bw a b x
  unfolding named_in named_at
  named_in_lem x h = rw (code_users x h, word_at x h) (ap not (word_none_lem (users_of r x) (field_at bw a b x)))

  outcome_in_lem : (room : ℕ) → streams_outcome bw a b room ≡ outcome_in codes users room
  unfolding outcome_in all_named streams_outcome no_row_named no_streams_room outcome11 first_of
  outcome_in_lem room =
      first_append (checks11 bw a b) (no_row_named bw a b ∷ no_streams_room bw a b room ∷ [])
      ∙ or_next (first_of (checks11 bw a b)) _ e
      ∙ ap (λ (o : Outcome). no_row_named bw a b or o) (or_end (no_streams_room bw a b room))
      ∙ rw (users_length, every_cong (named_in codes users) (named_at bw a b) (fields bw a b) named_in_lem)

  pub answer_words : (room : ℕ) → words_answer bw w room ≡ streams_answer bw a b room
  unfolding words_answer answer_in streams_answer
  answer_words room = rw (row_back, outcome_in_lem room, users_length)

  pub words_streams_lem : (d : List ℕ) → words_streams bw w d ≡ streams_after bw a b d
  unfolding words_streams after_in streams_after
  words_streams_lem d =
      rw (row_back, outcome_in_lem (length d), users_length, filled_cong (streams_in codes users) (streams_at bw a b) (fields bw a b) d streams_in_lem)

-- ---- a frame that the reader refuses
module _ (bw : ℕ) (a b : List ℕ) (x : Refusal) (e : outcome11 bw a b ≡ Err x) where
  stopped : (room : ℕ) → streams_outcome bw a b room ≡ Err x
  unfolding streams_outcome outcome11
  stopped room =
      first_append (checks11 bw a b) (no_row_named bw a b ∷ no_streams_room bw a b room ∷ [])
      ∙ or_refuse (first_of (checks11 bw a b)) _ x e

  pub refused_answer : (room : ℕ) → streams_answer bw a b room ≡ answer_of x
  unfolding streams_answer
  refused_answer room = rw (stopped room)

  refused_after : (d : List ℕ) → streams_after bw a b d ≡ d
  unfolding streams_after
  refused_after d = rw (stopped (length d))

-- ---- with room for 154 words the reader gives 1 to 11
pub read_outcome_lem : (bw : ℕ) (a b : List ℕ) (room : ℕ) → 154 ≤ room → read_outcome bw a b room ≡ outcome11 bw a b
unfolding check12 no_room
read_outcome_lem bw a b room l =
    read_outcome_stages bw a b room
    ∙ ap (λ (o : Outcome). outcome11 bw a b or o) (if_pass _ _ (le-ltb room (word_count bw a b) (omega (arith, word_count_le bw a b))))
    ∙ or_end (outcome11 bw a b)

-- what `read` has read into 154 words
pub record HasRead (bw : ℕ) (a b given now : List ℕ) (x : Answer) : Type 0 where
  pub room : length given ≡ 154
  pub answers : x ≡ read_answer bw a b (length given)
  pub leaves : now ≡ words_after bw a b given

module _ {bw : ℕ} {a b given now : List ℕ} {x : Answer} (h : HasRead bw a b given now x) where
  answered : x ≡ answer_at (outcome11 bw a b) (word_count bw a b)
  unfolding read_answer
  answered = h.answers ∙ rw (h.room, read_outcome_lem bw a b 154 (omega arith))

  -- refused: this is the answer, and nothing was written
  pub stays : (x.number ≡ 0 → ⊥) → (d : List ℕ) → (x ≡ streams_answer bw a b (length d)) × (d ≡ streams_after bw a b d)
  stays n d = go (pass_or_refuse (outcome11 bw a b))
    where
      go : (outcome11 bw a b ≡ Ok tt) ⊎ ((y : Refusal) × (outcome11 bw a b ≡ Err y))
          → (x ≡ streams_answer bw a b (length d)) × (d ≡ streams_after bw a b d)
      go (inl p) = absurd (n (ap (λ (y : Answer). y.number) (answered ∙ ap (λ (o : Outcome). answer_at o (word_count bw a b)) p)))
      go (inr (y, q)) = (
        answered ∙ ap (λ (o : Outcome). answer_at o (word_count bw a b)) q ∙ sym (refused_answer bw a b y q (length d)),
        sym (refused_after bw a b y q d),
      )

  -- accepted: the words that were lent begin with the frame's
  module _ (z : x.number ≡ 0) where
    pub passes : outcome11 bw a b ≡ Ok tt
    passes =
        let e = accepted_exactly bw a b (length given) (ap (λ (y : Answer). y.number) (sym h.answers) ∙ z) in
        sym (read_outcome_lem bw a b 154 (omega arith)) ∙ rw h.room at e

    pub place_is : x.place ≡ word_count bw a b
    place_is = ap (λ (y : Answer). y.place) (answered ∙ ap (λ (o : Outcome). answer_at o (word_count bw a b)) passes)

    pub words_are : take x.place now ≡ words_of bw a b
    unfolding words_after
    words_are =
        rw (place_is, h.leaves, h.room, read_outcome_lem bw a b 154 (omega arith), passes, ← words_length bw a b) (take-append_seam (words_of bw a b) _)

    pub room_for : x.place ≤ length now
    unfolding words_after
    room_for =
        let most = word_count_le bw a b in
        let e : length (words_of bw a b ++ drop (word_count bw a b) given) ≡ 154 =
        length-append (words_of bw a b) (drop (word_count bw a b) given)
        ∙ omega (arith, words_length bw a b, length-drop (word_count bw a b) given, h.room) in
        rw (place_is, h.leaves, h.room, read_outcome_lem bw a b 154 (omega arith), passes, e) most
