-- What is judged of the User fields: a shared field of somebody's that is not refused names a row; 21 and 23.
use mathlib.Core.Path.{◌≡◌, refl, ◌∙◌, ap}
use mathlib.Core.Bool.{Bool, true, false, not}
use mathlib.Core.List.{List}
use Prim.Native.Nat.{ℕ, ◌≤◌, ◌<◌}
use borrow.Author.Tests.{le-leb, leb-true, leb-false, lt-ltb, le-ltb, ltb-false, ne_eqb, not-false}
use lib.Dec.{ltb, leb}
use lib.ListN.{length}
use Rattle.answer.specs.Answer.{no, refuse_if, ◌or◌}
use Rattle.answer.specs.Lists.{at, filled}
use Rattle.answer.specs.declared.Answer.{Answer}
use Rattle.answer.specs.Answer.{Outcome}
use Rattle.std.specs.Prelude.{Ok, Err}
use Rattle.answer.proofs.Order.{pass_if, pass_left, pass_right}
use Rattle.answer.specs.declared.Refusal.TheVariants.{NoSuchStreams, BufferTooShort}
use Rattle.answer.specs.declared.Refusal.{Refusal}
use Rattle.answer.specs.Answer.{answer_of}
use Rattle.stream_rows.specs.Worked.{the_rows}
use Rattle.words.specs.Words.{user_word}
use Rattle.words.proofs.Laws.{shared_parts, alone_parts}
use Rattle.streams.specs.Streams.{station_in, nss_in, configuration_in, streams_by, none_by, streams_of, names_none}
use Rattle.streams.specs.Engine.{word_station, word_nss, word_configuration, word_none, word_streams}
use Rattle.streams.specs.Engine.{streams_in, all_named, outcome_in, answer_in, after_in}

-- a station s with the configuration k, on a resource with so many users
asked_row : (users s k : ℕ) → none_by users s k ≡ false → (s ≡ 2046 → ⊥) → 2 ≤ users → k < length (the_rows users)
unfolding none_by
asked_row users s k e n l = let e = rw (ne_eqb s 2046 n, le-leb 2 users l) at e in leb-false (length (the_rows users)) k e

pub named_row : (users f : ℕ) → names_none users f ≡ false → (station_in f ≡ 2046 → ⊥) → 2 ≤ users → configuration_in f < length (the_rows users)
unfolding names_none
named_row users f = asked_row users (station_in f) (configuration_in f)

pub word_row : (users w : ℕ) → word_none users w ≡ false → (word_station w ≡ 2046 → ⊥) → 2 ≤ users → word_configuration w < length (the_rows users)
unfolding word_none
word_row users w = asked_row users (word_station w) (word_configuration w)

-- ---- a word of the format that its resource's users ask for says what its field does
word_station_lem : (t : Bool) (f : ℕ) → word_station (user_word t f) ≡ station_in f
word_station_lem true f = ap (λ (vs : List ℕ). at vs 1) (shared_parts f)
word_station_lem false f = ap (λ (vs : List ℕ). at vs 1) (alone_parts f)

word_nss_lem : (f : ℕ) → word_nss (user_word false f) ≡ nss_in f
word_nss_lem f = ap (λ (vs : List ℕ). at vs 4) (alone_parts f)

word_configuration_lem : (f : ℕ) → word_configuration (user_word true f) ≡ configuration_in f
word_configuration_lem f = ap (λ (vs : List ℕ). at vs 4) (shared_parts f)

pub word_none_lem : (users f : ℕ) → word_none users (user_word (leb 2 users) f) ≡ names_none users f
unfolding word_none names_none none_by
word_none_lem users f = go (leb 2 users) refl
  where
    go : (t : Bool) → leb 2 users ≡ t → word_none users (user_word t f) ≡ names_none users f
    go true e = rw (word_station_lem true f, word_configuration_lem f)
    go false e = rw (word_station_lem false f, e)

pub word_streams_lem : (users t f : ℕ) → word_streams users t (user_word (leb 2 users) f) ≡ streams_of users t f
unfolding word_streams streams_of streams_by
word_streams_lem users t f = go (leb 2 users) refl
  where
    go : (b : Bool) → leb 2 users ≡ b → word_streams users t (user_word b f) ≡ streams_of users t f
    go true e = rw (word_station_lem true f, le-ltb users 2 (leb-true 2 users e), word_configuration_lem f)
    go false e = rw (word_station_lem false f, lt-ltb users 2 (leb-false 2 users e), word_nss_lem f)

-- ---- 21 and 23
pub judged : (codes words : List ℕ) (room : ℕ) (t : Bool) (o₁ o₂ o : Outcome) → t ≡ all_named codes words → o₁ ≡ refuse_if (not t) NoSuchStreams
    → o₂ ≡ refuse_if (ltb room (length words)) (BufferTooShort (length words)) → o ≡ (o₁ or o₂) → o ≡ outcome_in codes words room
unfolding outcome_in
judged codes words room t o₁ o₂ o e f g h = h ∙ rw (f, g, e)

module _ (codes words d : List ℕ) where
  pub refused_fields : (x : Refusal) → outcome_in codes words (length d) ≡ Err x
      → (answer_of x ≡ answer_in codes words (length d)) × (d ≡ after_in codes words d)
  unfolding answer_in after_in
  refused_fields x e = (rw e, rw e)

  module _ (e : outcome_in codes words (length d) ≡ Ok tt) where
    pub passed_named : all_named codes words ≡ true
    unfolding outcome_in
    passed_named = not-false _ (pass_if _ _ (pass_left _ _ e))

    pub passed_room : length words ≤ length d
    unfolding outcome_in
    passed_room = ltb-false _ _ (pass_if _ _ (pass_right (refuse_if (not (all_named codes words)) NoSuchStreams) _ e))

    pub passed_fields : (v : List ℕ) → v ≡ filled (streams_in codes words) (length words) d
        → (no 0 0 (length words) ≡ answer_in codes words (length d)) × (v ≡ after_in codes words d)
    unfolding answer_in after_in
    passed_fields v f = (rw e, rw e f)
