-- What is read into bytes, and written from bytes, is what is read into and written from the words of these bytes.
use mathlib.Core.Path.{◌≡◌, refl, sym, ◌∙◌, ap}
use mathlib.Core.Bool.{Bool, true, false, not}
use mathlib.Core.List.{List, ◌++◌}
use Prim.Native.Nat.{ℕ, ◌*◌, ◌/◌, ◌%◌, ◌≤◌}
use native.Mathlib.Omega.{arith}
use lib.Dec.{ltb, eqb}
use lib.ListN.{length, take, drop}
use borrow.Author.Tests.{eq-eqb, eqb-true, ne_eqb, le-ltb}
use Rattle.answer.specs.Answer.{no, refuse_if, ◌or◌, answer_at, after}
use Rattle.answer.specs.Lists.{filled}
use Rattle.answer.specs.declared.Answer.{Answer}
use Rattle.answer.specs.Answer.{Outcome}
use Rattle.std.specs.Prelude.{Ok, Err}
use Rattle.answer.proofs.Lists.{length_build, take_filled, drop_filled}
use Rattle.answer.proofs.Order.{pass_left, after_passed}
use Rattle.answer.specs.declared.Refusal.TheVariants.{UnknownBandwidth, NoFrameReads}
use Rattle.bits.specs.Bits.{Small}
use Rattle.word_bytes.specs.Bytes.{byte_at, word_at, words_in, bytes_in}
use Rattle.word_bytes.proofs.Inverse.{inverse, words_filled}
use Rattle.halves.specs.Table.{check1, outcome11}
use Rattle.frame_words.specs.Words.{words_of}
use Rattle.frame_words.proofs.Determine.{words_length}
use Rattle.frame_words.proofs.Below.{words_below}
use Rattle.reader.specs.Table.{check12, read_outcome}
use Rattle.reader.specs.Result.{words_after}
use Rattle.reader.proofs.Stages.{read_outcome_stages, read_outcome_pass}
use Rattle.reader.proofs.Exactly.{accepted_exactly}
use Rattle.writer.specs.Worked.{ReadsTo, the_bytes}
use Rattle.writer.specs.Result.{write_outcome, check13, check14}
use Rattle.writer.proofs.Reading.{read_place, reads_pass}
use Rattle.byte_reader.specs.Bytes.{bytes_read_answer, read_bytes}
use Rattle.brachymel.specs.Bytes.{ragged, bytes_outcome, bytes_write_answer}
use Rattle.claims.specs.FromC.{AcceptsBytes}

-- the words of the bytes of a frame's words
pub words_of_bytes : (bw : ℕ) (a b : List ℕ) → words_in (bytes_in (words_of bw a b)) ≡ words_of bw a b
words_of_bytes bw a b = inverse.words_again (words_of bw a b) (words_below bw a b)

-- "only whole words count"
pub room_in_words : (t : List ℕ) → length (words_in t) ≡ length t / 4
room_in_words t = length_build (word_at t) (length t / 4)

-- ---- the lent bytes t
module _ (bw : ℕ) (a b t : List ℕ) where
  abbrev ws : List ℕ
  ws = words_of bw a b

  pub words_after_lem : words_in (read_bytes bw a b t) ≡ words_after bw a b (words_in t)
  unfolding read_bytes words_after
  words_after_lem = rw (room_in_words t, ← words_length bw a b) (go (read_outcome bw a b (length t / 4)) refl)
    where
      go : (o : Outcome) → read_outcome bw a b (length t / 4) ≡ o
          → words_in (after o (filled (byte_at ws) (4 * length ws) t) t) ≡ after o (ws ++ drop (length ws) (words_in t)) (words_in t)
      go (Ok u) e =
          words_filled ws t (words_below bw a b) (omega (arith, words_length bw a b, (read_outcome_pass bw a b (length t / 4) e).room_enough))
      go (Err x) e = refl

  -- accepted
  module _ (z : (bytes_read_answer bw a b t).number ≡ 0) where
    passed : read_outcome bw a b (length t / 4) ≡ Ok tt
    passed = accepted_exactly bw a b (length t / 4) z

    pub place_in_words : bytes_read_answer bw a b t ≡ no 0 0 (length ws)
    place_in_words = read_place bw a b (length t / 4) passed ∙ ap (no 0 0) (sym (words_length bw a b))

    read_filled : read_bytes bw a b t ≡ filled (byte_at ws) (4 * length ws) t
    unfolding read_bytes
    read_filled =
        after_passed (read_outcome bw a b (length t / 4)) _ _ passed
        ∙ ap (λ (n : ℕ). filled (byte_at ws) (4 * n) t) (sym (words_length bw a b))

    pub bytes_there : take (4 * (bytes_read_answer bw a b t).place) (read_bytes bw a b t) ≡ bytes_in ws
    bytes_there =
        ap (λ (x : Answer). take (4 * x.place) (read_bytes bw a b t)) place_in_words
        ∙ ap (take (4 * length ws)) read_filled
        ∙ take_filled (byte_at ws) (4 * length ws) t

    pub past_there : drop (4 * (bytes_read_answer bw a b t).place) (read_bytes bw a b t) ≡ drop (4 * (bytes_read_answer bw a b t).place) t
    past_there =
        ap (λ (x : Answer). drop (4 * x.place) (read_bytes bw a b t)) place_in_words
        ∙ ap (drop (4 * length ws)) read_filled
        ∙ drop_filled (byte_at ws) (4 * length ws) t
        ∙ ap (λ (x : Answer). drop (4 * x.place) t) (sym place_in_words)

    pub is_accepted : outcome11 bw a b ≡ Ok tt
    is_accepted = pass_left (outcome11 bw a b) (check12 bw a b (length t / 4)) (sym (read_outcome_stages bw a b (length t / 4)) ∙ passed)

-- ---- bytes that are read to, and words that are read to
pub bytes_whole : (ws : List ℕ) → length (bytes_in ws) % 4 ≡ 0
bytes_whole ws = omega (arith, length_build (byte_at ws) (4 * length ws))

module _ (bw : ℕ) (a b : List ℕ) where
  pub bytes_read_lem : (t₀ t : List ℕ) → AcceptsBytes bw a b t₀ t → (length t % 4 ≡ 0) × ReadsTo bw a b (words_in t)
  bytes_read_lem t₀ t h =
      let e : t ≡ bytes_in (words_of bw a b) = sym h.exactly ∙ bytes_there bw a b t₀ h.number_0 in (
        ap (λ (s : List ℕ). length s % 4) e ∙ bytes_whole (words_of bw a b),
        record { accepted = is_accepted bw a b t₀ h.number_0; the_words = sym (ap words_in e ∙ words_of_bytes bw a b) },
      )

  pub read_bytes_lem : (t : List ℕ) → Small t → length t % 4 ≡ 0 → ReadsTo bw a b (words_in t) → AcceptsBytes bw a b t t
  read_bytes_lem t s m h =
      let e = reads_pass bw a b (words_in t) (length t / 4) h (omega (arith, room_in_words t)) in
      let z : (bytes_read_answer bw a b t).number ≡ 0 = ap (λ (x : Answer). x.number) (read_place bw a b (length t / 4) e) in
      record {
        number_0 = z;
        exactly = bytes_there bw a b t z ∙ ap bytes_in h.the_words ∙ inverse.bytes_again t s.small m;
      }

-- ---- a text of words, n and m bytes lent for the channels
module _ (bw : ℕ) (t : List ℕ) (n m : ℕ) where
  pub whole_words : length t % 4 ≡ 0 → bytes_outcome bw t n m ≡ write_outcome bw (words_in t) n m
  unfolding bytes_outcome write_outcome ragged
  whole_words e = rw (eq-eqb (length t % 4) 0 e) (go (check1 bw))
    where
      go : (o : Outcome)
          → o or (Ok tt) or (o or check13 bw (words_in t) or check14 bw (words_in t) n m) ≡ o or check13 bw (words_in t) or check14 bw (words_in t)
          n m
      go (Ok u) = refl
      go (Err x) = refl

  pub no_whole_words : bw ≤ 4 → (length t % 4 ≡ 0 → ⊥) → bytes_write_answer bw t n m ≡ no 13 0 0
  unfolding bytes_write_answer bytes_outcome check1 ragged
  no_whole_words l h = rw (le-ltb 4 bw l, ne_eqb (length t % 4) 0 h)

  pub accepted_whole : (bytes_write_answer bw t n m).number ≡ 0 → length t % 4 ≡ 0
  unfolding bytes_write_answer bytes_outcome check1 ragged
  accepted_whole z = go (ltb 4 bw) (eqb (length t % 4) 0) refl z
    where
      go : (p q : Bool) → eqb (length t % 4) 0 ≡ q
          → (answer_at (refuse_if p UnknownBandwidth or refuse_if (not q) NoFrameReads or write_outcome bw (words_in t) n m) (the_bytes bw
          (words_in t))).number ≡ 0
          → length t % 4 ≡ 0
      go p true e z = eqb-true (length t % 4) 0 e
      go true false e z = absurd (omega arith)
      go false false e z = absurd (omega arith)
