-- What `read` accepts, by its answer and the words that it gave, and by the words of the channels: each from the other.
use mathlib.Core.Path.{◌≡◌, sym, ◌∙◌, ap}
use mathlib.Core.List.{List}
use Prim.Native.Nat.{ℕ, ◌≤◌}
use native.Mathlib.Omega.{arith}
use lib.ListN.{length, take, drop}
use lib.Seq.{take_at}
use borrow.Author.Tests.{le-ltb}
use Rattle.answer.specs.Answer as A
use Rattle.answer.specs.declared.Answer.{Answer}
use Rattle.std.specs.Prelude.{Ok}
use Rattle.answer.proofs.Order.{pass_left, or_pass, if_pass}
use Rattle.halves.specs.Table.{outcome11}
use Rattle.frame_words.specs.Words.{word_count, words_of}
use Rattle.frame_words.proofs.Determine.{words_length}
use Rattle.reader.specs.Table.{check12, no_room, read_outcome}
use Rattle.reader.specs.Result as R
use Rattle.reader.proofs.Stages.{read_outcome_stages}
use Rattle.reader.proofs.Exactly as E
use Rattle.writer.specs.Worked.{ReadsTo}
use Rattle.writer.specs.Inverse.{Accepts}

pub read_place : (bw : ℕ) (a b : List ℕ) (room : ℕ) → read_outcome bw a b room ≡ Ok tt → R.read_answer bw a b room ≡ A.no 0 0 (word_count bw a b)
unfolding R.read_answer
read_place bw a b room e = rw e

pub read_words : (bw : ℕ) (a b w₀ : List ℕ) → read_outcome bw a b (length w₀) ≡ Ok tt → take (word_count bw a b) (R.words_after bw a b w₀) ≡ words_of bw a b
unfolding R.words_after
read_words bw a b w₀ e = rw e (take_at (words_of bw a b) (drop (word_count bw a b) w₀) (word_count bw a b) (words_length bw a b))

pub accepts_reads : (bw : ℕ) (a b w₀ w : List ℕ) → Accepts bw a b w₀ w → ReadsTo bw a b w
accepts_reads bw a b w₀ w h =
    let e = E.accepted_exactly bw a b (length w₀) h.number_0 in
    let f : read_outcome bw a b (length w₀) ≡ Ok tt = e in
    record {
      accepted = pass_left (outcome11 bw a b) (check12 bw a b (length w₀)) (sym (read_outcome_stages bw a b (length w₀)) ∙ f);
      the_words =
          sym (read_words bw a b w₀ f)
          ∙ ap (λ (x : Answer). take x.place (R.words_after bw a b w₀)) (sym (read_place bw a b (length w₀) f))
          ∙ h.exactly;
    }

pub reads_pass : (bw : ℕ) (a b w : List ℕ) (room : ℕ) → ReadsTo bw a b w → length w ≤ room → read_outcome bw a b room ≡ Ok tt
unfolding check12 no_room
reads_pass bw a b w room h l =
    read_outcome_stages bw a b room
    ∙ or_pass (outcome11 bw a b) (check12 bw a b room) h.accepted
    (if_pass _ _ (le-ltb room (word_count bw a b) (omega (arith, words_length bw a b, ap length h.the_words))))

pub reads_accepts : (bw : ℕ) (a b w₀ w : List ℕ) → ReadsTo bw a b w → length w ≤ length w₀ → Accepts bw a b w₀ w
reads_accepts bw a b w₀ w h l =
    let e = reads_pass bw a b w (length w₀) h l in
    let p = read_place bw a b (length w₀) e in
    record {
      number_0 = ap (λ (x : Answer). x.number) p;
      exactly = ap (λ (x : Answer). take x.place (R.words_after bw a b w₀)) p ∙ read_words bw a b w₀ e ∙ h.the_words;
    }
