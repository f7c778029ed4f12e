-- What a text of words is refused for before it is looked at.
use mathlib.Core.Path.{◌≡◌, refl}
use mathlib.Core.Bool.{Bool, true, false, not, ◌&&◌}
use mathlib.Core.List.{List}
use Prim.Native.Nat.{ℕ, ◌/◌, ◌%◌, ◌≤◌, ◌<◌}
use native.Mathlib.Omega.{arith}
use lib.Dec.{ltb, eqb}
use lib.ListN.{length}
use borrow.Author.Tests.{ltb-true, ltb-false, ne_eqb}
use Rattle.answer.specs.Answer.{no, refuse_if, ◌or◌, passes}
use Rattle.answer.specs.declared.Answer.{Answer}
use Rattle.std.specs.Prelude.{Ok, Err}
use Rattle.answer.proofs.Order.{pass_right, pass_if, pass_not_refuse}
use Rattle.answer.proofs.Lists.{length_build}
use Rattle.answer.specs.declared.Refusal.TheVariants.{UnknownBandwidth, NoFrameReads}
use Rattle.answer.specs.declared.Refusal.{Refusal}
use Rattle.halves.specs.Table.{check1, outcome11}
use Rattle.frame_words.specs.Words.{words_of}
use Rattle.frame_words.proofs.Determine.{words_length}
use Rattle.frame_words.proofs.Counted.{word_count_le}
use Rattle.candidate.specs.Engine.{candidate}
use Rattle.judge.specs.Engine.{same_words}
use Rattle.judge.specs.Engine.{reads_to}
use Rattle.writer.specs.Worked.{some_read}
use Rattle.writer.specs.Result.{check13, check14, write_outcome}
use Rattle.word_bytes.specs.Bytes.{word_at, words_in}
use Rattle.brachymel.specs.Bytes.{ragged, bytes_outcome}
use Rattle.whole_words.specs.Engine.{early}

-- more words than any frame has are read by no channels
not_so_many : (bw : ℕ) (a b w : List ℕ) → 154 < length w → reads_to bw a b w ≡ false
unfolding reads_to same_words
not_so_many bw a b w l =
    rw (ne_eqb (length (words_of bw a b)) (length w) (λ e. omega (arith, words_length bw a b, word_count_le bw a b))) (go (passes (outcome11 bw a b)))
  where
    go : (t : Bool) → t && false ≡ false
    go true = refl
    go false = refl

pub too_many : (bw : ℕ) (w : List ℕ) → 154 < length w → check13 bw w ≡ Err NoFrameReads
unfolding check13 some_read
too_many bw w l = rw (not_so_many bw (candidate bw w 1) (candidate bw w 2) w l)

-- the refusal that comes early is the text's
pub early_refuses : (bw : ℕ) (t : List ℕ) (n m : ℕ) (x : Refusal) → early bw (length t) (length t / 4) ≡ Err x → bytes_outcome bw t n m ≡ Err x
unfolding early bytes_outcome ragged write_outcome check1
early_refuses bw t n m x e = go (ltb 4 bw) (not (eqb (length t % 4) 0)) (ltb 154 (length t / 4)) refl e
  where
    go : (p q r : Bool) → ltb 154 (length t / 4) ≡ r
        → refuse_if p UnknownBandwidth or (refuse_if q NoFrameReads or refuse_if r NoFrameReads) ≡ Err x
        → refuse_if p UnknownBandwidth or refuse_if q NoFrameReads or (refuse_if p UnknownBandwidth or check13 bw (words_in t) or check14 bw
        (words_in t) n m) ≡ Err x
    go true q r l f = f
    go false true r l f = f
    go false false true l f =
        rw (too_many bw (words_in t) (omega (arith, length_build (word_at t) (length t / 4), ltb-true 154 (length t / 4) l))) f
    go false false false l f = absurd (pass_not_refuse refl f)

-- and where nothing does, the text's outcome is the writer's
pub early_passes : (bw : ℕ) (t : List ℕ) (n m : ℕ) → early bw (length t) (length t / 4) ≡ Ok tt → bytes_outcome bw t n m ≡ write_outcome bw (words_in t) n m
unfolding early bytes_outcome ragged write_outcome check1
early_passes bw t n m e = go (ltb 4 bw) (not (eqb (length t % 4) 0)) (ltb 154 (length t / 4)) e
  where
    go : (p q r : Bool)
        → refuse_if p UnknownBandwidth or (refuse_if q NoFrameReads or refuse_if r NoFrameReads) ≡ Ok tt
        → refuse_if p UnknownBandwidth or refuse_if q NoFrameReads or (refuse_if p UnknownBandwidth or check13 bw (words_in t) or check14 bw (words_in t) n m)
        ≡ (refuse_if p UnknownBandwidth or check13 bw (words_in t) or check14 bw (words_in t) n m)
    go true q r f = absurd (pass_not_refuse f refl)
    go false true r f = absurd (pass_not_refuse f refl)
    go false false r f = refl

pub few_words : (bw bytes n : ℕ) → early bw bytes n ≡ Ok tt → n ≤ 154
unfolding early
few_words bw bytes n e =
    ltb-false 154 n (pass_if _ _ (pass_right (refuse_if (not (eqb (bytes % 4) 0)) NoFrameReads) _ (pass_right (refuse_if (ltb 4 bw) UnknownBandwidth) _ e)))
