-- What the reader leaves in lent words, from the first on.
use mathlib.Core.Path.{◌≡◌, refl}
use mathlib.Core.List.{List, ◌++◌}
use Prim.Native.Nat.{ℕ}
use lib.ListN.{length, drop}
use Rattle.std.specs.Prelude.{slice_set}
use Rattle.answer.specs.Answer.{after}
use Rattle.answer.specs.Answer.{Outcome}
use Rattle.std.specs.Prelude.{Ok, Err}
use Rattle.channel.specs.Layout.{row}
use Rattle.word_bytes.specs.Lent.{puts}
use Rattle.frame_words.specs.Words.{word_count, words_of}
use Rattle.frame_words.proofs.Fronts.{words_front}
use Rattle.reader.specs.Table.{read_outcome}
use Rattle.reader.specs.Result.{words_after, put_after}
use Rattle.reader.proofs.Stages.{read_outcome_pass}

pub as_numbers : (bw : ℕ) (a b w : List ℕ) → put_after slice_set bw a b (length w) w ≡ words_after bw a b w
unfolding put_after words_after
as_numbers bw a b w = go (read_outcome bw a b (length w)) refl
  where
    go : (o : Outcome) → read_outcome bw a b (length w) ≡ o
        → after o (puts slice_set w 0 (words_of bw a b)) w ≡ after o (words_of bw a b ++ drop (word_count bw a b) w) w
    go (Ok tt) e = unfold words_of in words_front bw (row bw a b) a b w (read_outcome_pass bw a b (length w) e).room_enough
    go (Err x) e = refl
