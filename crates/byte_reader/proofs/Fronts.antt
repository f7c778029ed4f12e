-- What the reader leaves in lent words, from the first on, as bytes.
use mathlib.Core.Path.{◌≡◌, refl}
use mathlib.Core.List.{List}
use Prim.Native.Nat.{ℕ, ◌*◌, ◌/◌, ◌≤◌}
use native.Mathlib.Omega.{arith}
use lib.ListN.{length}
use Rattle.answer.specs.Answer.{after}
use Rattle.answer.specs.Lists.{filled}
use Rattle.answer.specs.Answer.{Outcome}
use Rattle.std.specs.Prelude.{Ok, Err}
use Rattle.channel.specs.Layout.{row}
use Rattle.word_bytes.specs.Bytes.{byte_at}
use Rattle.word_bytes.specs.Engine.{word_put}
use Rattle.word_bytes.specs.Lent.{puts}
use Rattle.frame_words.specs.Words.{word_count, words_of}
use Rattle.frame_words.proofs.Fronts.{bytes_front}
use Rattle.reader.specs.Table.{read_outcome}
use Rattle.reader.specs.Result.{put_after}
use Rattle.reader.proofs.Stages.{read_outcome_pass}
use Rattle.byte_reader.specs.Bytes.{read_bytes}

pub as_bytes : (bw : ℕ) (a b w : List ℕ) → put_after word_put bw a b (length w / 4) w ≡ read_bytes bw a b w
unfolding put_after read_bytes words_of
as_bytes bw a b w = go (read_outcome bw a b (length w / 4)) refl
  where
    go : (o : Outcome) → read_outcome bw a b (length w / 4) ≡ o
        → after o (puts word_put w 0 (words_of bw a b)) w ≡ after o (filled (byte_at (words_of bw a b)) (4 * word_count bw a b) w) w
    go (Ok tt) e =
        let l : word_count bw a b ≤ length w / 4 = (read_outcome_pass bw a b (length w / 4) e).room_enough in
        bytes_front bw (row bw a b) a b w (omega arith)
    go (Err x) e = refl
