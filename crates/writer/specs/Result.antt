-- What a call of the writer gives: its answer, and both lent channels afterwards.
use Rattle.std.specs.Prelude.{not, List, ◌++◌, [], ◌∷◌, ℕ, length, drop}
use Rattle.answer.specs.Answer.{refuse_if, ◌or◌, answer_at, after}
use Rattle.answer.specs.declared.Answer.{Answer}
use Rattle.answer.specs.Answer.{Outcome}
use Rattle.answer.specs.declared.Refusal.TheVariants.{NoFrameReads}
use Rattle.halves.specs.Table.{check1}
use Rattle.writer.specs.Room.{no_channel_room}
use Rattle.writer.specs.Worked.{the_channel, the_bytes, some_read}

-- 13: "no accepted channels read to exactly these words | 0, 0"
unfoldable pub check13 : ℕ → List ℕ → Outcome
check13 bw w = refuse_if (not (some_read bw w)) NoFrameReads

-- 14, where the bytes of the words are needed
unfoldable pub check14 : ℕ → List ℕ → ℕ → ℕ → Outcome
check14 bw w n m = no_channel_room bw (the_bytes bw w) n m

-- "The writer's order is 1, 13, 14"
unfoldable pub write_outcome : ℕ → List ℕ → ℕ → ℕ → Outcome
write_outcome bw w n m = check1 bw or check13 bw w or check14 bw w n m

-- "accepted, it returns 0, 0 and the bytes per channel"
unfoldable pub write_answer : ℕ → List ℕ → ℕ → ℕ → Answer
write_answer bw w n m = answer_at (write_outcome bw w n m) (the_bytes bw w)

-- "Bytes past the count keep what they held": a lent channel d whose front is s
unfoldable pub front : List ℕ → List ℕ → List ℕ
front s d = s ++ drop (length s) d

-- channel c afterwards, which was d, of n and m bytes lent; "Every refusal writes nothing"
unfoldable pub channel_after : ℕ → List ℕ → ℕ → ℕ → ℕ → List ℕ → List ℕ
channel_after bw w n m c d = after (write_outcome bw w n m) (front (the_channel bw w c) d) d

abbrev pub write_numbers : List ℕ
write_numbers = 1 ∷ 13 ∷ 14 ∷ []

-- the writer's rows of 01's table
abbrev pub write_checks : ℕ → List ℕ → ℕ → ℕ → List Outcome
write_checks bw w n m = check1 bw ∷ check13 bw w ∷ check14 bw w n m ∷ []
