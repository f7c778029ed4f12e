-- Engine: what the first half of a reading hands to the second, and what this answers and leaves in the lent words. The contracts of the code
-- cite it; nobody has to believe it: `proofs/Halves.antt`.
use Rattle.std.specs.Prelude.{◌≡◌, List, ℕ, ◌≤◌, length}
use Rattle.answer.specs.Answer.{◌or◌, answer_at, after}
use Rattle.answer.specs.declared.Answer.{Answer}
use Rattle.answer.specs.Answer.{Outcome}
use Rattle.channel.specs.Layout.{row, count}
use Rattle.halves.specs.Engine.{AtMost512, outcome9to11}
use Rattle.frame_words.specs.Words.{word_count, words_of}
use Rattle.frame_words.specs.Engine.{Formats}
use Rattle.word_bytes.specs.Lent.{puts}
use Rattle.reader.specs.Table.{check12}

-- of a frame that passes 1 to 8: its row, the formats of its positions and its numbers of fields
pub record Planned8 (bw : ℕ) (a b r : List ℕ) (shared n m : ℕ) : Type 0 where
  pub known : bw ≤ 4
  pub short : AtMost512 a b
  pub the_row : r ≡ row bw a b
  pub formats : Formats r shared
  pub most1 : n ≤ 72
  pub most2 : m ≤ 72
  pub count1 : n ≡ count bw 1 a
  pub count2 : m ≡ count bw 2 b

-- 9 to 12, with room for so many words
abbrev pub users_outcome : ℕ → List ℕ → List ℕ → ℕ → Outcome
users_outcome bw a b room = outcome9to11 bw a b or check12 bw a b room

unfoldable pub users_answer : ℕ → List ℕ → List ℕ → ℕ → Answer
users_answer bw a b room = answer_at (users_outcome bw a b room) (word_count bw a b)

unfoldable pub users_after : (List ℕ → ℕ → ℕ → List ℕ) → ℕ → List ℕ → List ℕ → ℕ → List ℕ → List ℕ
users_after put bw a b room w = after (users_outcome bw a b room) (puts put w 0 (words_of bw a b)) w
