-- Engine: the words of a run of User fields. The contract of the code cites it; nobody has to believe it.
use Rattle.std.specs.Prelude.{Bool, List, ℕ}
use Rattle.answer.specs.Lists.{at}
use Rattle.words.specs.Words.{user_word}

-- the word of the i-th of the fields, in one format
unfoldable pub run_word : List ℕ → Bool → ℕ → ℕ
run_word fields shared i = user_word shared (at fields i)
