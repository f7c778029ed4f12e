-- Engine: the four bytes of a word stored. The contract of the code cites it; nobody has to believe it: `proofs/Four.antt`.
use Rattle.std.specs.Prelude.{List, [], ◌∷◌, ℕ, ◌+◌, ◌*◌, ◌/◌, ◌%◌, set}

-- a text whose word i is made x
unfoldable pub word_put : List ℕ → ℕ → ℕ → List ℕ
word_put t i x = set (set (set (set t (4 * i) (x % 256)) (4 * i + 1) (x / 256 % 256)) (4 * i + 2) (x / 65536 % 256)) (4 * i + 3) (x / 16777216 % 256)

-- a text whose words from i on are made xs
unfoldable pub words_put : List ℕ → ℕ → List ℕ → List ℕ
words_put t i [] = t
words_put t i (x ∷ xs) = words_put (word_put t i x) (i + 1) xs
