-- What lent words are: how many there is room for, and where a word goes.
use Rattle.std.specs.Prelude.{◌≡◌, List, [], ◌∷◌, ℕ, ◌+◌, ◌/◌, length}

-- how many whole words some bytes have room for
abbrev pub room_of_bytes : List ℕ → ℕ
room_of_bytes t = length t / 4

-- a buffer whose words from i on are made xs
abbrev pub puts : (List ℕ → ℕ → ℕ → List ℕ) → List ℕ → ℕ → List ℕ → List ℕ
puts put t i [] = t
puts put t i (x ∷ xs) = puts put (put t i x) (i + 1) xs
