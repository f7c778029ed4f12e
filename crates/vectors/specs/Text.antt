-- What the words of a case are: decimal numbers and hex digits.
use Rattle.std.specs.Prelude.{cond, List, [], ◌∷◌, ℕ, ◌+◌, ◌*◌, ◌-◌, length, ltb, eqb}

-- A word that is no number below 10^17 stands for this.
abbrev pub unread : ℕ
unread = 100000000000000000

-- A number with one digit more: unread where the byte is no digit or the number would not be below unread.
unfoldable pub with_digit : ℕ → ℕ → ℕ
with_digit v c = cond (ltb c 48) unread (cond (ltb 57 c) unread (cond (ltb (10 * v + (c - 48)) unread) (10 * v + (c - 48)) unread))

-- The number whose first digits came to v and whose others are these.
unfoldable pub number_from : ℕ → List ℕ → ℕ
number_from v [] = v
number_from v (c ∷ cs) = cond (eqb (with_digit v c) unread) unread (number_from (with_digit v c) cs)

unfoldable pub decimal_of : List ℕ → ℕ
decimal_of s = cond (eqb (length s) 0) unread (number_from 0 s)

-- The value of a capital hex digit; 16 for what is none.
abbrev pub hex_of : ℕ → ℕ
hex_of c = cond (ltb c 48) 16 (cond (ltb c 58) (c - 48) (cond (ltb c 65) 16 (cond (ltb c 71) (c - 55) 16)))

-- The capital hex digit of a value below 16.
abbrev pub glyph_of : ℕ → ℕ
glyph_of d = cond (ltb d 10) (48 + d) (55 + d)
