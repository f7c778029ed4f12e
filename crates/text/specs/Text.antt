-- Text as a list of bytes: fixed keys, decimals, signed decimals, keys with a number, items one after the other; and what a writer into a
-- lent buffer does.
--
-- 01, "Listing": "Each line starts with its fixed key, compared and written byte for byte."
use Rattle.std.specs.Prelude.{ℕ, zero, suc, ◌+◌, ◌/◌, ◌%◌, ◌≡◌, cond, List, [], ◌∷◌, ◌++◌, ltb, ℤ, pos, negsuc, length}
use Prim.Native.Char.{code}
use Prim.Native.String.{String, [] as end, ◌∷◌ as ◌then◌}
use Rattle.std.proofs.lemmas.List.Edits.{sets}

-- the bytes of a text whose characters are all ASCII
abbrev pub codes : String → List ℕ
codes end = []
codes (c then s) = code c ∷ codes s

-- n in decimal, at most its last k digits, the most significant first, no zero in front
abbrev pub decs : ℕ → ℕ → List ℕ
decs zero n = []
decs (suc k) n = cond (ltb n 10) [] (decs k (n / 10)) ++ ((48 + n % 10) ∷ [])

-- a number below 10 ^ 20 (so of 64 bits) in decimal
unfoldable pub dec : ℕ → List ℕ
dec n = decs 20 n

-- an integer in decimal
unfoldable pub signed : ℤ → List ℕ
signed (pos n) = dec n
signed (negsuc n) = codes "-" ++ dec (suc n)

-- a fixed key and a number
abbrev pub keyed : List ℕ → ℕ → List ℕ
keyed k n = k ++ dec n

-- a whole line of them: "each ended by a line feed"
abbrev pub line : List ℕ → ℕ → List ℕ
line k n = k ++ dec n ++ codes "\n"

-- the text of the first n items, one after the other
unfoldable pub upto : (ℕ → List ℕ) → ℕ → List ℕ
upto f zero = []
upto f (suc n) = upto f n ++ f n

-- e is the buffer d with the text t from place at, as far as d reaches, and r is the place after the text: a store past
-- the buffer's end does nothing, so that one writer counts and writes
pub record Wrote (d : List ℕ) (at : ℕ) (t : List ℕ) (e : List ℕ) (r : ℕ) : Type 0 where
  pub bytes : e ≡ sets d at t
  pub next : r ≡ at + length t
