-- What 01, "What comes back", says of the words before the User words, beside their layout.
use Rattle.std.specs.Prelude.{cond, [], ◌∷◌, ℕ, ltb, get_or}

-- "Known is 0x61F6, or 0x1E1F6 at 160 and 320."
unfoldable pub known : ℕ → ℕ
known bw = cond (ltb bw 3) 0x61F6 0x1E1F6

-- "GI+LTF 0, 1, 2, 3 gives LTF size 2, 2, 3, 3 and GI 0, 1, 0, 2."
abbrev pub ltf_size_of : ℕ → ℕ
ltf_size_of g = get_or (2 ∷ 2 ∷ 3 ∷ 3 ∷ []) g 0

abbrev pub gi_of : ℕ → ℕ
gi_of g = get_or (0 ∷ 1 ∷ 0 ∷ 2 ∷ []) g 0
