-- Where everything stands in a channel, by bandwidth code (01, "Bandwidth and channels").
--
-- Bits count from 0 in each channel. Every definition is total; past code 4, and past a list's end, it says nothing of 01.
use Rattle.std.specs.Prelude.{ℕ, zero, suc, ◌+◌, ◌-◌, ◌*◌, ◌/◌, ◌%◌, ◌^◌, Bool, cond, ◌||◌, List, replicate, eqb, ltb}
use Rattle.answer.specs.Lists.{build, filled}
use Rattle.bits.specs.Bits.{field}
use Rattle.resource.specs.Values.{fields_of}

-- "Code 0, 1, 2, 3, 4 is 20, 40, 80, 160, 320 MHz. The positions of 20 MHz are numbered upward from 0: 1, 2, 4, 8, 16 of them."
unfoldable pub positions : ℕ → ℕ
positions bw = 2 ^ bw

-- "At 20 MHz channel 2 is lent empty and only 2 looks at it": whether the bandwidth has channel c, 1 or 2
unfoldable pub present : ℕ → ℕ → Bool
present bw c = eqb c 1 || ltb 0 bw

-- ---- the common field

-- "Overflow, 17 bits: Spatial Reuse 4, GI+LTF 2, LTF symbols 3, LDPC extra 1, Pre-FEC 2, PE Disambiguity 1, Disregard 4."
abbrev pub overflow : List ℕ → ℕ
overflow s = field s 0 17

abbrev pub spatial_reuse : List ℕ → ℕ
spatial_reuse s = field s 0 4

abbrev pub gi_ltf : List ℕ → ℕ
gi_ltf s = field s 4 2

abbrev pub ltf_symbols : List ℕ → ℕ
ltf_symbols s = field s 6 3

abbrev pub ldpc_extra : List ℕ → ℕ
ldpc_extra s = field s 9 1

abbrev pub pre_fec : List ℕ → ℕ
pre_fec s = field s 10 2

abbrev pub pe_disambiguity : List ℕ → ℕ
pe_disambiguity s = field s 12 1

abbrev pub disregard : List ℕ → ℕ
disregard s = field s 13 4

-- "First RU Allocation subfields, 9 bits each: one at 20 and 40 MHz, two from 80 up."
unfoldable pub firsts : ℕ → ℕ
firsts bw = cond (ltb bw 2) 1 2

-- "At 160 two more subfields, at 320 six more"
unfoldable pub seconds : ℕ → ℕ
seconds bw = cond (eqb bw 3) 2 (cond (eqb bw 4) 6 0)

-- "Then check 4, tail 6": the bits before the first check, all of which it covers
unfoldable pub first_bits : ℕ → ℕ
first_bits bw = 17 + 9 * firsts bw

-- the second part starts after the first tail; its bits, "then check 4, tail 6"
unfoldable pub second_at : ℕ → ℕ
second_at bw = first_bits bw + 10

unfoldable pub second_bits : ℕ → ℕ
second_bits bw = 9 * seconds bw

-- whether there is a second part: at 160 and 320
unfoldable pub has_second : ℕ → Bool
has_second bw = ltb 0 (seconds bw)

-- "A common field is thus 36, 36, 45, 73 or 109 bits."
unfoldable pub common : ℕ → ℕ
common bw = second_at bw + cond (has_second bw) (second_bits bw + 10) 0

-- how many RU Allocation subfields a channel has, and how many channel c has: none where the bandwidth has no such channel
unfoldable pub subfields : ℕ → ℕ
subfields bw = firsts bw + seconds bw

unfoldable pub subfields_in : ℕ → ℕ → ℕ
subfields_in bw c = cond (present bw c) (subfields bw) 0

-- the first bit of a channel's k-th RU Allocation subfield, from 0, and its value
unfoldable pub value_at : ℕ → ℕ → ℕ
value_at bw k = cond (ltb k (firsts bw)) (17 + 9 * k) (second_at bw + 9 * (k - firsts bw))

unfoldable pub value : ℕ → List ℕ → ℕ → ℕ
value bw s k = field s (value_at bw k) 9

-- ---- the row

-- "Content channel 1 holds the even positions, channel 2 the odd ones": the value at position p
unfoldable pub row_at : ℕ → List ℕ → List ℕ → ℕ → ℕ
row_at bw a b p = cond (eqb (p % 2) 0) (value bw a (p / 2)) (value bw b (p / 2))

-- by rising position
unfoldable pub row : ℕ → List ℕ → List ℕ → List ℕ
row bw a b = build (row_at bw a b) (positions bw)

-- in room for the sixteen positions of 320 MHz, with 0 past the row
unfoldable pub row_in16 : ℕ → List ℕ → List ℕ → List ℕ
row_in16 bw a b = filled (row_at bw a b) (positions bw) (replicate 16 0)

-- ---- the User fields

-- f 0 + f 1 + .. + f (n - 1)
unfoldable pub total : (ℕ → ℕ) → ℕ → ℕ
total f zero = 0
total f (suc n) = total f n + f n

-- "A channel's User fields follow its values in rising position": as many as its values give
unfoldable pub count : ℕ → ℕ → List ℕ → ℕ
count bw c s = total (λ k. fields_of (value bw s k)) (subfields_in bw c)

-- "User blocks of two fields of 22 bits, check 4, tail 6": the first bit of User field i, from 0, and below of block b
unfoldable pub user_at : ℕ → ℕ → ℕ
user_at bw i = common bw + 54 * (i / 2) + 22 * (i % 2)

-- "fields of 22 bits": User field i of a channel
abbrev pub user : ℕ → List ℕ → ℕ → ℕ
user bw s i = field s (user_at bw i) 22

-- "one per User field, channel 1 first": the j-th over both channels, n of which are channel 1's
unfoldable pub user_of : ℕ → List ℕ → List ℕ → ℕ → ℕ → ℕ
user_of bw a b n j = cond (ltb j n) (user bw a j) (user bw b (j - n))

unfoldable pub block_at : ℕ → ℕ → ℕ
block_at bw b = common bw + 54 * b

-- "the last block may have one. No fields, no block.": of n fields, how many blocks, and the bits of block b that its check covers
unfoldable pub blocks : ℕ → ℕ
blocks n = (n + 1) / 2

unfoldable pub covered : ℕ → ℕ → ℕ
covered n b = cond (ltb (2 * b + 1) n) 44 22

-- "What follows is padding, not looked at.": the first bit of it, after n fields
unfoldable pub end_of : ℕ → ℕ → ℕ
end_of bw n = common bw + 54 * (n / 2) + 32 * (n % 2)
