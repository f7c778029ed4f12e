-- A channel as one list: its named fields in sending order, each with its first bit and its width (01, "Layout of a channel").
--
-- 02, T-03: "the smallest named in document 01's layout, a User field being one". Every place that `Layout.antt` names is an entry of this list
-- (`PlacesOnList`), and the list leaves no bit of the channel out and takes none twice (`Tiles`): `proofs/Fields.antt`.
use Rattle.std.specs.Prelude.{◌≡◌, true, cond, ℕ, zero, suc, ◌+◌, ◌≤◌, ◌<◌, length, get_or, replicate}
use mathlib.Core.List.{List, [], ◌∷◌, ◌++◌, Memᴰ}
use Rattle.channel.specs.Layout.{firsts, seconds, first_bits, second_at, second_bits, has_second, subfields, value_at, user_at, block_at, blocks}
use Rattle.channel.specs.Layout.{covered}

-- ---- the widths, line by line

-- "Overflow, 17 bits: Spatial Reuse 4, GI+LTF 2, LTF symbols 3, LDPC extra 1, Pre-FEC 2, PE Disambiguity 1, Disregard 4."
abbrev pub overflow_widths : List ℕ
overflow_widths = 4 ∷ 2 ∷ 3 ∷ 1 ∷ 2 ∷ 1 ∷ 4 ∷ []

-- "Then check 4, tail 6": n fields of w bits, and these two
unfoldable pub checked_widths : ℕ → ℕ → List ℕ
checked_widths w n = replicate n w ++ (4 ∷ 6 ∷ [])

-- "First RU Allocation subfields, 9 bits each: one at 20 and 40 MHz, two from 80 up. Then check 4, tail 6."
unfoldable pub first_widths : ℕ → List ℕ
first_widths bw = checked_widths 9 (firsts bw)

-- "At 160 two more subfields, at 320 six more, then check 4, tail 6."
unfoldable pub second_widths : ℕ → List ℕ
second_widths bw = cond (has_second bw) (checked_widths 9 (seconds bw)) []

-- "User blocks of two fields of 22 bits, check 4, tail 6; the last block may have one. No fields, no block."
unfoldable pub user_widths : ℕ → List ℕ
user_widths zero = []
user_widths (suc zero) = checked_widths 22 1
user_widths (suc (suc n)) = checked_widths 22 2 ++ user_widths n

-- of a channel that has n User fields. "What follows is padding": no field.
unfoldable pub widths : ℕ → ℕ → List ℕ
widths bw n = overflow_widths ++ (first_widths bw ++ (second_widths bw ++ user_widths n))

-- ---- the list

-- a named field: its first bit, and how many bits it has
pub record Named : Type 0 where
  pub first : ℕ
  pub width : ℕ

abbrev pub named_at : ℕ → ℕ → Named
named_at at w = record { first = at; width = w }

-- fields of these widths from bit `at` on: each starts where the one before it ends
abbrev pub fields_from : ℕ → List ℕ → List Named
fields_from at [] = []
fields_from at (w ∷ ws) = named_at at w ∷ fields_from (at + w) ws

unfoldable pub named_fields : ℕ → ℕ → List Named
named_fields bw n = fields_from 0 (widths bw n)

-- field k of a list, from 0; past its end one of no bits
abbrev pub nth_field : List Named → ℕ → Named
nth_field fs k = get_or fs k (named_at 0 0)

-- bit i is one of the field's
pub record Has (f : Named) (i : ℕ) : Type 0 where
  pub from : f.first ≤ i
  pub below : i < f.first + f.width

-- ---- what the list is held to

-- without gap: each bit before the end is in a field; without overlap: in no other, and the fields are in sending order. None passes the end, and
-- none is empty.
pub record Tiles (fs : List Named) (end : ℕ) : Type 0 where
  pub in_one : (i : ℕ) → i < end → (k : ℕ) × (k < length fs) × Has (nth_field fs k) i
  pub in_no_other : (i j k : ℕ) → Has (nth_field fs j) i → Has (nth_field fs k) i → j ≡ k
  pub in_order : (j k : ℕ) → j < k → k < length fs → (nth_field fs j).first + (nth_field fs j).width ≤ (nth_field fs k).first
  pub inside : (k : ℕ) → (nth_field fs k).first + (nth_field fs k).width ≤ end
  pub none_empty : (k : ℕ) → k < length fs → 1 ≤ (nth_field fs k).width

-- w bits from `at` are a named field of a channel that has n User fields
abbrev pub OnList : ℕ → ℕ → ℕ → ℕ → Type 0
OnList bw n at w = Memᴰ (named_at at w) (named_fields bw n)

pub record PlacesOnList (bw n : ℕ) : Type 0 where
  -- the fields of the overflow (`spatial_reuse` to `disregard`)
  pub spatial_reuse : OnList bw n 0 4
  pub gi_ltf : OnList bw n 4 2
  pub ltf_symbols : OnList bw n 6 3
  pub ldpc_extra : OnList bw n 9 1
  pub pre_fec : OnList bw n 10 2
  pub pe_disambiguity : OnList bw n 12 1
  pub disregard : OnList bw n 13 4
  -- the RU Allocation subfields, and the common checks and tails
  pub subfield : (k : ℕ) → k < subfields bw → OnList bw n (value_at bw k) 9
  pub first_check : OnList bw n (first_bits bw) 4
  pub first_tail : OnList bw n (first_bits bw + 4) 6
  pub second_check : has_second bw ≡ true → OnList bw n (second_at bw + second_bits bw) 4
  pub second_tail : has_second bw ≡ true → OnList bw n (second_at bw + second_bits bw + 4) 6
  -- the User fields, and the blocks' checks and tails
  pub user : (i : ℕ) → i < n → OnList bw n (user_at bw i) 22
  pub block_check : (b : ℕ) → b < blocks n → OnList bw n (block_at bw b + covered n b) 4
  pub block_tail : (b : ℕ) → b < blocks n → OnList bw n (block_at bw b + covered n b + 4) 6
