-- Engine: the only channels that can read to given words, up to the padding. The contracts of the code cite it; nobody has to believe it: what
-- the writer gives is said by the reader alone (`writer/specs`).
--
-- Every bit of a channel up to its end is in the words, or is a check or a tail (01, "Bandwidth and channels"); so the
-- words give the channels, whatever words they are, and whether these read back to the words is 13's question.
use Rattle.std.specs.Prelude.{◌≡◌, true, cond, List, ℕ, zero, suc, ◌+◌, ◌-◌, ◌*◌, ◌/◌, ◌%◌, ◌^◌, ◌≤◌, ◌<◌, eqb, length, replicate}
use Rattle.bits.specs.Bits.{bit, field, put, Small}
use Rattle.register.specs.Engine.{check_from}
use Rattle.block.specs.Check.{check}
use Rattle.resource.specs.Values.{fields_of}
use Rattle.channel.specs.Layout.{
  present,
  firsts,
  seconds,
  first_bits,
  second_at,
  second_bits,
  has_second,
  subfields_in,
  value_at,
  total,
  user_at,
  block_at,
  blocks,
}
use Rattle.channel.specs.Layout.{covered, end_of}
use Rattle.answer.specs.Lists.{at}
use Rattle.words.specs.Engine.{overflow_of, value_of, user_field}
use Rattle.frame_words.specs.Words.{position_in}
use Rattle.candidate.specs.Length.{bytes_for}

-- ---- a channel from what it carries

-- numbers put one by one: the k-th in the w bits from `at k`, for k below n
unfoldable pub puts : (ℕ → ℕ) → ℕ → (ℕ → ℕ) → ℕ → List ℕ → List ℕ
puts at w v zero d = d
puts at w v (suc n) d = put (puts at w v n d) (at n) w (v n)

-- the check of the n bits from `at`, in the four bits after them
unfoldable pub seal : ℕ → ℕ → List ℕ → List ℕ
seal at n d = put d (at + n) 4 (check d at n)

-- the second common check, which 160 and 320 MHz have
unfoldable pub seal_second : ℕ → List ℕ → List ℕ
seal_second bw d = cond (has_second bw) (seal (second_at bw) (second_bits bw) d) d

-- the checks of the first m User blocks, of n fields
unfoldable pub seal_blocks : ℕ → ℕ → ℕ → List ℕ → List ℕ
seal_blocks bw n zero d = d
seal_blocks bw n (suc b) d = seal (block_at bw b) (covered n b) (seal_blocks bw n b d)

-- overflow v, RU Allocation values x 0, x 1, .. of s subfields and n User fields f 0, f 1, .. put into d
unfoldable pub payload : ℕ → ℕ → (ℕ → ℕ) → ℕ → (ℕ → ℕ) → ℕ → List ℕ → List ℕ
payload bw v x s f n d = puts (user_at bw) 22 f n (puts (value_at bw) 9 x s (put d 0 17 v))

-- and then every check. "Tail is zero", and so is the padding, where d is.
unfoldable pub sealed : ℕ → ℕ → List ℕ → List ℕ
sealed bw n d = seal_blocks bw n (blocks n) (seal_second bw (seal 0 (first_bits bw) d))

-- ---- a common field as numbers

-- n values of nine bits as one number, the first lowest
unfoldable pub gathered : (ℕ → ℕ) → ℕ → ℕ
gathered x zero = 0
gathered x (suc n) = gathered x n + x n % 512 * 2 ^ (9 * n)

-- the bits that the first check covers, of overflow v and values x, and those that the second covers
unfoldable pub first_of : ℕ → ℕ → (ℕ → ℕ) → ℕ
first_of bw v x = v % 2 ^ 17 + gathered x (firsts bw) * 2 ^ 17

unfoldable pub second_of : ℕ → (ℕ → ℕ) → ℕ
second_of bw x = gathered (λ k. x (firsts bw + k)) (seconds bw)

-- ---- what the words say

unfoldable pub overflow_in : List ℕ → ℕ
overflow_in w = overflow_of (at w 1)

-- the k-th value of channel c
unfoldable pub value_in : List ℕ → ℕ → ℕ → ℕ
value_in w c k = value_of w (position_in c k)

-- how many User fields the channel has: as many as its values give
unfoldable pub count_in : ℕ → List ℕ → ℕ → ℕ
count_in bw w c = total (λ k. fields_of (value_in w c k)) (subfields_in bw c)

-- "one per User field, channel 1 first", after the first ten
unfoldable pub first_in : ℕ → List ℕ → ℕ → ℕ
first_in bw w c = cond (eqb c 1) 10 (10 + count_in bw w 1)

unfoldable pub field_in : ℕ → List ℕ → ℕ → ℕ → ℕ
field_in bw w c i = user_field (at w (first_in bw w c + i))

unfoldable pub needed : ℕ → List ℕ → ℕ
needed bw w = bytes_for bw (count_in bw w 1) (count_in bw w 2)

-- none at 20 MHz for channel 2
unfoldable pub bytes_in : ℕ → List ℕ → ℕ → ℕ
bytes_in bw w c = cond (present bw c) (needed bw w) 0

-- channel c, of those bytes, in d
unfoldable pub channel_in : ℕ → List ℕ → ℕ → List ℕ → List ℕ
channel_in bw w c d =
    sealed bw (count_in bw w c)
    (payload bw (overflow_in w) (value_in w c) (subfields_in bw c) (field_in bw w c) (count_in bw w c) d)

unfoldable pub candidate : ℕ → List ℕ → ℕ → List ℕ
candidate bw w c = channel_in bw w c (replicate (bytes_in bw w c) 0)

-- ---- a channel built from its start, bits after bits

-- x after the bits that are held of the byte in which bit i lies
unfoldable pub joined : ℕ → ℕ → ℕ → ℕ
joined i held x = held + x * 2 ^ (i % 8)

-- a block of n bits with its check; its tail is zero
unfoldable pub sealed_of : ℕ → ℕ → ℕ
sealed_of x n = x + check_from 255 x n * 2 ^ n

-- the second part of a common field with its check, none where there is none
unfoldable pub second_part : ℕ → (ℕ → ℕ) → ℕ
second_part bw x = cond (has_second bw) (sealed_of (second_of bw x) (second_bits bw)) 0

-- those of channel c
unfoldable pub first_part_in : ℕ → List ℕ → ℕ → ℕ
first_part_in bw w c = sealed_of (first_of bw (overflow_in w) (value_in w c)) (first_bits bw)

unfoldable pub second_part_in : ℕ → List ℕ → ℕ → ℕ
second_part_in bw w c = second_part bw (value_in w c)

-- d has the first i bits of the channel s, and zeros up to the end of the byte
pub record Built (s : List ℕ) (i : ℕ) (d : List ℕ) : Type 0 where
  pub as_long : length d ≡ length s
  pub lower : (j : ℕ) → j < i → bit d j ≡ bit s j
  pub rest : (j : ℕ) → i ≤ j → j < 8 * ((i + 7) / 8) → bit d j ≡ 0

-- and the last ten of them are held in a number
pub record Ends (s : List ℕ) (i ten : ℕ) (d : List ℕ) : Type 0 where
  pub built : Built s i d
  pub last_ten : ten ≡ field s (i - 10) 10

-- every number is one of 22 bits
pub record Narrow (f : List ℕ) : Type 0 where
  pub narrow : (i : ℕ) → at f i < 2 ^ 22

-- s has blocks of these User fields, with their checks and tails
pub record Blocks (bw : ℕ) (f s : List ℕ) : Type 0 where
  pub pairs : (b : ℕ) → 2 * b + 1 < length f → field s (block_at bw b) 54 ≡ sealed_of (at f (2 * b) + at f (2 * b + 1) * 2 ^ 22) 44
  pub last : length f % 2 ≡ 1 → field s (block_at bw (length f / 2)) 32 ≡ sealed_of (at f (length f - 1)) 22

-- s has these parts and User fields, and zeros after them
pub record Made (bw first second : ℕ) (f s : List ℕ) : Type 0 where
  pub the_first : field s 0 (second_at bw) ≡ first
  pub the_second : has_second bw ≡ true → field s (second_at bw) (second_bits bw + 10) ≡ second
  pub the_blocks : Blocks bw f s
  pub past : (i : ℕ) → end_of bw (length f) ≤ i → bit s i ≡ 0
  pub bytes : Small s

-- e is d with zeros from byte k on
pub record ClearedFrom (d : List ℕ) (k : ℕ) (e : List ℕ) : Type 0 where
  pub same_length : length e ≡ length d
  pub before : (i : ℕ) → i < k → at e i ≡ at d i
  pub past : (i : ℕ) → k ≤ i → at e i ≡ 0

-- what is told of channel c: a bandwidth that has it, and words with its row
pub record Lent (bw : ℕ) (w row : List ℕ) (c : ℕ) : Type 0 where
  pub known : bw ≤ 4
  pub first_or_second : (1 ≤ c) × (c ≤ 2)
  pub there : present bw c ≡ true
  pub the_row : (k : ℕ) → k < subfields_in bw c → (position_in c k < length row) × (at row (position_in c k) ≡ value_in w c k)

-- f are its User fields, as numbers
pub record FieldsIn (bw : ℕ) (w : List ℕ) (c : ℕ) (f : List ℕ) : Type 0 where
  pub counted : length f ≡ count_in bw w c
  pub each : (i : ℕ) → i < length f → at f i ≡ field_in bw w c i
