-- The words of an accepted reading.
--
-- 01, "What comes back": "Words, lent as 32-bit numbers: known, nine data words, one per User field, channel 1 first."
use Rattle.std.specs.Prelude.{◌≡◌, Bool, List, ◌++◌, ℕ, ◌+◌, ◌-◌, ◌*◌, ◌<◌, ltb, length}
use Rattle.answer.specs.Least.{least}
use Rattle.answer.specs.Lists.{build, at}
use Rattle.bits.specs.Bits.{field}
use Rattle.resource.specs.Values.{fields_of}
use Rattle.kinds.specs.Fields.{shared}
use Rattle.plan.specs.Worked.{the_plan}
use Rattle.channel.specs.Layout.{overflow, first_bits, second_at, second_bits, subfields_in, value, row, total, count, user_at}
use Rattle.words.specs.Words.{header, user_word}

-- "A channel's User fields follow its values in rising position": how many come before those of its k-th value
abbrev pub before : ℕ → List ℕ → ℕ → ℕ
before bw s k = total (λ i. fields_of (value bw s i)) k

-- which of its values gives channel c the field j, and that value's position: "channel 1 holds the even positions,
-- channel 2 the odd ones"
unfoldable pub giver : ℕ → ℕ → List ℕ → ℕ → ℕ
giver bw c s j = least (λ k. ltb j (before bw s (k + 1))) (subfields_in bw c)

abbrev pub position_in : ℕ → ℕ → ℕ
position_in c k = 2 * k + (c - 1)

-- whether the fields of a position share their resource, "over both channels together", in the row's plan; for an accepted
-- frame it is so of the resource that owns the field in any plan (`claims/specs/Formats.antt`)
abbrev pub shared_at : List ℕ → ℕ → Bool
shared_at r p = shared (the_plan r) (at r) p

-- the word of User field j of channel c, whose bytes are s, in a frame whose row is r
unfoldable pub user_word_at : ℕ → List ℕ → ℕ → List ℕ → ℕ → ℕ
user_word_at bw r c s j = user_word (shared_at r (position_in c (giver bw c s j))) (field s (user_at bw j) 22)

abbrev pub user_words : ℕ → List ℕ → ℕ → List ℕ → List ℕ
user_words bw r c s = build (user_word_at bw r c s) (count bw c s)

-- known and data[0] to data[8]; "Checks are channel 1's, first sent bit lowest", each with its tail
abbrev pub header_of : ℕ → List ℕ → List ℕ → List ℕ
header_of bw r a =
    header bw (overflow a) (field a (first_bits bw) 10) (field a (second_at bw + second_bits bw) 10) (at r) (length r)

-- the words of a frame whose row is r
unfoldable pub words_of_row : ℕ → List ℕ → List ℕ → List ℕ → List ℕ
words_of_row bw r a b = header_of bw r a ++ (user_words bw r 1 a ++ user_words bw r 2 b)

unfoldable pub words_of : ℕ → List ℕ → List ℕ → List ℕ
words_of bw a b = words_of_row bw (row bw a b) a b

-- how many words there are: "10 plus fields"
unfoldable pub word_count : ℕ → List ℕ → List ℕ → ℕ
word_count bw a b = 10 + (count bw 1 a + count bw 2 b)

-- equal words say the same bandwidth, row, overflow and User fields of 22 bits, as many of each channel
pub record SameFrame (bw : ℕ) (a b : List ℕ) (bw' : ℕ) (a' b' : List ℕ) : Type 0 where
  pub bandwidth : bw ≡ bw'
  pub the_row : row bw a b ≡ row bw' a' b'
  pub the_overflow : overflow a ≡ overflow a'
  pub count_1 : count bw 1 a ≡ count bw' 1 a'
  pub count_2 : count bw 2 b ≡ count bw' 2 b'
  pub users_1 : (j : ℕ) → j < count bw 1 a → field a (user_at bw j) 22 ≡ field a' (user_at bw' j) 22
  pub users_2 : (j : ℕ) → j < count bw 2 b → field b (user_at bw j) 22 ≡ field b' (user_at bw' j) 22
