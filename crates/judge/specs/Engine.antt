-- Engine: the test of 13, of the candidate's channels and as the code makes it, of the words as they stand. The contracts of the code cite it;
-- nobody has to believe it: `writer/proofs/Candidate.antt` (`reads_to_says`, `says_reads_to`), `writer/proofs/Worked.antt`, and for the words
-- `proofs/Decided.antt` (`told-reads`, `reads_told`).
use Rattle.std.specs.Prelude.{◌≡◌, Bool, true, false, cond, not, ◌&&◌, List, ℕ, ◌+◌, ◌*◌, ◌/◌, ◌%◌, ◌^◌, ◌≤◌, ◌<◌, eqb, ltb, length}
use Rattle.answer.specs.Answer.{passes}
use Rattle.std.specs.Prelude.{Ok}
use Rattle.answer.specs.Least.{least}
use Rattle.answer.specs.Lists.{build, at}
use Rattle.register.specs.Engine.{check_from}
use Rattle.plan.specs.Engine.{plan_outcome}
use Rattle.channel.specs.Layout.{positions, first_bits, second_at, second_bits}
use Rattle.stations.specs.Engine.{any_repeated}
use Rattle.header_values.specs.Header.{known}
use Rattle.words.specs.Words.{overflow_word, second_word}
use Rattle.words.specs.Engine.{overflow_of, value_of}
use Rattle.halves.specs.Table.{outcome11}
use Rattle.frame_words.specs.Words.{position_in, giver, shared_at, words_of}
use Rattle.candidate.specs.Engine.{first_of, second_of, first_part_in, second_part_in, overflow_in, value_in, count_in, candidate}

-- whether two lists of words are the same: as long, and different nowhere
unfoldable pub unlike : List ℕ → List ℕ → ℕ → Bool
unlike v w i = not (eqb (at v i) (at w i))

unfoldable pub same_words : List ℕ → List ℕ → Bool
same_words v w = eqb (length v) (length w) && eqb (least (unlike v w) (length v)) (length v)

-- whether channels are accepted and read to exactly these words
unfoldable pub reads_to : ℕ → List ℕ → List ℕ → List ℕ → Bool
reads_to bw a b w = passes (outcome11 bw a b) && same_words (words_of bw a b) w

-- ---- the first ten words

-- data[0] is that of an overflow, with at most four LTF symbols (01, "What comes back", 5), whatever check and tail it has
pub record Overflow (x : ℕ) : Type 0 where
  pub made : x ≡ overflow_word (overflow_of x) (x / 2 ^ 22)
  pub few : overflow_of x / 2 ^ 6 % 2 ^ 3 ≤ 4

-- an RU Allocation of nine bits and its known bit, or neither
abbrev pub slot_of : Bool → ℕ → ℕ
slot_of t x = cond t (x % 2 ^ 9 + 512) 0

-- data[1], and of data[2] to data[6] the one that begins with position p of n, remade from their values
abbrev pub first_from : ℕ → ℕ
first_from x = 2 ^ 13 * slot_of true (x / 2 ^ 13)

unfoldable pub three_from : ℕ → ℕ → ℕ → ℕ
three_from p n x =
    slot_of (ltb p n) x + 2 ^ 10 * (slot_of (ltb (p + 1) n) (x / 2 ^ 10) + 2 ^ 10 * slot_of (ltb (p + 2) n) (x / 2 ^ 20))

-- they are what words of n positions have there, but for the checks
pub record Header (bw n : ℕ) (w : List ℕ) : Type 0 where
  pub known_word : at w 0 ≡ known bw
  pub overflow_word : Overflow (at w 1)
  pub first_word : at w 2 ≡ first_from (at w 2)
  pub three_word : (k : ℕ) → k < 5 → at w (3 + k) ≡ three_from (1 + 3 * k) n (at w (3 + k))
  pub last_word : at w 9 ≡ 0

-- the row that they tell, and the checks of channel 1
unfoldable pub row_in : ℕ → List ℕ → List ℕ
row_in bw w = build (value_of w) (positions bw)

unfoldable pub first_check : ℕ → List ℕ → ℕ
first_check bw w = check_from 255 (first_of bw (overflow_in w) (value_in w 1)) (first_bits bw)

unfoldable pub second_check : ℕ → List ℕ → ℕ
second_check bw w = check_from 255 (second_of bw (value_in w 1)) (second_bits bw)

pub record Checked (bw : ℕ) (w : List ℕ) : Type 0 where
  pub first : at w 1 / 2 ^ 22 ≡ first_check bw w
  pub second : at w 8 ≡ second_word bw (second_check bw w)

-- numbers that begin the writing of what they tell: the overflow, and the parts of channel 1's common field
pub record Begun (bw : ℕ) (w : List ℕ) (v x y : ℕ) : Type 0 where
  pub the_overflow : v ≡ overflow_in w
  pub the_first : (x < 2 ^ second_at bw) × (x ≡ first_part_in bw w 1)
  pub the_second : (y < 2 ^ (second_bits bw + 10)) × (y ≡ second_part_in bw w 1)

-- ---- the User words

-- a word of this format: its known bits, and no bit past the format's fields
unfoldable pub formatted : Bool → ℕ → Bool
formatted t x = eqb (x % 2 ^ 8) (cond t 0x47 0x3F) && ltb x (2 ^ 30)

-- the format of channel c's j-th
unfoldable pub format_in : ℕ → List ℕ → ℕ → ℕ → Bool
format_in bw w c j = shared_at (row_in bw w) (position_in c (giver bw c (candidate bw w c) j))

pub record Formatted (bw : ℕ) (w : List ℕ) : Type 0 where
  pub on_1 : (j : ℕ) → j < count_in bw w 1 → formatted (format_in bw w 1 j) (at w (10 + j)) ≡ true
  pub on_2 : (j : ℕ) → j < count_in bw w 2 → formatted (format_in bw w 2 j) (at w (10 + count_in bw w 1 + j)) ≡ true

-- the STA-ID of the j-th: both formats have it in the same bits
unfoldable pub station_on : List ℕ → ℕ → ℕ
station_on w j = at w (10 + j) / 256 % 2048

-- ---- all that 13 asks

pub record Told (bw : ℕ) (w : List ℕ) : Type 0 where
  pub counted : length w ≡ 10 + (count_in bw w 1 + count_in bw w 2)
  pub the_header : Header bw (positions bw) w
  pub checked : Checked bw w
  pub laid : plan_outcome (row_in bw w) ≡ Ok tt
  pub users : Formatted bw w
  pub once : any_repeated (station_on w) (count_in bw w 1 + count_in bw w 2) ≡ false
