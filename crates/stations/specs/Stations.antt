-- The STA-IDs of a frame, and 11.
--
-- 01, "What comes back": "11 | a STA-ID from 1 to 2006 seen before (channel 1 then 2) | channel, first bit of the later
-- field". a and b are the bytes of channel 1 and channel 2.
use Rattle.std.specs.Prelude.{Bool, cond, ◌&&◌, List, ℕ, ◌+◌, ◌-◌, ltb, leb, eqb}
use Rattle.answer.specs.Answer.{refuse_if}
use Rattle.answer.specs.Least.{least}
use Rattle.answer.specs.declared.Refusal.{Refusal}
use Rattle.answer.specs.Answer.{Outcome}
use Rattle.answer.specs.declared.Refusal.TheVariants.{StationTwice}
use Rattle.bits.specs.Bits.{field}
use Rattle.channel.specs.Layout.{user_at}

-- a channel's i-th, the first 11 bits of its i-th User field
abbrev pub station_at : ℕ → List ℕ → ℕ → ℕ
station_at bw s i = field s (user_at bw i) 11

-- the j-th over both channels, n of which are channel 1's
abbrev pub station_of : ℕ → List ℕ → List ℕ → ℕ → ℕ → ℕ
station_of bw a b n j = cond (ltb j n) (station_at bw a j) (station_at bw b (j - n))

-- "a STA-ID from 1 to 2006 seen before": x is one, and one of the first j
abbrev pub seen_before : (ℕ → ℕ) → ℕ → ℕ → Bool
seen_before id j x = (ltb 0 x && leb x 2006) && ltb (least (λ i. eqb (id i) x) j) j

abbrev pub repeated : (ℕ → ℕ) → ℕ → Bool
repeated id j = seen_before id j (id j)

-- where the j-th stands: "channel, first bit of the later field"
abbrev pub station_place : ℕ → ℕ → ℕ → Refusal
station_place bw n j = cond (ltb j n) (StationTwice 1 (user_at bw j)) (StationTwice 2 (user_at bw (j - n)))

-- the lowest of t that was
unfoldable pub first_repeated : (ℕ → ℕ) → ℕ → ℕ
first_repeated id t = least (repeated id) t

-- 11 of STA-IDs, the first n of which are channel 1's and the other m channel 2's
abbrev pub twice : ℕ → (ℕ → ℕ) → ℕ → ℕ → Outcome
twice bw id n m = refuse_if (ltb (first_repeated id (n + m)) (n + m)) (station_place bw n (first_repeated id (n + m)))

-- of the channels' own
unfoldable pub station_twice : ℕ → List ℕ → List ℕ → ℕ → ℕ → Outcome
station_twice bw a b n m = twice bw (station_of bw a b n) n m
