-- Whose station a `sta=` line names, and which are counted (01, "Listing": "sta= lines follow the User words"; 02, T-01).
use Rattle.std.specs.Prelude.{◌≡◌, cond, List, ◌++◌, ◌≢◌, ℕ, ◌+◌, ◌-◌, ◌/◌, ◌%◌, ◌<◌, ltb, ℤ, length, get_or}
use Rattle.answer.specs.Lists.{at}
use Rattle.plan.specs.Worked.{the_plan}
use Rattle.resource.specs.Tones.{Span, Among}
use Rattle.records.specs.Records.{blank}
use Rattle.records.specs.Owns.{Owns, Counts}
use Rattle.records.specs.Whose.{OwnsTone}
use Rattle.frame_words.specs.Words.{words_of}
use Rattle.text.specs.Text.{codes, keyed, line}
use Rattle.resource_line.specs.ResourceLine.{tones_text}
use Rattle.listed.specs.Listing.{record_line, resources, owner_in, sta_line_at, stations_in}

-- "one per User field, channel 1 first": of the i-th User field over both channels, m of which are channel 1's, the channel
-- and its number there
abbrev pub channel_at : ℕ → ℕ → ℕ
channel_at m i = cond (ltb i m) 1 2

abbrev pub place_in : ℕ → ℕ → ℕ
place_in m i = cond (ltb i m) i (i - m)

-- 002, "STA-ID 0x7ff00": bits 8 to 18 of the i-th User word
abbrev pub word_station : List ℕ → ℕ → ℕ
word_station words i = at words (10 + i) / 256 % 2048

-- a line that has none for the number
abbrev pub SaysNone : List ℕ → Type 0
SaysNone t = (rest : List ℕ) × (t ≡ codes "sta=none " ++ rest)

-- a `ru=` line whose tones= are exactly the subcarriers that field j of channel c owns, in the plan of the row r
pub record TonesOf (r : List ℕ) (c j : ℕ) (text : List ℕ) : Type 0 where
  pub front : List ℕ
  pub spans : List Span
  pub is : text ≡ front ++ codes " tones=" ++ tones_text spans ++ codes "\n"
  pub owned : (k : ℤ) → Among k spans → OwnsTone (the_plan r) (at r) (length r) c j k
  pub all_owned : (k : ℤ) → OwnsTone (the_plan r) (at r) (length r) c j k → Among k spans

-- the i-th `sta=` line is that of the i-th User word
pub record Station (bw : ℕ) (a b r : List ℕ) (m i : ℕ) : Type 0 where
  -- "its line has none for the number, resource= staying": a resource's number, from 1
  pub none_line : word_station (words_of bw a b) i ≡ 2046
      → sta_line_at bw r a b m i ≡ line (codes "sta=none resource=") (owner_in r m i + 1)
  -- any other says the word's STA-ID
  pub number_line : word_station (words_of bw a b) i ≢ 2046
      → sta_line_at bw r a b m i ≡ keyed (codes "sta=") (word_station (words_of bw a b) i) ++ line (codes " resource=") (owner_in r m i + 1)
  -- and never none
  pub only_none : SaysNone (sta_line_at bw r a b m i) → word_station (words_of bw a b) i ≡ 2046
  -- the resource has a `ru=` line
  pub listed : owner_in r m i < length (resources r)
  -- and is the one that owns the field
  pub owns : Owns (the_plan r) (at r) (length r) (owner_in r m i) (channel_at m i) (place_in m i)
  pub only_owner : (x : ℕ) → Owns (the_plan r) (at r) (length r) x (channel_at m i) (place_in m i) → x ≡ owner_in r m i
  -- its `ru=` line has the subcarriers on which the station is sent its field, and no other
  pub its_tones : TonesOf r (channel_at m i) (place_in m i) (record_line (length r) (get_or (resources r) (owner_in r m i) blank))

-- "stations= leaves it out", of m User fields in channel 1 and k in channel 2
pub record Counted (bw : ℕ) (a b r : List ℕ) (m k : ℕ) : Type 0 where
  -- stations= is how many User words have another STA-ID than 2046
  pub stations : Counts (λ i. word_station (words_of bw a b) i ≢ 2046) (length (words_of bw a b) - 10) (stations_in bw a b m (m + k))
  -- the lines that say none are the others
  pub nones : ℕ
  pub none_lines : Counts (λ i. SaysNone (sta_line_at bw r a b m i)) (m + k) nones
  pub all_fields : stations_in bw a b m (m + k) + nones ≡ m + k
