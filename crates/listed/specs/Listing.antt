-- The listing of a frame (01, "Listing"), what `list` answers, and the program's whole text.
--
-- a and b are the bytes of channel 1 and channel 2.
use Rattle.std.specs.Prelude.{cond, List, ◌++◌, [], ◌∷◌, ℕ, ◌+◌, ◌-◌, ltb, length, drop, get_or}
use Rattle.answer.specs.Answer.{no, refuse_if, ◌or◌, answer_at, after}
use Rattle.answer.specs.declared.Answer.{Answer}
use Rattle.answer.specs.Answer.{Outcome}
use Rattle.std.specs.Prelude.{Ok, Err}
use Rattle.answer.specs.Tally.{tally}
use Rattle.answer.specs.declared.Refusal.TheVariants.{BufferTooShort}
use Rattle.answer.specs.Answer.{answer_of}
use Rattle.resource.specs.Tones.{tones_of}
use Rattle.plan.specs.Worked.{the_plan}
use Rattle.records.specs.declared.Record.{Record}
use Rattle.records.specs.Records.{records_of, blank}
use Rattle.records.specs.Worked.{the_owner}
use Rattle.channel.specs.Layout.{row, count}
use Rattle.stations.specs.Stations.{station_of}
use Rattle.halves.specs.Table.{outcome11, checks11}
use Rattle.text.specs.Text.{upto}
use Rattle.input.specs.Worked.{Said, wrong, frame, said}
use Rattle.resource_line.specs.ResourceLine.{ru_line}
use Rattle.lines.specs.Lines.{assigned, sta_line, refusal_text, head_text}

-- ---- the listing of a row r

-- the line of a record of the plan, in a channel of n positions; its users are its fields of both channels
abbrev pub record_line : ℕ → Record → List ℕ
record_line n x = ru_line x.segment x.resource (x.fields1 + x.fields2) (tones_of n x.segment x.resource)

-- the plan's resources, "by lowest position, then frequency"
abbrev pub resources : List ℕ → List Record
resources r = records_of (the_plan r) r

-- a `ru=` line for each
unfoldable pub ru_lines : ℕ → List Record → List ℕ
ru_lines n rs = upto (λ i. record_line n (get_or rs i blank)) (length rs)

-- the resource that owns User field i over both channels, m of which are channel 1's
unfoldable pub owner_in : List ℕ → ℕ → ℕ → ℕ
owner_in r m i = cond (ltb i m) (the_owner r 1 i) (the_owner r 2 (i - m))

-- "sta= lines follow the User words": channel 1's fields first; `resource=` counts from 1 over the whole listing
unfoldable pub sta_line_at : ℕ → List ℕ → List ℕ → List ℕ → ℕ → ℕ → List ℕ
sta_line_at bw r a b m i = sta_line (station_of bw a b m i) (owner_in r m i + 1)

unfoldable pub sta_lines : ℕ → List ℕ → List ℕ → List ℕ → ℕ → ℕ → List ℕ
sta_lines bw r a b m n = upto (sta_line_at bw r a b m) n

-- 02, T-01: "stations= leaves it out": how many of the first n User fields over both channels are a station's
unfoldable pub stations_in : ℕ → List ℕ → List ℕ → ℕ → ℕ → ℕ
stations_in bw a b m n = tally (λ i. assigned (station_of bw a b m i)) n

unfoldable pub listing_of : ℕ → List ℕ → List ℕ → List ℕ → ℕ → ℕ → List ℕ
listing_of bw r a b m k =
    head_text bw (length (resources r)) m k (stations_in bw a b m (m + k))
    ++ ru_lines (length r) (resources r)
    ++ sta_lines bw r a b m (m + k)

-- ---- the listing of a frame
unfoldable pub listing : ℕ → List ℕ → List ℕ → List ℕ
listing bw a b = listing_of bw (row bw a b) a b (count bw 1 a) (count bw 2 b)

-- "23 | listing's buffer is too short | 0, bytes needed"
unfoldable pub check23 : ℕ → List ℕ → List ℕ → ℕ → Outcome
check23 bw a b room = refuse_if (ltb room (length (listing bw a b))) (BufferTooShort (length (listing bw a b)))

-- 1 to 11 as the reader, "and 23 last"
unfoldable pub list_outcome : ℕ → List ℕ → List ℕ → ℕ → Outcome
list_outcome bw a b room = outcome11 bw a b or check23 bw a b room

-- "0 | accepted | 0, count of words (listing: of bytes)", or the refusal
unfoldable pub list_answer : ℕ → List ℕ → List ℕ → ℕ → Answer
list_answer bw a b room = answer_at (list_outcome bw a b room) (length (listing bw a b))

-- the lent buffer afterwards: accepted, the text at its front; "Every refusal writes nothing"
unfoldable pub list_after : ℕ → List ℕ → List ℕ → List ℕ → List ℕ
list_after bw a b d =
    after (list_outcome bw a b (length d)) (listing bw a b ++ drop (length (listing bw a b)) d) d

-- ---- the program's text

-- "A refusal is answer=, channel=, place=, three lines, by the program"
abbrev pub refusal_of : Answer → List ℕ
refusal_of x = refusal_text x.number x.channel x.place

-- the listing, or the refusal
abbrev pub outcome_text : Outcome → List ℕ → List ℕ
outcome_text (Ok u) t = t
outcome_text (Err x) t = refusal_of (answer_of x)

unfoldable pub frame_text : ℕ → List ℕ → List ℕ → List ℕ
frame_text bw a b = outcome_text (outcome11 bw a b) (listing bw a b)

-- "22 is first of all"
abbrev pub said_text : Said → List ℕ
said_text (wrong k) = refusal_of (no 22 0 k)
said_text (frame bw a b) = frame_text bw a b

-- what the program writes for the text s
unfoldable pub program_text : List ℕ → List ℕ
program_text s = said_text (said s)

abbrev pub list_numbers : List ℕ
list_numbers = 1 ∷ 2 ∷ 3 ∷ 4 ∷ 5 ∷ 6 ∷ 7 ∷ 8 ∷ 9 ∷ 10 ∷ 11 ∷ 23 ∷ []

abbrev pub list_checks : ℕ → List ℕ → List ℕ → ℕ → List Outcome
list_checks bw a b room = checks11 bw a b ++ (check23 bw a b room ∷ [])
