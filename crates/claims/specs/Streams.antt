-- Spatial streams (02, T-11).
--
-- "The lab's antenna product wants streams per station, on top of the reader and knowing only its stated results. For 2 to 8 users the spatial
-- configuration is a number counting, from 0, the rows of streams 1 to 4 that never rise and sum to at most 16, ordered by last entry first, then
-- the one before it. .. Show once, over the number of users, that decoding lists each row once and encoding undoes it. Refusals: 21, users not 2 to
-- 8, a number past the last row, or a row not listed."
--
-- Calls of `stream_rows::put_row`, `stream_rows::number_of`, `streams::streams` and of `brachymel_streams_row`, `brachymel_streams_number`,
-- `brachymel_streams` are `Calls.antt`'s: all that their contracts allow.
use Rattle.std.specs.Prelude.{◌≡◌, ◌≢◌, cond, List, [], ◌∷◌, ℕ, ◌+◌, ◌-◌, ◌≤◌, ◌<◌, eqb, length, take, drop, get_or}
use Rattle.answer.specs.Answer.{no}
use Rattle.answer.specs.Lists.{at}
use Rattle.kinds.specs.Signals.{Signals}
use Rattle.plan.specs.Answers.{SomePlanOfEight}
use Rattle.records.specs.declared.Record.{Record}
use Rattle.records.specs.Records.{records_of}
use Rattle.records.specs.Demand.{resource_in}
use Rattle.records.specs.FieldsOf.{fields_on, FieldOf, word_of}
use Rattle.channel.specs.Layout.{row, user}
use Rattle.stream_rows.specs.Rows.{Listed, Before, Counted, Configures}
use Rattle.streams.specs.Streams.{station_in, nss_in, configuration_in}
use Rattle.streams.specs.Result.{fields}
use Rattle.claims.specs.Calls.{Call, RowCall, NumberCall, Reads, PutsRow, GivesNumber, GivesStreams}

-- ---- "decoding lists each row once and encoding undoes it"

-- "users .. 2 to 8"
abbrev pub From2To8 : ℕ → Type 0
From2To8 users = (2 ≤ users) × (users ≤ 8)

-- the row that a call has given
abbrev pub row_given : RowCall → List ℕ
row_given c = take c.users c.after

pub record Decoding : Type 1 where
  -- 02's rows are counted in one way, whatever the number of users: in a list of all of them in the order
  pub counted : (users : ℕ) → (rows : List (List ℕ)) × Counted users rows × ((other : List (List ℕ)) → Counted users other → other ≡ rows)
  -- "Five users have 49 rows, six 54, seven 50"
  pub so_many : (users : ℕ) (rows : List (List ℕ)) → From2To8 users → Counted users rows
      → length rows ≡ get_or (10 ∷ 20 ∷ 35 ∷ 49 ∷ 54 ∷ 50 ∷ 41 ∷ []) (users - 2) 0
  -- accepted: the users are 2 to 8, and the row is the one that the number counts; past it the buffer keeps what it held
  pub decodes : (c : RowCall) → PutsRow c → c.answer.number ≡ 0 → From2To8 c.users × Configures c.users c.number (row_given c)
  pub past_kept : (c : RowCall) → PutsRow c → c.answer.number ≡ 0 → drop c.users c.after ≡ drop c.users c.lent
  -- each row is listed, and has its number, with which it is given
  pub each_listed : (c : RowCall) → PutsRow c → c.answer.number ≡ 0 → Listed c.users (row_given c)
  pub each_given : (users : ℕ) (listed : List ℕ) → From2To8 users → Listed users listed
      → (k : ℕ) × ((c : RowCall) → PutsRow c → c.users ≡ users → c.number ≡ k → users ≤ length c.lent
      → (c.answer ≡ no 0 0 users) × (row_given c ≡ listed))
  -- in the order, and so each once
  pub in_order : (c c' : RowCall) → PutsRow c → PutsRow c' → c.answer.number ≡ 0 → c'.answer.number ≡ 0 → c.users ≡ c'.users
      → c.number < c'.number → Before (row_given c) (row_given c')
  -- encoding undoes decoding, and decoding encoding
  pub encoding_undoes : (c : RowCall) (d : NumberCall) → PutsRow c → GivesNumber d → c.answer.number ≡ 0 → d.row ≡ row_given c
      → d.answer ≡ no 0 0 c.number
  pub decoding_undoes : (d : NumberCall) (c : RowCall) → GivesNumber d → PutsRow c → d.answer.number ≡ 0 → c.users ≡ length d.row
      → c.number ≡ d.answer.place → c.users ≤ length c.lent → (c.answer ≡ no 0 0 c.users) × (row_given c ≡ d.row)
  -- "21, users not 2 to 8, a number past the last row": exactly there
  pub row_refused : (c : RowCall) → PutsRow c → c.answer.number ≡ 21 → From2To8 c.users → (rows : List (List ℕ)) → Counted c.users rows
      → length rows ≤ c.number
  pub refused_row : (c : RowCall) → PutsRow c
      → ((rows : List (List ℕ)) → From2To8 c.users → Counted c.users rows → length rows ≤ c.number) → c.answer ≡ no 21 0 0
  -- "or a row not listed": exactly there
  pub number_refused : (d : NumberCall) → GivesNumber d → d.answer.number ≡ 21 → From2To8 (length d.row)
      → Listed (length d.row) d.row → ⊥
  pub refused_number : (d : NumberCall) → GivesNumber d → (From2To8 (length d.row) → Listed (length d.row) d.row → ⊥)
      → d.answer ≡ no 21 0 0
  -- any two results that are allowed for one input agree
  pub rows_agree : (c c' : RowCall) → PutsRow c → PutsRow c' → c.users ≡ c'.users → c.number ≡ c'.number → c.lent ≡ c'.lent
      → (c.answer ≡ c'.answer) × (c.after ≡ c'.after)
  pub numbers_agree : (d d' : NumberCall) → GivesNumber d → GivesNumber d' → d.row ≡ d'.row → d.answer ≡ d'.answer

-- ---- "streams per station"

-- v is the streams of a User field of 22 bits f, the t-th of the resource x
pub record StreamsOn (x : Record) (t f v : ℕ) : Type 0 where
  -- T-01: "STA-ID 2046 marks a resource that nobody has."
  pub nobodys : station_in f ≡ 2046 → v ≡ 0
  -- alone: one more than NSS, as far as eight; past that not known
  pub alone : station_in f ≢ 2046 → fields_on x < 2 → nss_in f < 8 → v ≡ nss_in f + 1
  pub not_known : station_in f ≢ 2046 → fields_on x < 2 → 8 ≤ nss_in f → v ≡ 0
  -- shared: the t-th entry of the row that the configuration counts, for as many users as the resource has fields
  pub shared : station_in f ≢ 2046 → 2 ≤ fields_on x → (listed : List ℕ) × Configures (fields_on x) (configuration_in f) listed × (v ≡ at listed t)

-- it names no row: "a number past the last row"
pub record NoRow (x : Record) (f : ℕ) : Type 0 where
  pub somebodys : station_in f ≢ 2046
  pub is_shared : 2 ≤ fields_on x
  pub past_last : (rows : List (List ℕ)) → Counted (fields_on x) rows → length rows ≤ configuration_in f

-- the bytes of channel n, 1 or 2
abbrev pub channel_of : Call → ℕ → List ℕ
channel_of c n = cond (eqb n 1) c.channel_1 c.channel_2

-- field j of channel n, of a call's frame, is the t-th field of resource i of the plan o
abbrev pub TheField : Call → (ℕ → ℕ) → ℕ → ℕ → ℕ → ℕ → Type 0
TheField c o i t n j =
    FieldOf o (at (row c.bandwidth c.channel_1 c.channel_2)) (length (row c.bandwidth c.channel_1 c.channel_2)) i t n j

abbrev pub the_resource : Call → (ℕ → ℕ) → ℕ → Record
the_resource c o i = resource_in (records_of o (row c.bandwidth c.channel_1 c.channel_2)) i

-- the number of its word, and so of its byte
abbrev pub byte_of : Call → ℕ → ℕ → ℕ
byte_of c n j = word_of (at (row c.bandwidth c.channel_1 c.channel_2)) (length (row c.bandwidth c.channel_1 c.channel_2)) n j

-- two calls are of one frame
pub record SameChannels (c d : Call) : Type 0 where
  pub bandwidths : c.bandwidth ≡ d.bandwidth
  pub channels_1 : c.channel_1 ≡ d.channel_1
  pub channels_2 : c.channel_2 ≡ d.channel_2

abbrev pub SignalsRow : Call → (ℕ → ℕ) → Type 0
SignalsRow c o =
    Signals o (at (row c.bandwidth c.channel_1 c.channel_2)) 0 (length (row c.bandwidth c.channel_1 c.channel_2))

pub record PerStation : Type 1 where
  -- accepted: one byte for each User field, in the order of the User words, and past them what the buffer held
  pub one_each : (c : Call) → GivesStreams c → c.answer.number ≡ 0 → c.answer ≡ no 0 0 (fields c.bandwidth c.channel_1 c.channel_2)
  pub past_kept : (c : Call) → GivesStreams c → c.answer.number ≡ 0
      → drop (fields c.bandwidth c.channel_1 c.channel_2) c.after ≡ drop (fields c.bandwidth c.channel_1 c.channel_2) c.lent
  -- in every plan that signals the frame's row, which has one with at most eight fields on each resource
  pub a_plan : (c : Call) → GivesStreams c → c.answer.number ≡ 0
      → SomePlanOfEight (row c.bandwidth c.channel_1 c.channel_2) 0 (length (row c.bandwidth c.channel_1 c.channel_2))
  pub the_streams : (c : Call) → GivesStreams c → c.answer.number ≡ 0 → (o : ℕ → ℕ) → SignalsRow c o
      → (i t n j : ℕ) → TheField c o i t n j → StreamsOn (the_resource c o i) t (user c.bandwidth (channel_of c n) j) (at c.after (byte_of c n j))
  -- 21 where a field of a frame that can be read names no row, and only there
  pub refused_21 : (c : Call) → GivesStreams c → c.answer.number ≡ 21 → (o : ℕ → ℕ) → SignalsRow c o
      → (i : ℕ) × (t : ℕ) × (n : ℕ) × (j : ℕ) × TheField c o i t n j × NoRow (the_resource c o i) (user c.bandwidth (channel_of c n) j)
  pub given_21 : (c d : Call) → GivesStreams c → Reads d → SameChannels c d → d.answer.number ≡ 0 → (o : ℕ → ℕ) → SignalsRow c o
      → (i t n j : ℕ) → TheField c o i t n j → NoRow (the_resource c o i) (user c.bandwidth (channel_of c n) j) → c.answer ≡ no 21 0 0
  -- 1 to 11 are the reader's: of the same frame, with room for all words, it gives the same refusal
  pub as_read : (c d : Call) → GivesStreams c → Reads d → SameChannels c d → 154 ≤ length d.lent → d.answer.number ≢ 0 → c.answer ≡ d.answer
  -- any two results that are allowed for one input agree
  pub streams_agree : (c c' : Call) → GivesStreams c → GivesStreams c' → SameChannels c c' → c.lent ≡ c'.lent
      → (c.answer ≡ c'.answer) × (c.after ≡ c'.after)
