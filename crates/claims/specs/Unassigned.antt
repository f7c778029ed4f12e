-- 02, T-01: "STA-ID 2046 marks a resource that nobody has. .. It keeps its User field, its word and its share of the eight, but stations=
-- leaves it out and its line has none for the number, resource= staying."
--
-- Calls of `listing::list`, `brachymel_list` and `responding::respond` are `Calls.antt`'s: all that their contracts allow. That the field, its word
-- and its share are kept is the second and the third demand, which know no STA-ID apart from the others.
use Rattle.std.specs.Prelude.{◌≡◌, List, ◌++◌, ℕ, ◌+◌, ◌≤◌, ◌<◌, length, take, get_or}
use Rattle.std.specs.Prelude.{Ok}
use Rattle.channel.specs.Layout.{row, count}
use Rattle.records.specs.Records.{blank}
use Rattle.halves.specs.Table.{outcome11}
use Rattle.text.specs.Text.{codes, upto}
use Rattle.input.specs.Worked.{frame, said}
use Rattle.text.specs.Text.{line}
use Rattle.listed.specs.Listing.{resources, record_line, sta_line_at, stations_in}
use Rattle.listed.specs.Stations.{Station, Counted}
use Rattle.claims.specs.Calls.{Call, TextCall, Lists, CLists, Responds}

-- a text that lists the channels a and b, whose row is r, with m User fields in channel 1 and k in channel 2
pub record Says (bw : ℕ) (a b r : List ℕ) (m k : ℕ) (text : List ℕ) : Type 0 where
  -- line by line: fields1= and fields2= are all User fields, and each has a `sta=` line
  pub lines : text
      ≡ line (codes "answer=") 0
      ++ line (codes "bw=") bw
      ++ line (codes "resources=") (length (resources r))
      ++ line (codes "fields1=") m
      ++ line (codes "fields2=") k
      ++ line (codes "stations=") (stations_in bw a b m (m + k))
      ++ upto (λ i. record_line (length r) (get_or (resources r) i blank)) (length (resources r))
      ++ upto (sta_line_at bw r a b m) (m + k)
  -- stations= is the number of User words with another STA-ID, and with the `sta=none` lines it is fields1= and fields2= together
  pub counted : Counted bw a b r m k
  -- the i-th `sta=` line has none exactly where the i-th User word's STA-ID is 2046, else that number, and names the one resource that owns the field
  pub station : (i : ℕ) → i < m + k → Station bw a b r m i

-- of the frame in the channels a and b
abbrev pub Listed : ℕ → List ℕ → List ℕ → List ℕ → Type 0
Listed bw a b text = Says bw a b (row bw a b) (count bw 1 a) (count bw 2 b) text

pub record Unassigned : Type 1 where
  -- what an accepted call wrote
  pub list_says : (c : Call) → Lists c → c.answer.number ≡ 0
      → Listed c.bandwidth c.channel_1 c.channel_2 (take c.answer.place c.after)
  pub c_list_says : (c : Call) → CLists c → c.answer.number ≡ 0
      → Listed c.bandwidth c.channel_1 c.channel_2 (take c.answer.place c.after)
  -- what the program writes for the three lines of a frame that passes 1 to 11
  pub program_says : (c : TextCall) → Responds c → (bw : ℕ) (a b : List ℕ) → said c.text ≡ frame bw a b → outcome11 bw a b ≡ Ok tt
      → c.bytes ≤ length c.lent → Listed bw a b (take c.bytes c.after)
