-- The subcarriers that the program finds for the resources of an accepted frame are 01's, and the numbers of its User fields have its stations, so
-- what it writes is the frame's listing.
use mathlib.Core.Path.{◌≡◌, sym, ap, ◌∙◌}
use mathlib.Core.List.{List}
use Prim.Native.Nat.{ℕ, ◌+◌, ◌%◌, ◌≤◌, ◌<◌}
use lib.ListN.{length, get_or}
use Rattle.answer.specs.Answer.{Outcome}
use Rattle.std.specs.Prelude.{Ok}
use Rattle.answer.specs.Lists.{Front, filled}
use Rattle.answer.proofs.Lists.{front_filled}
use Rattle.answer.specs.Tally.{tally}
use Rattle.answer.proofs.Tally.{tally_cong}
use Rattle.text.specs.Text.{upto, Wrote}
use Rattle.text.proofs.Laws.{upto_cong}
use Rattle.records.specs.Records.{blank}
use Rattle.channel.specs.Layout.{row, user_of}
use Rattle.channel.proofs.Laws.{row_length}
use Rattle.stations.specs.Stations.{station_of}
use Rattle.stations.specs.Engine.{station_in}
use Rattle.stations.proofs.Gathered.{station_is}
use Rattle.halves.specs.Table.{outcome11}
use Rattle.halves.specs.Engine.{outcome9to11}
use Rattle.halves.proofs.Counts.{count_1, count_2}
use Rattle.both_halves.specs.Engine.{Given, Handed}
use Rattle.both_halves.proofs.Halves.{row_few}
use Rattle.lines.specs.Lines.{assigned, sta_line}
use Rattle.resource_line.specs.ResourceLine.{ru_line}
use Rattle.position_lines.specs.Engine.{runs_line, runs_lines}
use Rattle.listed.specs.Listing.{resources, record_line, ru_lines, owner_in, sta_line_at, sta_lines, stations_in, listing_of, listing}
use Rattle.listed.proofs.Agreed.{agreed}
use Rattle.listing_lines.specs.Engine.{Counted, field_line, fields_listing}

module _ (bw : ℕ) (a b : List ℕ) (e : outcome11 bw a b ≡ Ok tt) where
  lines : runs_lines (length (row bw a b)) (resources (row bw a b)) ≡ ru_lines (length (row bw a b)) (resources (row bw a b))
  unfolding runs_lines ru_lines
  lines =
      let rs = resources (row bw a b) in
      let n = length (row bw a b) in
      upto_cong (λ i. runs_line n (get_or rs i blank)) (λ i. record_line n (get_or rs i blank)) (length rs)
      (λ i l.
      let x = get_or rs i blank in
      ap (ru_line x.segment x.resource (x.fields1 + x.fields2)) (sym (agreed bw a b e i l).tones))

  -- the numbers hold the User fields, m of channel 1 and k of channel 2
  module _ (fields : List ℕ) (m k : ℕ) (h : Front (user_of bw a b m) (m + k) fields) where
    station : (i : ℕ) → i < m + k → station_in fields i ≡ station_of bw a b m i
    unfolding station_in
    station i l = ap (λ (x : ℕ). x % 2048) (h.front i l) ∙ station_is bw a b m i

    stations : tally (λ i. assigned (station_in fields i)) (m + k) ≡ stations_in bw a b m (m + k)
    unfolding stations_in
    stations =
        tally_cong (λ i. assigned (station_in fields i)) (λ i. assigned (station_of bw a b m i)) (m + k) (λ i l. ap assigned (station i l))

    sta_lines_lem : upto (field_line (row bw a b) fields m) (m + k) ≡ sta_lines bw (row bw a b) a b m (m + k)
    unfolding field_line sta_lines sta_line_at
    sta_lines_lem =
        let r = row bw a b in
        upto_cong (field_line r fields m) (sta_line_at bw r a b m) (m + k) (λ i l. ap (λ (x : ℕ). sta_line x (owner_in r m i + 1)) (station i l))

    pub shown : {r c : List ℕ} → Given bw a b r c m k → fields_listing bw r fields m k ≡ listing bw a b
    unfolding fields_listing listing listing_of
    shown g = rw (g.the_row, stations, lines, sta_lines_lem, g.count1, g.count2)

-- of a frame that passes 1 to 8, whose second half has told o and left the numbers of the fields
module _ {bw : ℕ} {a b r c : List ℕ} {m k : ℕ} (h : Handed bw a b r c m k) where
  pub few : length r ≤ 16
  few = row_few h.known h.given

  pub counted : Counted r m k
  counted =
      let l = h.known in
      let n = row_length bw a b in
      rw h.given.the_row
      record {
        first = rw n (h.given.count1 ∙ count_1 bw a b l);
        second = rw n (h.given.count2 ∙ count_2 bw a b l);
      }

  pub told : {o p : Outcome} → o ≡ outcome9to11 bw a b → o ≡ p → outcome11 bw a b ≡ p
  told e f = h.rest ∙ sym e ∙ f

  pub written : (w : List ℕ) {o : Outcome} {v d t : List ℕ} {n : ℕ} → o ≡ outcome9to11 bw a b → o ≡ Ok tt → v ≡ filled (user_of bw a b m) (m + k) w
      → Wrote d 0 (fields_listing bw r v m k) t n → Wrote d 0 (listing bw a b) t n
  written w {v = v} e f g x =
      let y = shown bw a b (told e f) v m k (front_filled (user_of bw a b m) (m + k) w v g) h.given in
      rw y at x
