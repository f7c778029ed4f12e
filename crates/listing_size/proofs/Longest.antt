-- The most bytes that a listing can have, at each bandwidth: the row of zeros has the longest, for no position is charged more
-- (`Charged.antt`) and no count in the lines before the resources is larger. So the program's text has at most 10,131 bytes.
use mathlib.Core.Path.{◌≡◌, refl, sym, ap, ◌∙◌, subst}
use mathlib.Core.Bool.{Bool, true, false, cond}
use mathlib.Core.List.{List, [], ◌∷◌, ◌++◌}
use Prim.Native.Nat.{ℕ, zero, suc, ◌+◌, ◌-◌, ◌*◌, ◌%◌, ◌^◌, ◌≤◌, ◌<◌}
use native.Mathlib.Omega.{arith}
use lib.Dec.{ltb, leb, eqb, leb→le}
use lib.ListN.{length, get_or, length-append}
use Rattle.answer.specs.Answer.{Outcome}
use Rattle.std.specs.Prelude.{Ok, Err}
use Rattle.answer.specs.Lists.{build, at}
use Rattle.answer.proofs.Lists.{get_d_build}
use Rattle.answer.proofs.Tally.{tally_le}
use Rattle.answer.specs.Answer.{answer_of}
use Rattle.bits.proofs.Fields.{field_lt}
use Rattle.resource.specs.Index.{index_of, resource_at, position_of, place_of}
use Rattle.resource.specs.Tones.{tones_at, tones_of}
use Rattle.resource.specs.Values.{carried, pieces, fields_of, divides, piece_fields, own_pieces}
use Rattle.resource.proofs.Test.{every_below}
use Rattle.resource.proofs.Fields.{fields_most}
use Rattle.kinds.specs.Signals.{Signals}
use Rattle.plan.specs.Engine.{only_plan}
use Rattle.records.specs.Records.{list_at}
use Rattle.records.specs.Owns.{fields_before}
use Rattle.records.proofs.Sums.{sum_to}
use Rattle.records.proofs.Listing.{records_most}
use Rattle.records.proofs.Owners.{in_most}
use Rattle.channel.specs.Layout.{positions, row, user_at}
use Rattle.channel.proofs.Laws.{positions_le, row_length}
use Rattle.stations.specs.Stations.{station_at, station_of}
use Rattle.halves.specs.Table.{outcome11}
use Rattle.text.specs.Text.{dec, signed, upto, Wrote}
use Rattle.text.proofs.Laws.{count as written, dec_short}
use Rattle.input.specs.Worked.{Said, wrong, frame, said}
use Rattle.resource_line.specs.ResourceLine.{name_text, comma, tones_text, ru_name, ru_head, ru_line}
use Rattle.lines.specs.Lines.{assigned, refusal_text, head_text}
use Rattle.listed.specs.Listing.{resources, ru_lines, owner_in, sta_line_at, sta_lines, stations_in, listing_of}
use Rattle.listed.specs.Listing.{listing, outcome_text, frame_text, said_text, program_text}
use Rattle.both_halves.proofs.Accepted.{known_code, accepted_signals}
use Rattle.listed.proofs.Stations.{fields_1, fields_2}
use Rattle.listing_size.specs.Longest.{longest_at}
use Rattle.listed.proofs.ByPosition.{sum_most, owners_sum}
use Rattle.listing_size.proofs.Lengths.{upto_sum, head_most, head_most_lem, sizes, lines_sizes, sizes_positions}
use Rattle.listing_size.proofs.Charged.{sta_most, sta_most_lem, stas, most, positions_charge}

-- ---- the counts of the head
fields_zeros : (c : ℕ) (row : ℕ → ℕ) (n : ℕ) → fields_before c row n ≤ fields_before c (λ p. 0) n
unfolding fields_of pieces
fields_zeros c row zero = omega arith
fields_zeros c row (suc n) = go (eqb (n % 2 + 1) c) (fields_zeros c row n)
  where
    go : (t : Bool) → fields_before c row n ≤ fields_before c (λ p. 0) n
        → fields_before c row n + cond t (fields_of (row n)) 0 ≤ fields_before c (λ p. 0) n + cond t 9 0
    go true h = omega (arith, fields_most (row n))
    go false h = omega arith

fields_nine : (c : ℕ) (row : ℕ → ℕ) (n : ℕ) → fields_before c row n ≤ 9 * n
fields_nine c row zero = omega arith
fields_nine c row (suc n) = omega (arith, fields_nine c row n, in_most c n (fields_of (row n)), fields_most (row n))

-- ---- the longest listing of n positions
unfoldable pub longest : ℕ → ℕ
longest n = head_most (9 * n) (fields_before 1 (λ p. 0) n) (fields_before 2 (λ p. 0) n) + sum_to (λ p. most n p 0) n

-- the lines of the stations of a row, whose STA-IDs have eleven bits
module _ (bw : ℕ) (r a b : List ℕ) where
  abbrev first : ℕ
  first = fields_before 1 (at r) (length r)

  abbrev second : ℕ
  second = fields_before 2 (at r) (length r)

  line_most : (i : ℕ) → length (sta_line_at bw r a b first i) ≤ sta_most (owner_in r first i)
  unfolding sta_line_at
  line_most i = sta_most_lem (station_of bw a b first i) (owner_in r first i) (go (ltb i first))
    where
      go : (t : Bool) → cond t (station_at bw a i) (station_at bw b (i - first)) < 2048
      go true = field_lt a (user_at bw i) 11
      go false = field_lt b (user_at bw (i - first)) 11

  stations_most : length (sta_lines bw r a b first (first + second)) ≤ sum_to (stas (only_plan (at r)) (at r)) (length r)
  unfolding sta_lines
  stations_most =
      omega (
        arith,
        upto_sum (sta_line_at bw r a b first) (first + second),
        sum_most (λ i. length (sta_line_at bw r a b first i)) (λ i. sta_most (owner_in r first i)) (first + second) (λ i l. line_most i),
        owners_sum sta_most r,
      )

  row_most : bw < 5 → length r ≡ 2 ^ bw → Signals (only_plan (at r)) (at r) 0 (length r) → length (listing_of bw r a b first second) ≤ longest (length r)
  unfolding listing_of stations_in longest positions
  row_most h e s =
      let o = only_plan (at r) in
      let n = length r in
      let few : n ≤ 16 = omega (arith, positions_le bw (omega arith)) in
      let stations = stations_in bw a b first (first + second) in
      let head_text_here = head_text bw (length (resources r)) first second stations in
      let ru_text = ru_lines n (resources r) in
      let sta_text = sta_lines bw r a b first (first + second) in
      let most_1 = fields_before 1 (λ p. 0) n in
      let most_2 = fields_before 2 (λ p. 0) n in
      let hd : length head_text_here ≤ head_most (9 * n) most_1 most_2 =
      head_most_lem bw (length (resources r)) first second stations (9 * n) most_1 most_2 (omega arith)
      (records_most o (at r) n) (fields_zeros 1 (at r) n) (fields_zeros 2 (at r) n)
      (tally_le (λ i. assigned (station_of bw a b first i)) (first + second)) (omega arith)
      (omega (arith, fields_nine 1 (λ p. 0) n)) (omega (arith, fields_nine 2 (λ p. 0) n)) in
      let ru : length ru_text ≡ sum_to (λ p. sizes n (list_at (o p) (at r) p)) n = lines_sizes n (resources r) ∙ sizes_positions o (at r) n n in
      let all : sum_to (λ p. sizes n (list_at (o p) (at r) p)) n + sum_to (stas o (at r)) n ≤ sum_to (λ p. most n p 0) n =
      subst (λ (m : ℕ).
      Signals o (at r) 0 m → sum_to (λ p. sizes m (list_at (o p) (at r) p)) m + sum_to (stas o (at r)) m ≤ sum_to (λ p. most m p 0) m)
      (sym e) (positions_charge o (at r) bw h) s in
      let both : length (listing_of bw r a b first second) ≡ length head_text_here + length ru_text + length sta_text =
      length-append (head_text_here ++ ru_text) sta_text ∙ ap (λ (m : ℕ). m + length sta_text) (length-append head_text_here ru_text) in
      omega (arith, both, hd, ru, all, stations_most)

-- ---- the listing of an accepted frame, at every bandwidth
pub longest_most : (bw : ℕ) (a b : List ℕ) → outcome11 bw a b ≡ Ok tt → length (listing bw a b) ≤ longest (2 ^ bw)
unfolding listing positions
longest_most bw a b e =
    let l : bw ≤ 4 = known_code bw a b e in
    rw (← fields_1 bw a b l, ← fields_2 bw a b l, ← row_length bw a b)
    (row_most bw (row bw a b) a b (omega arith) (row_length bw a b) (accepted_signals bw a b e))

pub longest_table : build (λ b. longest (2 ^ b)) 5 ≡ 649 ∷ 1267 ∷ 2513 ∷ 4990 ∷ 10131 ∷ []
unfolding build longest dec signed upto carried pieces fields_of own_pieces index_of resource_at position_of place_of tones_at tones_of divides
    piece_fields name_text comma tones_text ru_name ru_head ru_line
longest_table = refl

pub longest_is : (bw : ℕ) → bw < 5 → longest (2 ^ bw) ≡ longest_at bw
unfolding longest_at
longest_is bw l = sym (get_d_build (λ b. longest (2 ^ b)) 5 bw 0 l) ∙ ap (λ (w : List ℕ). get_or w bw 0) longest_table

pub listing_within : (bw : ℕ) (a b : List ℕ) → outcome11 bw a b ≡ Ok tt → length (listing bw a b) ≤ longest_at bw
listing_within bw a b e = omega (arith, longest_most bw a b e, longest_is bw (omega (arith, known_code bw a b e)))

-- so at most 10,131 bytes
pub listing_most : (bw : ℕ) (a b : List ℕ) → outcome11 bw a b ≡ Ok tt → length (listing bw a b) ≤ 10131
unfolding longest dec signed upto carried pieces fields_of own_pieces index_of resource_at position_of place_of tones_at tones_of divides
    piece_fields name_text comma tones_text ru_name ru_head ru_line
listing_most bw a b e =
    let h : longest (2 ^ bw) ≤ 10131 =
    leb→le (longest (2 ^ bw)) 10131 (every_below (λ b. leb (longest (2 ^ b)) 10131) 5 tt bw (omega (arith, known_code bw a b e))) in
    omega (arith, longest_most bw a b e)

-- ---- the program's text: a refusal's three lines are shorter
refusal_short : (number channel place : ℕ) → length (refusal_text number channel place) ≤ 84
unfolding refusal_text
refusal_short number channel place = simp length-append (omega (arith, dec_short number, dec_short channel, dec_short place))

frame_most : (bw : ℕ) (a b : List ℕ) → length (frame_text bw a b) ≤ 10131
unfolding frame_text
frame_most bw a b = go (outcome11 bw a b) refl
  where
    go : (o : Outcome) → outcome11 bw a b ≡ o → length (outcome_text o (listing bw a b)) ≤ 10131
    go (Ok u) e = listing_most bw a b e
    go (Err x) e = omega (arith, refusal_short (answer_of x).number (answer_of x).channel (answer_of x).place)

pub program_most : (s : List ℕ) → length (program_text s) ≤ 10131
unfolding program_text
program_most s = go (said s)
  where
    go : (x : Said) → length (said_text x) ≤ 10131
    go (wrong k) = omega (arith, refusal_short 22 0 k)
    go (frame bw a b) = frame_most bw a b

-- which is how many bytes `responding::respond` says it wrote
pub respond_most : {d e : List ℕ} {r : ℕ} (s : List ℕ) → Wrote d 0 (program_text s) e r → r ≤ 10131
respond_most s w = omega (arith, written w, program_most s)
