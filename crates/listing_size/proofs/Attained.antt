-- The longest listing of all accepted frames, at each bandwidth: none has more bytes (`Longest.antt`), and this frame's has as many.
use mathlib.Core.Path.{◌≡◌, refl, sym, ap, ap₂, ◌∙◌, fun_ext, subst}
use mathlib.Core.Bool.{Bool, true, false, cond, ◌&&◌, false≢true}
use mathlib.Core.List.{List, [], ◌∷◌, ◌++◌}
use Prim.Native.Nat.{ℕ, zero, suc, ◌+◌, ◌-◌, ◌*◌, ◌/◌, ◌%◌, ◌^◌, ◌<◌}
use native.Mathlib.Omega.{arith}
use lib.Dec.{T, ltb, eqb, ltb→lt}
use lib.ListN.{length, get_or, replicate}
use Rattle.answer.specs.Answer.{◌or◌}
use Rattle.answer.specs.Order.{first_of}
use Rattle.answer.specs.Least.{least}
use Rattle.answer.specs.Lists.{build, at}
use Rattle.answer.specs.Answer.{Outcome}
use Rattle.std.specs.Prelude.{Ok}
use Rattle.answer.proofs.Order.{pass_left, pass_right}
use Rattle.bits.specs.Bits.{bit, field, differs, Small}
use Rattle.block.specs.Check.{step, register, sent, check, right}
use Rattle.resource.specs.Values.{carried, pieces, fields_of, divides, piece_fields, own_pieces, smaller_at}
use Rattle.resource.specs.Index.{index_of, resource_at, position_of, place_of}
use Rattle.resource.specs.Tones.{tones_at, tones_of}
use Rattle.resource.proofs.Test.{both_left, both_right, at_each}
use Rattle.kinds.specs.Signals.{Signals, smaller}
use Rattle.kinds.specs.Fields.{Eight, gives, share, fields_in}
use Rattle.kinds.specs.Kinds.{kinds, kind_at, family, span, mask, takes, takes_block, blank_at, must_name}
use Rattle.kinds.specs.Engine.{sought, kind_of, name_of}
use Rattle.segments.specs.Engine.{or_else, tells, choose, segment_plan}
use Rattle.plan.specs.Answers.{NarrowRow, accepted}
use Rattle.plan.specs.Engine.{only_plan}
use Rattle.plan.specs.Worked.{outcome7, outcome8}
use Rattle.plan.proofs.Narrow.{by_segment}
use Rattle.plan.proofs.Worked.{worked}
use Rattle.records.specs.Records.{list_at, records_of}
use Rattle.records.specs.Engine.{owner_at, owner_of}
use Rattle.channel.specs.Layout.{positions, present, firsts, seconds, first_bits, second_at, second_bits, has_second, common, subfields, subfields_in}
use Rattle.channel.specs.Layout.{value_at, value, row_at, row, total, count, user_at, block_at, blocks, covered, end_of}
use Rattle.faults.specs.Checks.{too_long, cut_common, wrong_first, wrong_second, wrong_common, overflow_differs, uncarried, first_uncarried, not_carried}
use Rattle.faults.specs.Checks.{cut_users, wrong_block, first_wrong, wrong_users_of, wrong_users}
use Rattle.stations.specs.Stations.{station_of, first_repeated, station_twice}
use Rattle.halves.specs.Table.{check1, check2, check3, check4, check5, check6, check7, check8, check9, check10, check11, outcome11}
use Rattle.text.specs.Text.{dec, signed, upto}
use Rattle.resource_line.specs.ResourceLine.{name_text, comma, tones_text, ru_name, ru_head, ru_line}
use Rattle.lines.specs.Lines.{id_text, sta_line, head_text}
use Rattle.listed.specs.Listing.{ru_lines, owner_in, sta_line_at, sta_lines, stations_in, listing_of, listing}
use Rattle.listing_size.proofs.Longest.{longest, longest_most, longest_is}
use Rattle.listing_size.specs.Longest.{Longest, longest_at}

-- ---- a row of zeros gives each position to itself, which is a plan of it without a larger resource
abbrev zeros : ℕ → List ℕ
zeros n = replicate n 0

at_zeros : (n p : ℕ) → at (zeros n) p ≡ 0
at_zeros zero p = refl
at_zeros (suc n) zero = refl
at_zeros (suc n) (suc p) = at_zeros n p

all_zeros : (n : ℕ) → at (zeros n) ≡ (λ p. 0)
all_zeros n = fun_ext (at_zeros n)

zeros_narrow : (n : ℕ) → NarrowRow (zeros n)
zeros_narrow n p l = rw (at_zeros n p) (λ e. omega arith, omega arith)

zeros_plan : (n : ℕ) → only_plan (at (zeros n)) ≡ (λ p. 0)
unfolding segment_plan choose tells or_else name_of kind_of sought must_name blank_at takes_block takes mask span family kind_at kinds least
zeros_plan n = fun_ext (λ p. sym (by_segment (zeros n) (zeros_narrow n) p) ∙ ap (λ (r : ℕ → ℕ). segment_plan r p) (all_zeros n))

-- what it signals
zeros_signals : (n : ℕ) → Signals (λ p. 0) (λ p. 0) 0 n
unfolding smaller_at must_name mask span kind_at kinds
zeros_signals n = record {
  fits = λ p l m. smaller (refl, refl);
  entire = λ p q l m e. (omega arith, omega (arith, e.0), refl);
  named = λ p l m e. absurd (false≢true e);
}

-- no position gives a larger resource a field
none_shared : (x p : ℕ) → fields_in x 0 (λ p. 0) p ≡ 0
unfolding fields_in share gives takes mask span family kind_at kinds fields_of pieces
none_shared x p = let q = 1 * (p / 1) + 0 in go (eqb (q % 2 + 1) x) (takes 0 (q % 1))
  where
    go : (s t : Bool) → 0 + cond s (cond (t && false) 9 0) 0 ≡ 0
    go true true = omega arith
    go true false = omega arith
    go false t = omega arith

zeros_pass : (n : ℕ) → outcome7 (zeros n) or outcome8 (zeros n) ≡ Ok tt
zeros_pass n =
    let s = subst (λ (r : ℕ → ℕ). Signals (λ p. 0) r 0 (length (zeros n))) (sym (all_zeros n)) (zeros_signals (length (zeros n))) in
    let e = subst (λ (r : ℕ → ℕ). Eight (λ p. 0) r 0 (length (zeros n))) (sym (all_zeros n))
    (λ p l m. omega (arith, none_shared 1 p, none_shared 2 p)) in
    sym ((worked (zeros n)).only_laid (Ok tt) (accepted (λ p. 0, s, e)))

-- ---- frames whose values are all 0, with 0 for the overflow, STA-ID 2047, which may repeat, and 0 for the rest of each User field
-- four User blocks are 27 bytes
times : ℕ → List ℕ → List ℕ
times zero blocks = []
times (suc n) blocks = blocks ++ times n blocks

-- the channel of a bandwidth: the bytes in which the common field ends, then the User blocks, whole fours of them from 80 MHz on; what
-- follows the last is padding
channel : ℕ → List ℕ
channel bw =
    get_or
    ((0 ∷ 0 ∷ 0 ∷ 40 ∷ 240 ∷ 127 ∷ 0 ∷ 252 ∷ 31 ∷ 0 ∷ 13 ∷ 252 ∷ 31 ∷ 0 ∷ 255 ∷ 7 ∷ 64 ∷ 3 ∷ 255 ∷ 7 ∷ 192 ∷ 255 ∷ 1 ∷ 208
    ∷ 192 ∷ 255 ∷ 1 ∷ 240 ∷ 127 ∷ 0 ∷ 52 ∷ 240 ∷ 127 ∷ 0 ∷ 20 ∷ 0 ∷ [])
    ∷ (0 ∷ 0 ∷ 0 ∷ 40 ∷ 240 ∷ 127 ∷ 0 ∷ 252 ∷ 31 ∷ 0 ∷ 13 ∷ 252 ∷ 31 ∷ 0 ∷ 255 ∷ 7 ∷ 64 ∷ 3 ∷ 255 ∷ 7 ∷ 192 ∷ 255 ∷ 1 ∷ 208
    ∷ 192 ∷ 255 ∷ 1 ∷ 240 ∷ 127 ∷ 0 ∷ 52 ∷ 240 ∷ 127 ∷ 0 ∷ 20 ∷ 0 ∷ [])
    ∷ ((0 ∷ 0 ∷ 0 ∷ 0 ∷ 48 ∷ 224 ∷ [])
    ++ times 9 (255 ∷ 0 ∷ 248 ∷ 63 ∷ 0 ∷ 26 ∷ 248 ∷ 63 ∷ 0 ∷ 254 ∷ 15 ∷ 128 ∷ 6 ∷ 254 ∷ 15 ∷ 128 ∷ 255 ∷ 3 ∷ 160 ∷ 129
    ∷ 255 ∷ 3 ∷ 224 ∷ 255 ∷ 0 ∷ 104 ∷ 224 ∷ []))
    ∷ ((0 ∷ 0 ∷ 0 ∷ 0 ∷ 48 ∷ 0 ∷ 0 ∷ 128 ∷ 2 ∷ 254 ∷ [])
    ++ times 9 (15 ∷ 128 ∷ 255 ∷ 3 ∷ 160 ∷ 129 ∷ 255 ∷ 3 ∷ 224 ∷ 255 ∷ 0 ∷ 104 ∷ 224 ∷ 255 ∷ 0 ∷ 248 ∷ 63 ∷ 0 ∷ 26 ∷ 248
    ∷ 63 ∷ 0 ∷ 254 ∷ 15 ∷ 128 ∷ 6 ∷ 254 ∷ []))
    ∷ ((0 ∷ 0 ∷ 0 ∷ 0 ∷ 48 ∷ 0 ∷ 0 ∷ 0 ∷ 0 ∷ 0 ∷ 0 ∷ 0 ∷ 56 ∷ 224 ∷ [])
    ++ times 9 (255 ∷ 0 ∷ 248 ∷ 63 ∷ 0 ∷ 26 ∷ 248 ∷ 63 ∷ 0 ∷ 254 ∷ 15 ∷ 128 ∷ 6 ∷ 254 ∷ 15 ∷ 128 ∷ 255 ∷ 3 ∷ 160 ∷ 129
    ∷ 255 ∷ 3 ∷ 224 ∷ 255 ∷ 0 ∷ 104 ∷ 224 ∷ []))
    ∷ [])
    bw []

-- "At 20 MHz channel 2 is lent empty"
second : ℕ → List ℕ
second bw = cond (ltb 0 bw) (channel bw) []

zero_row : (bw : ℕ) → bw < 5 → row bw (channel bw) (second bw) ≡ zeros (2 ^ bw)
unfolding times channel second positions row build row_at value value_at firsts seconds second_at first_bits second_bits field bit present
    subfields_in subfields common has_second
zero_row zero l = refl
zero_row (suc zero) l = refl
zero_row (suc (suc zero)) l = refl
zero_row (suc (suc (suc zero))) l = refl
zero_row (suc (suc (suc (suc zero)))) l = refl
zero_row (suc (suc (suc (suc (suc bw))))) l = absurd (omega arith)

-- 1 to 11, with 7 and 8 at hand
abbrev checks_with : ℕ → Outcome → Outcome → Outcome
checks_with bw seventh eighth =
    let a = channel bw in
    let b = second bw in
    first_of
    (check1 bw ∷ check2 bw a b ∷ check3 bw a b ∷ check4 bw a b ∷ check5 bw a b ∷ check6 bw a b ∷ seventh ∷ eighth
    ∷ check9 bw a b ∷ check10 bw a b ∷ check11 bw a b ∷ [])

others_pass : (bw : ℕ) → bw < 5 → checks_with bw (Ok tt) (Ok tt) ≡ Ok tt
unfolding times channel second count total present subfields_in subfields fields_of pieces carried positions row build row_at value value_at
    firsts seconds second_at first_bits second_bits field bit wrong_users wrong_users_of first_wrong wrong_block least blocks block_at covered
    common has_second right check sent register step check1 check2 check3 check4 check5 check6 check9 check10 check11 too_long cut_common
    wrong_first wrong_second wrong_common overflow_differs differs uncarried first_uncarried not_carried cut_users end_of user_at first_repeated
    station_twice first_of
others_pass zero l = refl
others_pass (suc zero) l = refl
others_pass (suc (suc zero)) l = refl
others_pass (suc (suc (suc zero))) l = refl
others_pass (suc (suc (suc (suc zero)))) l = refl
others_pass (suc (suc (suc (suc (suc bw))))) l = absurd (omega arith)

is_accepted : (bw : ℕ) → bw < 5 → outcome11 bw (channel bw) (second bw) ≡ Ok tt
unfolding outcome11 check7 check8
is_accepted bw l =
    let n = 2 ^ bw in
    ap (λ (r : List ℕ). checks_with bw (outcome7 r) (outcome8 r)) (zero_row bw l)
    ∙ ap₂ (checks_with bw) (pass_left (outcome7 (zeros n)) _ (zeros_pass n)) (pass_right (outcome7 (zeros n)) _ (zeros_pass n))
    ∙ others_pass bw l

-- the listing, with the plan o of the row r at hand
abbrev listing_with : ℕ → List ℕ → (ℕ → ℕ) → List ℕ
listing_with bw r o =
    let a = channel bw in
    let b = second bw in
    let m = count bw 1 a in
    let k = count bw 2 b in
    head_text bw (length (records_of o r)) m k (stations_in bw a b m (m + k))
    ++ ru_lines (length r) (records_of o r)
    ++ upto (λ i. sta_line (station_of bw a b m i) (cond (ltb i m) (owner_of o (at r) 1 (length r) i) (owner_of o (at r) 2 (length r) (i - m)) + 1)) (m + k)

zeros_long : (bw : ℕ) → bw < 5 → length (listing_with bw (zeros (2 ^ bw)) (λ p. 0)) ≡ longest (2 ^ bw)
unfolding times channel second count total present subfields_in subfields fields_of pieces carried positions row build row_at value value_at
    firsts seconds second_at first_bits second_bits field bit common has_second user_at span kind_at kinds dec signed upto own_pieces index_of
    resource_at position_of place_of tones_at tones_of divides piece_fields list_at owner_at owner_of name_text comma tones_text ru_name ru_head ru_line
    id_text sta_line head_text ru_lines stations_in longest
zeros_long zero l = refl
zeros_long (suc zero) l = refl
zeros_long (suc (suc zero)) l = refl
zeros_long (suc (suc (suc zero))) l = refl
zeros_long (suc (suc (suc (suc zero)))) l = refl
zeros_long (suc (suc (suc (suc (suc bw))))) l = absurd (omega arith)

as_long : (bw : ℕ) → bw < 5 → length (listing bw (channel bw) (second bw)) ≡ longest (2 ^ bw)
unfolding listing listing_of sta_lines sta_line_at owner_in
as_long bw l =
    ap (λ (r : List ℕ). length (listing_with bw r (only_plan (at r)))) (zero_row bw l)
    ∙ ap (λ (o : ℕ → ℕ). length (listing_with bw (zeros (2 ^ bw)) o)) (zeros_plan (2 ^ bw))
    ∙ zeros_long bw l

-- every element is a byte
abbrev are_bytes : List ℕ → Bool
are_bytes = at_each (λ x. ltb x 256)

small_of : (s : List ℕ) → T (are_bytes s) → Small s
small_of s t = record { small = go s t }
  where
    go : (s : List ℕ) → T (are_bytes s) → (k : ℕ) → get_or s k 0 < 256
    go [] t k = omega arith
    go (x ∷ s) t zero = ltb→lt x 256 (both_left (ltb x 256) (are_bytes s) t)
    go (x ∷ s) t (suc k) = go s (both_right (ltb x 256) (are_bytes s) t) k

of_bytes : (bw : ℕ) → bw < 5 → T (are_bytes (channel bw)) × T (are_bytes (second bw))
unfolding times channel second
of_bytes zero l = (tt, tt)
of_bytes (suc zero) l = (tt, tt)
of_bytes (suc (suc zero)) l = (tt, tt)
of_bytes (suc (suc (suc zero))) l = (tt, tt)
of_bytes (suc (suc (suc (suc zero)))) l = (tt, tt)
of_bytes (suc (suc (suc (suc (suc bw))))) l = absurd (omega arith)

pub longest_listing : (bw : ℕ) → bw < 5 → Longest bw (longest_at bw)
longest_listing bw l =
    subst (Longest bw) (longest_is bw l)
    (record {
      most = longest_most bw;
      attained = (channel bw, second bw, small_of (channel bw) (of_bytes bw l).0, small_of (second bw) (of_bytes bw l).1, is_accepted bw l, as_long bw l);
    })
