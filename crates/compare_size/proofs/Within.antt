-- The size that always suffices for the text of a comparison (02, T-06), of any two frames.
--
-- Of two accepted ones of 320 MHz: 16 positions of at most 1,758 bytes, one with the other (`Charges.antt`; a wider resource spreads its line over two
-- of its places, `Owing.antt`), 14 lines of the overflow of at most 27, and 32 of values of at most 30.
use mathlib.Core.Path.{◌≡◌, refl, ap, ◌∙◌, subst}
use mathlib.Core.Bool.{Bool, true, false, cond, not}
use mathlib.Core.List.{List, [], ◌∷◌, ◌++◌}
use Prim.Native.Nat.{ℕ, ◌+◌, ◌*◌, ◌^◌, ◌≤◌, ◌<◌}
use native.Mathlib.Omega.{arith}
use lib.Dec.{eqb}
use lib.ListN.{length, get_or, length-append}
use borrow.Author.Tests.{eqb-true}
use Rattle.answer.specs.Answer.{Outcome}
use Rattle.std.specs.Prelude.{Ok, Err}
use Rattle.answer.specs.Lists.{at}
use Rattle.answer.specs.Answer.{answer_of}
use Rattle.kinds.specs.Signals.{Signals}
use Rattle.plan.specs.Engine.{only_plan}
use Rattle.records.specs.declared.Record.{Record}
use Rattle.records.specs.Records.{records_from, blank}
use Rattle.records.proofs.Sums.{sum_to}
use Rattle.channel.specs.Layout.{positions, overflow, row, count}
use Rattle.channel.proofs.Laws.{positions_le, row_length, row_at_lem, row_lt, count_le}
use Rattle.halves.specs.Table.{outcome11}
use Rattle.both_halves.proofs.Accepted.{known_code, accepted_signals}
use Rattle.listed.specs.Listing.{owner_in}
use Rattle.listed.proofs.Stations.{fields_1, fields_2}
use Rattle.listed.proofs.ByPosition.{owners_sum}
use Rattle.compared.specs.Reading.{refused_with, bandwidth_is, Reading, reading_of, has_same, tells}
use Rattle.compared.specs.Differences.{Difference, by, overflow_item, value_item, user_item, resource_item, overflow_turns, value_turns}
use Rattle.compared.specs.Differences.{resource_items, user_turns, all_said, differs, keep, differences, refused_by, judged_both}
use Rattle.compared.specs.Differences.{comparison}
use Rattle.compared.specs.Text.{difference_line, difference_lines, comparison_text}
use Rattle.compare_size.specs.Size.{compare_size}
use Rattle.compare_size.proofs.LineLengths.{overflow_low, refused_most, bandwidth_most, overflow_most, value_most, user_most}
use Rattle.compare_size.proofs.LineLengths.{kept_both, turns_sum, turns_most}
use Rattle.compare_size.proofs.ResourceLengths.{name_length}
use Rattle.compare_size.proofs.Charges.{lines_only, only_here, user_length, users_here, only_positions, positions_charge}

-- ---- an accepted frame: the value at each position, and to what its plan gives it
abbrev row_of : ℕ → List ℕ → List ℕ → ℕ → ℕ
row_of bw a b = at (row bw a b)

abbrev plan_of : ℕ → List ℕ → List ℕ → ℕ → ℕ
plan_of bw a b = only_plan (row_of bw a b)

module _ (bw : ℕ) (a b : List ℕ) (e : outcome11 bw a b ≡ Ok tt) where
  row_power : length (row bw a b) ≡ 2 ^ bw
  unfolding positions
  row_power = row_length bw a b

  few : 2 ^ bw ≤ 16
  unfolding positions
  few = positions_le bw (known_code bw a b e)

  signals_power : Signals (plan_of bw a b) (row_of bw a b) 0 (2 ^ bw)
  signals_power = subst (λ (n : ℕ). Signals (plan_of bw a b) (row_of bw a b) 0 n) row_power (accepted_signals bw a b e)

  plan_power : (reading_of bw a b).plan ≡ records_from (plan_of bw a b) (row_of bw a b) (2 ^ bw)
  unfolding reading_of
  plan_power = ap (records_from (plan_of bw a b) (row_of bw a b)) row_power

  -- the lines of its resources, position by position
  resources_sum : (s : ℕ) (t : Difference → Bool) → length (difference_lines (2 ^ bw) (keep t (resource_items s (reading_of bw a b))))
      ≡ sum_to (only_here bw (plan_of bw a b) (row_of bw a b) s t) (2 ^ bw)
  unfolding resource_items
  resources_sum s t =
      ap (lines_only (2 ^ bw) s t) plan_power ∙ only_positions (2 ^ bw) s t (plan_of bw a b) (row_of bw a b) (2 ^ bw)

  -- the lines of its User fields too, each charged to the position that its field comes from
  users_sum : sum_to (λ i. 39 + name_length ((reading_of bw a b).owner i)) (reading_of bw a b).fields ≡ sum_to (users_here bw (plan_of bw a b) (row_of bw a b))
      (2 ^ bw)
  unfolding reading_of
  users_sum =
      let l = known_code bw a b e in
      let r = row bw a b in
      let here = users_here bw (plan_of bw a b) (row_of bw a b) in
      ap (λ (zs : List Record). sum_to (λ i. 39 + name_length (get_or zs (owner_in r (count bw 1 a) i) blank)) (count bw 1 a + count bw 2 b)) plan_power
      ∙ rw (← fields_1 bw a b l, ← fields_2 bw a b l) (owners_sum (user_length bw (plan_of bw a b) (row_of bw a b)) r ∙ ap (sum_to here) row_power)

  overflow_line : (n s k : ℕ) → s < 10 → k < length (reading_of bw a b).overflows
      → length (difference_line n (by s (overflow_item (reading_of bw a b) k))) ≤ 27
  unfolding reading_of
  overflow_line n s k l h = overflow_most n s l k _ h (overflow_low (overflow a) k h)

  value_line : (n s p : ℕ) → s < 10 → p < length (reading_of bw a b).values
      → length (difference_line n (by s (value_item (reading_of bw a b) p))) ≤ 30
  unfolding reading_of positions
  value_line n s p l h =
      let k : p < 2 ^ bw = omega (arith, row_power) in
      value_most n s l p _ (omega (arith, few)) (omega (arith, row_at_lem bw a b p k, row_lt bw a b p))

  user_line : (n s i : ℕ) → s < 10 → i < (reading_of bw a b).fields
      → length (difference_line n (by s (user_item (reading_of bw a b) i))) ≤ 39 + name_length ((reading_of bw a b).owner i)
  unfolding reading_of
  user_line n s i l h = user_most n s l i _ _ (omega (arith, count_le bw 1 a, count_le bw 2 b))

-- ---- two of one bandwidth
module _ (bw : ℕ) (a b a' b' : List ℕ) (e : outcome11 bw a b ≡ Ok tt) (e' : outcome11 bw a' b' ≡ Ok tt) where
  abbrev x : Reading
  x = reading_of bw a b

  abbrev y : Reading
  y = reading_of bw a' b'

  abbrev bytes : List Difference → ℕ
  bytes ds = length (difference_lines (2 ^ bw) (keep (differs x y) ds))

  overflows_most : bytes (overflow_turns x y) ≤ 378
  unfolding overflow_turns reading_of
  overflows_most =
      turns_most (differs x y) (2 ^ bw) 27 (overflow_item x) (length x.overflows) (overflow_item y) (length y.overflows)
      (λ k l. overflow_line bw a b e (2 ^ bw) 1 k (omega arith) l) (λ k l. overflow_line bw a' b' e' (2 ^ bw) 2 k (omega arith) l)

  values_most : bytes (value_turns x y) ≤ 960
  unfolding value_turns reading_of
  values_most =
      let h = turns_most (differs x y) (2 ^ bw) 30 (value_item x) (length x.values) (value_item y) (length y.values)
      (λ p l. value_line bw a b e (2 ^ bw) 1 p (omega arith) l) (λ p l. value_line bw a' b' e' (2 ^ bw) 2 p (omega arith) l) in
      omega (arith, h, row_power bw a b e, row_power bw a' b' e', few bw a b e)

  users_most : bytes (user_turns x y)
      ≤ sum_to (λ i. 39 + name_length (x.owner i)) x.fields + sum_to (λ i. 39 + name_length (y.owner i)) y.fields
  unfolding user_turns
  users_most =
      turns_sum (differs x y) (2 ^ bw) (user_item x) x.fields (user_item y) y.fields
      (λ i. 39 + name_length (x.owner i)) (λ i. 39 + name_length (y.owner i))
      (λ i l. user_line bw a b e (2 ^ bw) 1 i (omega arith) l) (λ i l. user_line bw a' b' e' (2 ^ bw) 2 i (omega arith) l)

  -- what both have has no line
  not_kept_1 : (z : Record) → has_same z (records_from (plan_of bw a' b') (row_of bw a' b') (2 ^ bw)) ≡ true
      → differs x y (resource_item 1 z) ≡ false
  unfolding differs tells
  not_kept_1 z h = ap not (ap (has_same z) (plan_power bw a' b' e') ∙ h)

  not_kept_2 : (z : Record) → has_same z (records_from (plan_of bw a b) (row_of bw a b) (2 ^ bw)) ≡ true
      → differs x y (resource_item 2 z) ≡ false
  unfolding differs tells
  not_kept_2 z h = ap not (ap (has_same z) (plan_power bw a b e) ∙ h)

  abbrev resources_and_users : List Difference
  resources_and_users = resource_items 1 x ++ (resource_items 2 y ++ user_turns x y)

  said_sum : bytes (all_said x y) ≡ bytes (overflow_turns x y) + bytes (value_turns x y) + bytes resources_and_users
  unfolding all_said
  said_sum =
      omega (
        arith,
        kept_both (2 ^ bw) (differs x y) (overflow_turns x y) (value_turns x y ++ resources_and_users),
        kept_both (2 ^ bw) (differs x y) (value_turns x y) resources_and_users,
      )

  resources_users_sum : bytes resources_and_users ≡ bytes (resource_items 1 x) + bytes (resource_items 2 y) + bytes (user_turns x y)
  resources_users_sum =
      omega (
        arith,
        kept_both (2 ^ bw) (differs x y) (resource_items 1 x) (resource_items 2 y ++ user_turns x y),
        kept_both (2 ^ bw) (differs x y) (resource_items 2 y) (user_turns x y),
      )

  -- charged to the positions
  resources_users_most : bytes resources_and_users ≤ 2 ^ bw * 1758
  resources_users_most =
      let all = positions_charge bw (omega (arith, known_code bw a b e)) (plan_of bw a b) (row_of bw a b) (signals_power bw a b e)
      (plan_of bw a' b') (row_of bw a' b') (signals_power bw a' b' e') (differs x y) not_kept_1 not_kept_2 in
      omega (
        arith,
        all,
        resources_users_sum,
        users_most,
        resources_sum bw a b e 1 (differs x y),
        resources_sum bw a' b' e' 2 (differs x y),
        users_sum bw a b e,
        users_sum bw a' b' e',
      )

  accepted_most : bytes (all_said x y) ≤ 29466
  accepted_most = omega (arith, said_sum, overflows_most, values_most, resources_users_most, few bw a b e)

-- ---- any two accepted ones
one_more : (n : ℕ) (d : Difference) (ds : List Difference)
    → length (difference_lines n (d ∷ ds)) ≡ length (difference_line n d) + length (difference_lines n ds)
unfolding difference_lines
one_more n d ds = length-append (difference_line n d) (difference_lines n ds)

no_lines : (n : ℕ) → length (difference_lines n []) ≡ 0
unfolding difference_lines
no_lines n = refl

bandwidths_most : (n b b' : ℕ) → length (difference_lines n (by 1 (bandwidth_is b) ∷ by 2 (bandwidth_is b') ∷ [])) ≤ 184
bandwidths_most n b b' =
    omega (
      arith,
      one_more n (by 1 (bandwidth_is b)) (by 2 (bandwidth_is b') ∷ []),
      one_more n (by 2 (bandwidth_is b')) [],
      bandwidth_most n 1 (omega arith) b,
      bandwidth_most n 2 (omega arith) b',
      no_lines n,
    )

differences_most : (bw : ℕ) (a b : List ℕ) (bw' : ℕ) (a' b' : List ℕ) → outcome11 bw a b ≡ Ok tt → outcome11 bw' a' b' ≡ Ok tt
    → length (difference_lines (2 ^ bw) (differences (reading_of bw a b) (reading_of bw' a' b'))) ≤ 29466
unfolding differences
differences_most bw a b bw' a' b' e f = go (eqb (reading_of bw a b).bandwidth (reading_of bw' a' b').bandwidth) refl
  where
    x : Reading
    x = reading_of bw a b

    y : Reading
    y = reading_of bw' a' b'

    same : bw ≡ bw' → length (difference_lines (2 ^ bw) (keep (differs x y) (all_said x y))) ≤ 29466
    same g =
        subst
        (λ (c : ℕ).
        outcome11 c a' b' ≡ Ok tt
        → length (difference_lines (2 ^ bw) (keep (differs x (reading_of c a' b')) (all_said x (reading_of c a' b')))) ≤ 29466)
        g (accepted_most bw a b a' b' e) f

    go : (t : Bool) → eqb x.bandwidth y.bandwidth ≡ t
        → length (difference_lines (2 ^ bw)
        (cond t (keep (differs x y) (all_said x y)) (by 1 (bandwidth_is x.bandwidth) ∷ by 2 (bandwidth_is y.bandwidth) ∷ []))) ≤ 29466
    go true g = same (eqb-true bw bw' (unfold reading_of in g))
    go false g = omega (arith, bandwidths_most (2 ^ bw) x.bandwidth y.bandwidth)

-- ---- any two frames
refused_lines : (n : ℕ) (o : Outcome) → length (difference_lines n (refused_by 2 o)) ≤ 92
refused_lines n (Ok u) = omega (arith, no_lines n)
refused_lines n (Err z) = omega (arith, one_more n (by 2 (refused_with (answer_of z))) [], refused_most n 2 (omega arith) (answer_of z), no_lines n)

pub comparison_within : (bw : ℕ) (a b : List ℕ) (bw' : ℕ) (a' b' : List ℕ) → length (comparison_text bw a b bw' a' b') ≤ compare_size
unfolding comparison_text comparison compare_size
comparison_within bw a b bw' a' b' = go (outcome11 bw a b) (outcome11 bw' a' b') refl refl
  where
    ds : List Difference
    ds = differences (reading_of bw a b) (reading_of bw' a' b')

    n : ℕ
    n = length (row bw a b)

    go : (o o' : Outcome) → outcome11 bw a b ≡ o → outcome11 bw' a' b' ≡ o' → length (difference_lines n (judged_both o o' ds)) ≤ 29466
    go (Ok u) (Ok v) e f = rw (row_power bw a b e) (differences_most bw a b bw' a' b' e f)
    go (Ok u) (Err z) e f = omega (arith, refused_lines n (Err z))
    go (Err z) o' e f =
        omega (arith, one_more n (by 1 (refused_with (answer_of z))) (refused_by 2 o'), refused_most n 1 (omega arith) (answer_of z), refused_lines n o')
