-- The owners of all fields of a channel, entered position by position: `owners_of` and what it calls.
use mathlib.Core.Path.{◌≡◌, refl, sym, ◌∙◌, ap}
use mathlib.Core.Logic.{◌⊎◌, inl, inr}
use mathlib.Core.Bool.{Bool, true, false, cond}
use mathlib.Core.List.{List}
use Prim.Native.Nat.{ℕ, zero, suc, ◌+◌, ◌*◌, ◌%◌, ◌≤◌, ◌<◌}
use native.Mathlib.Omega.{arith}
use mir.Val.{bool_byte}
use borrow.Author.Tests.{eqb-true}
use lib.Dec.{eqb}
use lib.ListN.{length, get_or, set, replicate, length-replicate, get_or-replicate}
use Rattle.answer.specs.Lists.{build, filled}
use Rattle.answer.proofs.Lists.{build_is, filled_step, filled_length, get_d_filled, get_d_kept}
use Rattle.plan.specs.Engine.{only_plan}
use Rattle.plan.proofs.Only.{only_takes}
use Rattle.resource.specs.Values.{fields_of, divides}
use Rattle.resource.proofs.Fields.{fields_most}
use Rattle.resource.proofs.Test.{below_or}
use Rattle.records.specs.Records.{in_channel}
use Rattle.records.specs.Owns.{fields_before, number}
use Rattle.records.specs.Engine.{lowest, owner_at, owner_of}
use Rattle.records.proofs.Lead.{lowest_below}
use Rattle.records.proofs.Listing.{records_most}
use Rattle.records.proofs.Owners.{before_next, before_rise, found_left, nothing}

-- a `bool` as a number
pub bit_is : (t : Bool) → bool_byte t ≡ cond t 1 0
bit_is true = refl
bit_is false = refl

pub bit_most : (t : Bool) → bool_byte t ≤ 1
bit_most true = omega arith
bit_most false = omega arith

-- ---- the lowest place is no later one
pub only_below : (row : ℕ → ℕ) (p : ℕ) → lowest (only_plan row p) p ≤ p
only_below row p = lowest_below (only_plan row p) p (only_takes row p)

module _ (o row : ℕ → ℕ) where
  -- ---- the numbers of a position's owners: rising by one where the position is divided, else all the same
  pub owner_next : (p k : ℕ) → owner_at o row p (k + 1) ≡ owner_at o row p k + cond (divides (row p)) 1 0
  unfolding owner_at
  owner_next p k = go (divides (row p))
    where
      go : (t : Bool) → cond t (number o row p (k + 1)) (number o row (lowest (o p) p) 0)
          ≡ cond t (number o row p k) (number o row (lowest (o p) p) 0) + cond t 1 0
      go true = omega arith
      go false = omega arith

  pub owner_most : (p k : ℕ) → lowest (o p) p ≤ p → owner_at o row p k ≤ 9 * p + k
  unfolding owner_at
  owner_most p k h = go (divides (row p))
    where
      go : (t : Bool) → cond t (number o row p k) (number o row (lowest (o p) p) 0) ≤ 9 * p + k
      go true = omega (arith, records_most o row p)
      go false = omega (arith, records_most o row (lowest (o p) p))

  -- ---- one owner more: of the k-th field of position p, which is the channel's field j + k
  pub enter : (c n p j k f x : ℕ) (w d : List ℕ) → p < n → j ≡ fields_before c row p → k < f → f ≡ in_channel c p (fields_of (row p)) → x ≡ owner_at o row p k
      → j + k < length d → w ≡ filled (owner_of o row c n) (j + k) d → set w (j + k) x ≡ filled (owner_of o row c n) (j + (k + 1)) d
  enter c n p j k f x w d h e l g a m b =
      let s : j + k + 1 ≡ j + (k + 1) = omega arith in
      ap (λ (v : List ℕ). set v (j + k) x) b
      ∙ filled_step (owner_of o row c n) (j + k) x d m (a ∙ sym (found_left o row c p n (j + k) k h (omega arith) (omega arith)))
      ∙ ap (λ (i : ℕ). filled (owner_of o row c n) i d) s

  -- ---- all entered: past the last field there is no owner
  pub entered : (c n : ℕ) (w : List ℕ) → fields_before c row n ≤ 72 → w ≡ filled (owner_of o row c n) (fields_before c row n) (replicate 72 144)
      → w ≡ build (owner_of o row c n) 72
  entered c n w l e =
      let room : fields_before c row n ≤ length (replicate {A = ℕ} 72 144) = omega (arith, length-replicate {A = ℕ} 72 144) in
      let wide : length w ≡ 72 =
      ap length e ∙ filled_length (owner_of o row c n) (fields_before c row n) (replicate 72 144) room ∙ length-replicate {A = ℕ} 72 144 in
      build_is (owner_of o row c n) 144 w 72 wide
      (λ i h. ap (λ (v : List ℕ). get_or v i 144) e ∙ at_each i h (below_or i (fields_before c row n)))
    where
      at_each : (i : ℕ) → i < 72 → (i < fields_before c row n) ⊎ (fields_before c row n ≤ i)
          → get_or (filled (owner_of o row c n) (fields_before c row n) (replicate 72 144)) i 144 ≡ owner_of o row c n i
      at_each i l (inl h) = get_d_filled (owner_of o row c n) (fields_before c row n) (replicate 72 144) i 144 h
      at_each i l (inr h) =
          get_d_kept (owner_of o row c n) (fields_before c row n) (replicate 72 144) i 144 h
          ∙ get_or-replicate {A = ℕ} 72 i 144 144 l
          ∙ sym (nothing o row c n i h)

-- ---- a channel has at most nine fields of each of its positions, every second
module _ (c : ℕ) (row : ℕ → ℕ) where
  one_of_two : (p f g : ℕ) → p % 2 ≡ 0 → f ≤ 9 → g ≤ 9 → in_channel c p f + in_channel c (suc p) g ≤ 9
  one_of_two p f g e x y = go (eqb (p % 2 + 1) c) (eqb (suc p % 2 + 1) c) refl refl
    where
      go : (s t : Bool) → eqb (p % 2 + 1) c ≡ s → eqb (suc p % 2 + 1) c ≡ t → cond s f 0 + cond t g 0 ≤ 9
      go true true d d' = absurd (omega (arith, eqb-true (p % 2 + 1) c d, eqb-true (suc p % 2 + 1) c d'))
      go true false d d' = omega arith
      go false true d d' = omega arith
      go false false d d' = omega arith

  by_pairs : (n : ℕ) → fields_before c row (2 * n) ≤ 9 * n
  by_pairs zero = omega arith
  by_pairs (suc n) =
      let e : 2 * suc n ≡ suc (suc (2 * n)) = omega arith in
      let f = row (2 * n) in
      let g = row (suc (2 * n)) in
      rw e (omega (arith, by_pairs n, one_of_two (2 * n) (fields_of f) (fields_of g) (omega arith) (fields_most f) (fields_most g)))

  pub few_fields : (n : ℕ) → n ≤ 16 → fields_before c row n ≤ 72
  few_fields n l = omega (arith, before_rise c row n 16 l, by_pairs 8)

  -- those of position p too
  pub few_here : (p n : ℕ) → p < n → n ≤ 16 → fields_before c row p + in_channel c p (fields_of (row p)) ≤ 72
  few_here p n h l = omega (arith, before_next c row p, few_fields (p + 1) (omega arith))
