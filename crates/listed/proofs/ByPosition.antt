-- What each User field adds to a text, by the position that it comes from: sums over the fields are sums over the positions.
use mathlib.Core.Path.{◌≡◌, refl, ap, ◌∙◌}
use mathlib.Core.Bool.{Bool, true, false, cond}
use mathlib.Core.List.{List}
use Prim.Native.Nat.{ℕ, zero, suc, ◌+◌, ◌-◌, ◌*◌, ◌%◌, ◌≤◌, ◌<◌}
use native.Mathlib.Nat.{suc-mul, add-zero, add-suc}
use native.Mathlib.Omega.{arith}
use lib.Dec.{ltb, eqb}
use lib.ListN.{length}
use borrow.Author.Tests.{lt-ltb, le-ltb}
use Rattle.answer.specs.Lists.{at}
use Rattle.resource.specs.Values.{carried, pieces, fields_of, divides}
use Rattle.resource.proofs.Pieces.{none_left}
use Rattle.plan.specs.Engine.{only_plan}
use Rattle.records.specs.Records.{in_channel}
use Rattle.records.specs.Engine.{owner_at, owner_of}
use Rattle.records.specs.Owns.{fields_before}
use Rattle.records.proofs.Sums.{sum_to, sum_cong}
use Rattle.records.proofs.Owners.{found_left}
use Rattle.listed.specs.Listing.{owner_in}

-- ---- sums
sum_split : (g : ℕ → ℕ) (a b : ℕ) → sum_to g (a + b) ≡ sum_to g a + sum_to (λ k. g (a + k)) b
sum_split g a zero = rw (add-zero a) (omega arith)
sum_split g a (suc b) = rw (add-suc a b) (omega (arith, sum_split g a b))

pub sum_most : (g h : ℕ → ℕ) (n : ℕ) → ((i : ℕ) → i < n → g i ≤ h i) → sum_to g n ≤ sum_to h n
sum_most g h zero e = omega arith
sum_most g h (suc n) e = omega (arith, sum_most g h n (λ i l. e i (omega arith)), e n (omega arith))

pub sum_each : (g : ℕ → ℕ) (m n : ℕ) → ((i : ℕ) → i < n → g i ≤ m) → sum_to g n ≤ n * m
sum_each g m zero e = omega arith
sum_each g m (suc n) e = let h = sum_each g m n (λ i l. e i (omega arith)) in let k = e n (omega arith) in rw (suc-mul n m) (omega arith)

pub sum_both : (g h f : ℕ → ℕ) (n : ℕ) → ((i : ℕ) → i < n → g i + h i ≤ f i) → sum_to g n + sum_to h n ≤ sum_to f n
sum_both g h f zero e = omega arith
sum_both g h f (suc n) e = omega (arith, sum_both g h f n (λ i l. e i (omega arith)), e n (omega arith))

-- ---- the fields of a channel, by position: g of the owner of each
module _ (g : ℕ → ℕ) (o row : ℕ → ℕ) where
  abbrev pub owned : ℕ → ℕ
  owned p = sum_to (λ k. g (owner_at o row p k)) (fields_of (row p))

  owned_positions : (n c m : ℕ) → m ≤ n → sum_to (λ j. g (owner_of o row c n j)) (fields_before c row m) ≡ sum_to (λ p. in_channel c p (owned p)) m
  owned_positions n c zero h = refl
  owned_positions n c (suc m) h =
      sum_split (λ j. g (owner_of o row c n j)) (fields_before c row m) (in_channel c m (fields_of (row m)))
      ∙ omega (arith, owned_positions n c m (omega arith), last (eqb (m % 2 + 1) c) refl)
    where
      last : (t : Bool) → eqb (m % 2 + 1) c ≡ t
          → sum_to (λ k. g (owner_of o row c n (fields_before c row m + k))) (in_channel c m (fields_of (row m))) ≡ in_channel c m (owned m)
      last true e =
          rw e
          (sum_cong (λ k. g (owner_of o row c n (fields_before c row m + k))) (λ k. g (owner_at o row m k)) (fields_of (row m))
          (λ k l. ap g (found_left o row c m n (fields_before c row m + k) k (omega arith) refl (rw e l))))
      last false e = rw e

each_channel : (p f : ℕ) → in_channel 1 p f + in_channel 2 p f ≡ f
each_channel p f = go (p % 2) (omega arith)
  where
    go : (t : ℕ) → t < 2 → cond (eqb (t + 1) 1) f 0 + cond (eqb (t + 1) 2) f 0 ≡ f
    go zero l = omega arith
    go (suc zero) l = omega arith
    go (suc (suc t)) l = absurd (omega arith)

both_channels : (g : ℕ → ℕ) (n : ℕ) → sum_to (λ p. in_channel 1 p (g p)) n + sum_to (λ p. in_channel 2 p (g p)) n ≡ sum_to g n
both_channels g zero = refl
both_channels g (suc n) = omega (arith, both_channels g n, each_channel n (g n))

-- ---- the fields of a row over both channels, m of which are channel 1's
module _ (g : ℕ → ℕ) (r : List ℕ) where
  abbrev first : ℕ
  first = fields_before 1 (at r) (length r)

  abbrev second : ℕ
  second = fields_before 2 (at r) (length r)

  abbrev found_in : ℕ → ℕ → ℕ
  found_in c j = owner_of (only_plan (at r)) (at r) c (length r) j

  pub owners_sum : sum_to (λ i. g (owner_in r first i)) (first + second) ≡ sum_to (owned g (only_plan (at r)) (at r)) (length r)
  unfolding owner_in
  owners_sum =
      let f : ℕ → ℕ = λ i. g (owner_in r first i) in
      omega (
        arith,
        sum_split f first second,
        sum_cong f (λ j. g (found_in 1 j)) first (λ i l. rw (lt-ltb i first l)),
        sum_cong (λ j. f (first + j)) (λ j. g (found_in 2 j)) second
            (λ j l. let e : first + j - first ≡ j = omega arith in rw (le-ltb (first + j) first (omega arith), e)),
        owned_positions g (only_plan (at r)) (at r) (length r) 1 (length r) (omega arith),
        owned_positions g (only_plan (at r)) (at r) (length r) 2 (length r) (omega arith),
        both_channels (owned g (only_plan (at r)) (at r)) (length r),
      )

-- ---- a value that divides nothing gives at most eight fields
pub fields_whole : (v : ℕ) → divides v ≡ false → fields_of v ≤ 8
unfolding fields_of
fields_whole v d = go (ltb v 64) (carried v)
  where
    go : (s t : Bool) → cond s (length (pieces v)) (cond t (v % 8 + 1) 0) ≤ 8
    go true t = omega (arith, none_left v d)
    go false true = omega arith
    go false false = omega arith
