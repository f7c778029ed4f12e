-- A resource owns as many fields of each channel as its share says, and the shares are all the fields: for every plan that signals the
-- row.
use mathlib.Core.Path.{◌≡◌, refl, sym, ◌∙◌, subst}
use mathlib.Core.Bool.{Bool, true, false, cond}
use mathlib.Core.List.{List, [], ◌∷◌}
use Prim.Native.Nat.{ℕ, zero, suc, ◌+◌, ◌<◌}
use native.Mathlib.Omega.{arith}
use native.Mathlib.Nat.{add-zero}
use native.Mathlib.Numerals.{add-one}
use borrow.Author.Tests.{eqb-true, eqb-false}
use lib.Dec.{eqb}
use lib.ListN.{length, get_or}
use Rattle.answer.specs.Tally.{tally}
use Rattle.kinds.specs.Signals.{Signals}
use Rattle.kinds.proofs.Tests.{Tested}
use Rattle.records.specs.declared.Record.{Record}
use Rattle.records.specs.Records.{records_from, blank as no_record}
use Rattle.records.specs.Owns.{fields_before, Owns, Counts, none, one_more, no_more, Channel, share_of, all_shares}
use Rattle.records.specs.Engine.{owner_of}
use Rattle.records.proofs.Sums.{sum_to, sum_cong, all_placed, sum_first}
use Rattle.records.proofs.Listing.{located}
use Rattle.records.proofs.Owners.{owner_only, owner_owns, comes}
use Rattle.records.proofs.Homes.{located_below, owner_home}
use Rattle.records.proofs.Owned.{owned_at}

-- ---- counting: as many as pass a test that decides
pub counts_of : (P : ℕ → Type 0) (t : ℕ → Bool) (n : ℕ) → ((j : ℕ) → j < n → Tested (t j) (P j)) → Counts P n (tally t n)
counts_of P t zero h = none
counts_of P t (suc n) h = go (t n) (h n (omega arith)) (counts_of P t n (λ j l. h j (omega arith)))
  where
    go : (x : Bool) → Tested x (P n) → Counts P n (tally t n) → Counts P (suc n) (tally t n + cond x 1 0)
    go true p c = rw (add-one (tally t n)) (one_more p c)
    go false p c = rw (add-zero (tally t n)) (no_more p c)

sum_shares : (c : ℕ) (rs : List Record) → sum_to (λ i. share_of c (get_or rs i no_record)) (length rs) ≡ all_shares c rs
sum_shares c [] = refl
sum_shares c (r ∷ rs) = sum_first (λ i. share_of c (get_or (r ∷ rs) i no_record)) (length rs) ∙ rw (sum_shares c rs)

-- ---- of a plan that signals the row
module _ (o row : ℕ → ℕ) (n : ℕ) (s : Signals o row 0 n) where
  owned : (i c : ℕ) → i < length (records_from o row n) → Channel c
      → tally (λ j. eqb (owner_of o row c n j) i) (fields_before c row n) ≡ share_of c (get_or (records_from o row n) i no_record)
  owned i c h l = let w = located o row n i h in owned_at o row n s i w.0 w.1 w.2 c l

  -- resource i owns exactly as many fields of channel c as its record says
  pub owns_share : (i c : ℕ) → i < length (records_from o row n) → Channel c
      → Counts (Owns o row n i c) (fields_before c row n) (share_of c (get_or (records_from o row n) i no_record))
  owns_share i c h l =
      subst (λ (m : ℕ). Counts (Owns o row n i c) (fields_before c row n) m) (owned i c h l)
      (counts_of (Owns o row n i c) (λ j. eqb (owner_of o row c n j) i) (fields_before c row n) (λ j k. test j k (eqb (owner_of o row c n j) i) refl))
    where
      test : (j : ℕ) → j < fields_before c row n → (t : Bool) → eqb (owner_of o row c n j) i ≡ t → Tested t (Owns o row n i c j)
      test j k true e = subst (λ (x : ℕ). Owns o row n x c j) (eqb-true (owner_of o row c n j) i e) (owner_owns o row n s c j k)
      test j k false e = λ y. eqb-false (owner_of o row c n j) i e (sym (owner_only o row n i c j y))

  -- the owner of a field is one of the plan's resources
  pub owner_listed : (c j : ℕ) → j < fields_before c row n → owner_of o row c n j < length (records_from o row n)
  owner_listed c j h =
      let w = comes row n c j h in
      located_below o row n (owner_of o row c n j) _ _ (owner_home o row n s c j w.0 w.1 w.2)

  -- and the shares are all the fields: a made-up count fails
  pub shares_all : (c : ℕ) → Channel c → all_shares c (records_from o row n) ≡ fields_before c row n
  shares_all c h =
      sym (sum_shares c (records_from o row n))
      ∙ sum_cong (λ i. share_of c (get_or (records_from o row n) i no_record)) (λ i. tally (λ j. eqb (owner_of o row c n j) i) (fields_before c row n))
      (length (records_from o row n)) (λ i l. sym (owned i c l h))
      ∙ all_placed (owner_of o row c n) (fields_before c row n) (length (records_from o row n)) (owner_listed c)
