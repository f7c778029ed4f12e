-- The user's third demand, its last sentence: "In the plan no two resources share a subcarrier, none has one in a punctured 20 MHz, and
-- each User field in either channel has exactly one resource." Of every plan that signals a row of any bandwidth.
use mathlib.Core.Path.{◌≡◌, sym, subst}
use mathlib.Core.List.{List}
use Prim.Native.Nat.{ℕ}
use lib.ListN.{length}
use Rattle.answer.specs.Lists.{at}
use Rattle.kinds.specs.Signals.{Signals}
use Rattle.plan.specs.Engine.{only_plan}
use Rattle.plan.proofs.Demand.{only_plan_lem, one_plan}
use Rattle.records.specs.Demand.{Width, Sound, Shared}
use Rattle.records.specs.Records.{records_from, records_of}
use Rattle.records.specs.Engine.{owner_of}
use Rattle.records.proofs.Listing.{same_records}
use Rattle.records.proofs.Owners.{one_owner, owner_owns}
use Rattle.records.proofs.Shares.{owner_listed, owns_share, shares_all}
use Rattle.records.proofs.Tones.{no_shared, inside_channel, none_punctured, record_right}

pub sound : (o row : ℕ → ℕ) (n : ℕ) → Width n → Signals o row 0 n → Sound n row (records_from o row n)
sound o row n w =
    subst (λ (m : ℕ). Signals o row 0 m → Sound m row (records_from o row m)) (sym w.2)
    (λ s. record {
      apart = no_shared o row w.0 w.1 s;
      unpunctured = none_punctured o row w.0 w.1 s;
      inside = inside_channel o row w.0 w.1 s;
      named = record_right o row w.0 w.1 s;
    })

pub shared : (o row : ℕ → ℕ) (n : ℕ) → Signals o row 0 n → Shared o row n (records_from o row n)
shared o row n s = record {
  owned = λ c j h. (owner_of o row c n j, owner_listed o row n s c j h, owner_owns o row n s c j h);
  only = one_owner o row n;
  shares = owns_share o row n s;
  complete = shares_all o row n s;
}

-- ---- any plan that signals a row lists what the program does, so no two lists differ
module _ (row : List ℕ) where
  pub only_list : (o : ℕ → ℕ) → Signals o (at row) 0 (length row) → records_of o row ≡ records_of (only_plan (at row)) row
  only_list o s = same_records o (only_plan (at row)) (at row) (length row) (only_plan_lem row o s)

  pub one_list : (o o' : ℕ → ℕ) → Signals o (at row) 0 (length row) → Signals o' (at row) 0 (length row) → records_of o row ≡ records_of o' row
  one_list o o' s s' = same_records o o' (at row) (length row) (one_plan row o o' s s')
