-- The third demand.
--
-- "Take any bandwidth and any row of carried RU Allocation values of the number it needs. If any plan, as 01 defines one, signals that row
-- with at most eight User fields on each resource, the row is accepted and only that plan does. Otherwise it is refused, for its layout. In the
-- plan no two resources share a subcarrier, none has one in a punctured 20 MHz, and each User field in either channel has exactly one
-- resource."
--
-- A plan is `plan`'s `Signals`; its resources are `records`' `records_of`; what 01 answers for its layout is `Laid`; what `reader::read` answers to
-- channels that carry the row is all that its contract allows, `Reads`.
use Rattle.std.specs.Prelude.{◌≡◌, ◌≢◌, ◌⊎◌, List, ℕ, ◌<◌, ℤ, length, get_or}
use Rattle.answer.specs.Answer.{no}
use Rattle.answer.specs.Answer.{Outcome}
use Rattle.std.specs.Prelude.{Ok, Err}
use Rattle.bits.specs.Bits.{Small}
use Rattle.answer.specs.Lists.{at}
use Rattle.answer.specs.declared.Refusal.TheVariants.{NoPlan, OverEightFields}
use Rattle.kinds.specs.Signals.{Signals}
use Rattle.plan.specs.Answers.{SomePlanOfEight, Laid}
use Rattle.records.specs.Records.{records_from, records_of, HasTone, Punctured, blank, RightRecord}
use Rattle.records.specs.Owns.{Owns, fields_before}
use Rattle.records.specs.Demand.{Shared}
use Rattle.records.specs.Whose.{Takes242, Whose, Ordered}
use Rattle.records.specs.FieldsOf.{AtMostEight, Turns}
use Rattle.claims.specs.Calls.{Call, Reads}
use Rattle.claims.specs.Rows.{CarriedRow, CarryRow, ForLayout, ReadAccepts}

-- the resources of the plan o at the first n positions, and k a subcarrier of resource i
abbrev pub Tone : (ℕ → ℕ) → (ℕ → ℕ) → ℕ → ℕ → ℤ → Type 0
Tone o row n i k = HasTone n (get_or (records_from o row n) i blank) k

-- "no two resources share a subcarrier"
abbrev pub Apart : (ℕ → ℕ) → (ℕ → ℕ) → ℕ → Type 0
Apart o row n =
    (i j : ℕ) (k : ℤ) → i < length (records_from o row n) → j < length (records_from o row n) → i ≢ j → Tone o row n i k → Tone o row n j k → ⊥

-- "none has one in a punctured 20 MHz"
abbrev pub NotPunctured : (ℕ → ℕ) → (ℕ → ℕ) → ℕ → Type 0
NotPunctured o row n =
    (i q : ℕ) (k : ℤ) → i < length (records_from o row n) → q < n → row q ≡ 26 → Punctured n q k → Tone o row n i k → ⊥

-- each has as many subcarriers as its name says, in rising maximal runs: none is apart for want of them
abbrev pub RightTones : (ℕ → ℕ) → (ℕ → ℕ) → ℕ → Type 0
RightTones o row n = (i : ℕ) → i < length (records_from o row n) → RightRecord n (get_or (records_from o row n) i blank)

-- what is said of every plan that signals the row
abbrev pub OfPlans : List ℕ → ((ℕ → ℕ) → Type 0) → Type 0
OfPlans row P = (o : ℕ → ℕ) → Signals o (at row) 0 (length row) → P o

pub record Third (b : ℕ) (row : List ℕ) : Type 1 where
  -- "If any plan .. signals that row with at most eight User fields on each resource, the row is accepted"
  pub is_accepted : (x : Outcome) → Laid row x → SomePlanOfEight row 0 (length row) → x ≡ Ok tt
  pub has_plan : (x : Outcome) → Laid row x → x ≡ Ok tt → SomePlanOfEight row 0 (length row)
  -- "and only that plan does": at every position of the row, and so in its resources
  pub only_that : (o o' : ℕ → ℕ) → Signals o (at row) 0 (length row) → Signals o' (at row) 0 (length row)
      → ((p : ℕ) → p < length row → o p ≡ o' p) × (records_of o row ≡ records_of o' row)
  -- "Otherwise it is refused, for its layout"
  pub refused_otherwise : (x : Outcome) → Laid row x → (SomePlanOfEight row 0 (length row) → ⊥)
      → (s : ℕ) × ((x ≡ Err (NoPlan s)) ⊎ (x ≡ Err (OverEightFields s)))
  -- "In the plan no two resources share a subcarrier"
  pub apart : OfPlans row (λ o. Apart o (at row) (length row))
  -- "none has one in a punctured 20 MHz", which has all of its 242's
  pub not_punctured : OfPlans row (λ o. NotPunctured o (at row) (length row))
  pub punctured_takes : (q : ℕ) → q < length row → Takes242 (length row) q
  pub right_tones : OfPlans row (λ o. RightTones o (at row) (length row))
  -- and lies in the places of its record's position; "A plan lists resources by lowest position, then frequency" (01, "What a plan is")
  pub in_order : OfPlans row (λ o. Ordered o (length row) (records_of o row))
  -- "each User field in either channel has exactly one resource": one of the plan's
  pub one_resource : OfPlans row (λ o. (c j : ℕ) → j < fields_before c (at row) (length row)
      → (i : ℕ) × (i < length (records_of o row)) × Owns o (at row) (length row) i c j × ((i' : ℕ) → Owns o (at row) (length row) i' c j → i' ≡ i))
  -- and so its own subcarriers, by the position that it comes from
  pub whose_tones : OfPlans row (λ o. Whose o (at row) (length row) (records_of o row))
  -- a resource owns as many of each channel's as its record says, and these are all the fields that the values give
  pub all_shared : OfPlans row (λ o. Shared o (at row) (length row) (records_of o row))
  -- "at most eight User fields on each resource": of those that it owns
  pub eight_owned : OfPlans row (λ o. AtMostEight o (at row) (length row) (records_of o row))
  -- "A resource's fields are those of all its places, channel 1's first." (01, "What a plan is"): which is its t-th, and their User words follow
  pub fields_of : OfPlans row (λ o. Turns o (at row) (length row) (records_of o row))
  -- of whole frames, "A row is accepted when channels that carry it pass checks 1 to 6 and get neither 7 nor 8." (01, "What a plan is").
  -- "any row of carried RU Allocation values of the number it needs": some channels, of bytes, carry it and pass 1 to 6
  pub row_is_carried : CarriedRow b row → (x : List ℕ) × (y : List ℕ) × CarryRow b row x y × Small x × Small y
  -- "the row is accepted .. Otherwise it is refused, for its layout": all channels that carry it and pass 1 to 6 get 7 or 8 exactly when no
  -- plan signals it with at most eight on each resource, with the segment that 01's table says
  pub row_is_answered : (c : Call) → Reads c → CarryRow c.bandwidth row c.channel_1 c.channel_2 → ForLayout row c.answer
  -- "A reader that always refuses falls to the third demand, as the row's plan exists." (01, "What nobody may get away with")
  pub plan_is_read : CarriedRow b row → SomePlanOfEight row 0 (length row)
      → (x : List ℕ) × (y : List ℕ) × CarryRow b row x y × Small x × Small y × ReadAccepts b x y
