-- The answers 7 and 8 of 01's table, "What comes back", with 02's T-07.
use Rattle.std.specs.Prelude.{◌≡◌, ◌≢◌, ◌⊎◌, List, length, ℕ, ◌+◌, ◌*◌, ◌/◌, ◌<◌, min}
use Rattle.answer.specs.Answer.{no}
use Rattle.answer.specs.Answer.{Outcome}
use Rattle.std.specs.Prelude.{Ok, Err}
use Rattle.answer.specs.Lists.{at}
use Rattle.answer.specs.declared.Refusal.TheVariants.{NoPlan, OverEightFields}
use Rattle.kinds.specs.Signals.{Signals}
use Rattle.kinds.specs.Fields.{together, Eight}

-- "Each group of four positions is a segment (20 and 40 MHz have one short segment)"; "Segments count from 0"
abbrev pub segments : List ℕ → ℕ
segments row = (length row + 3) / 4

-- some plan signals the positions from a up to b, with any number of fields
abbrev pub SomePlan : List ℕ → ℕ → ℕ → Type 0
SomePlan row a b = (o : ℕ → ℕ) × Signals o (at row) a b

-- .. with at most eight on each resource
abbrev pub SomePlanOfEight : List ℕ → ℕ → ℕ → Type 0
SomePlanOfEight row a b = (o : ℕ → ℕ) × Signals o (at row) a b × Eight o (at row) a b

-- "in the whole width, then in each half, down to one segment" (T-07): the parts of a row are the aligned groups of 4, 8 and 16 positions, as
-- far as the row goes, so that of a row no longer than a part the whole width is one
abbrev pub Size : ℕ → Type 0
Size n = (n ≡ 4) ⊎ ((n ≡ 8) ⊎ (n ≡ 16))

abbrev pub part_end : List ℕ → ℕ → ℕ → ℕ
part_end row n k = min (n * k + n) (length row)

abbrev pub PartPlan : List ℕ → ℕ → ℕ → Type 0
PartPlan row n k = SomePlan row (n * k) (part_end row n k)

-- segment s lies in a part with a plan
abbrev pub Held : List ℕ → ℕ → Type 0
Held row s = (n : ℕ) × Size n × PartPlan row n (4 * s / n)

-- segment s has a place of a resource of the plan o that is over eight fields
abbrev pub Over : (ℕ → ℕ) → List ℕ → ℕ → Type 0
Over o row s = (p : ℕ) × (p < length row) × (p / 4 ≡ s) × (8 < together (o p) (at row) p)

-- What 01 answers for the layout of a row.
-- Passed: a plan signals it with at most eight User fields on each resource.
-- "7 | no plan, even with any number of fields": "the lowest segment that lies in no such part with a plan" (T-07).
-- "8 | plan, but a resource over eight fields": "the lowest segment of a resource over eight fields" (T-07), and 7 comes first.
pub data Laid (row : List ℕ) : Outcome → Type 0 where
  accepted : SomePlanOfEight row 0 (length row) → Laid row (Ok tt)
  no_plan : (s : ℕ) → s < segments row → (Held row s → ⊥) → ((t : ℕ) → t < s → Held row t) → Laid row (Err (NoPlan s))
  over_eight : (o : ℕ → ℕ) → Signals o (at row) 0 (length row) → (s : ℕ) → Over o row s → ((t : ℕ) → t < s → Over o row t → ⊥)
      → Laid row (Err (OverEightFields s))

-- ---- what 01 answered before: by its segments alone
abbrev pub segment_end : List ℕ → ℕ → ℕ
segment_end row s = min (4 * s + 4) (length row)

abbrev pub SegmentPlan : List ℕ → ℕ → Type 0
SegmentPlan row s = SomePlan row (4 * s) (segment_end row s)

abbrev pub SegmentPlanOfEight : List ℕ → ℕ → Type 0
SegmentPlanOfEight row s = SomePlanOfEight row (4 * s) (segment_end row s)

-- "7 | no plan, even with any number of fields | 0, lowest such segment";
-- "8 | plan, but a resource over eight fields | 0, lowest such segment"
pub data LaidBySegments (row : List ℕ) : Outcome → Type 0 where
  accepted : SomePlanOfEight row 0 (length row) → LaidBySegments row (Ok tt)
  no_plan : (s : ℕ) → s < segments row → (SegmentPlan row s → ⊥) → ((t : ℕ) → t < s → SegmentPlan row t)
      → LaidBySegments row (Err (NoPlan s))
  over_eight : (s : ℕ) → s < segments row → ((t : ℕ) → t < segments row → SegmentPlan row t) → (SegmentPlanOfEight row s → ⊥)
      → ((t : ℕ) → t < s → SegmentPlanOfEight row t) → LaidBySegments row (Err (OverEightFields s))

-- a value that T-07 does not add: below 128, and not 88 to 95
abbrev pub Narrow : ℕ → Type 0
Narrow v = (v / 8 ≢ 11) × (v < 128)

abbrev pub NarrowRow : List ℕ → Type 0
NarrowRow row = (p : ℕ) → p < length row → Narrow (at row p)
