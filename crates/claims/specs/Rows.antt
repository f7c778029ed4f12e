-- Channels that carry a row, and what they get for its layout.
--
-- 01, "What a plan is": "A row is accepted when channels that carry it pass checks 1 to 6 and get neither 7 nor 8."
use Rattle.std.specs.Prelude.{◌≡◌, ◌≢◌, ◌⊎◌, true, List, ℕ, ◌≤◌, ◌<◌, length}
use Rattle.answer.specs.Answer.{no}
use Rattle.answer.specs.declared.Answer.{Answer}
use Rattle.std.specs.Prelude.{Ok}
use Rattle.resource.specs.Values.{carried}
use Rattle.answer.specs.Lists.{at}
use Rattle.kinds.specs.Signals.{Signals}
use Rattle.plan.specs.Answers.{segments, SomePlanOfEight, Held, Over, NarrowRow, SegmentPlan, SegmentPlanOfEight}
use Rattle.channel.specs.Layout.{positions, row}
use Rattle.halves.specs.Table.{outcome6}
use Rattle.claims.specs.Calls.{Call, Reads}

-- "any bandwidth and any row of carried RU Allocation values of the number it needs" (the third demand)
pub record CarriedRow (bw : ℕ) (r : List ℕ) : Type 0 where
  pub known : bw ≤ 4
  pub as_many : length r ≡ positions bw
  pub each : (p : ℕ) → p < positions bw → carried (at r p) ≡ true

-- the channels, of bytes a and b, carry the row r and pass checks 1 to 6. At 20 MHz channel 2 is empty by 2
-- (`proofs/Channels.antt`: `empty_at_20`).
pub record CarryRow (bw : ℕ) (r a b : List ℕ) : Type 0 where
  pub the_row : row bw a b ≡ r
  pub one_to_six : outcome6 bw a b ≡ Ok tt

-- s is the lowest below n that lacks P
abbrev pub Lowest : (ℕ → Type 0) → ℕ → ℕ → Type 0
Lowest P n s = (s < n) × (P s → ⊥) × ((t : ℕ) → t < s → P t)

-- x is what 01 answers to channels that carry the row r and pass 1 to 6, as far as its layout goes
pub record ForLayout (r : List ℕ) (x : Answer) : Type 0 where
  -- "neither 7 nor 8": exactly when a plan signals the row with at most eight User fields on each resource
  pub neither : x.number ≢ 7 → x.number ≢ 8 → SomePlanOfEight r 0 (length r)
  pub signalled : SomePlanOfEight r 0 (length r) → (x.number ≢ 7) × (x.number ≢ 8)
  -- "Otherwise it is refused, for its layout." (the third demand)
  pub otherwise : (SomePlanOfEight r 0 (length r) → ⊥) → (x.number ≡ 7) ⊎ (x.number ≡ 8)
  -- "7 | no plan, even with any number of fields": "the lowest segment that lies in no such part with a plan" (02, T-07), exactly when
  -- some segment lies in none
  pub seven : x.number ≡ 7 → (s : ℕ) × (x ≡ no 7 0 s) × Lowest (Held r) (segments r) s
  pub gets_7 : (s : ℕ) → s < segments r → (Held r s → ⊥) → x.number ≡ 7
  -- "8 | plan, but a resource over eight fields": "the lowest segment of a resource over eight fields" (02, T-07), exactly when a plan
  -- signals the row and has such a resource
  pub eight : x.number ≡ 8
      → (o : ℕ → ℕ) × Signals o (at r) 0 (length r) × (s : ℕ) × (x ≡ no 8 0 s) × Over o r s × ((t : ℕ) → t < s → Over o r t → ⊥)
  pub gets_8 : (o : ℕ → ℕ) → Signals o (at r) 0 (length r) → (s : ℕ) → Over o r s → x.number ≡ 8
  -- of a row without the values that T-07 adds 7 and 8 are what they were, by its segments alone: "7 | no plan, even with any number of
  -- fields | 0, lowest such segment"; "8 | plan, but a resource over eight fields | 0, lowest such segment"
  pub seven_before : NarrowRow r → x.number ≡ 7 → (s : ℕ) × (x ≡ no 7 0 s) × Lowest (SegmentPlan r) (segments r) s
  pub gets_7_before : NarrowRow r → (s : ℕ) → s < segments r → (SegmentPlan r s → ⊥) → x.number ≡ 7
  pub eight_before : NarrowRow r → x.number ≡ 8
      → ((t : ℕ) → t < segments r → SegmentPlan r t) × (s : ℕ) × (x ≡ no 8 0 s) × Lowest (SegmentPlanOfEight r) (segments r) s
  pub gets_8_before : NarrowRow r → ((t : ℕ) → t < segments r → SegmentPlan r t) → (s : ℕ) → s < segments r → (SegmentPlanOfEight r s → ⊥)
      → x.number ≡ 8

-- all that the contract of `reader::read` allows, for these channels and room for 154 words, is an acceptance
abbrev pub ReadAccepts : ℕ → List ℕ → List ℕ → Type 0
ReadAccepts bw x y =
    (c : Call) → Reads c → c.bandwidth ≡ bw → c.channel_1 ≡ x → c.channel_2 ≡ y → 154 ≤ length c.lent → c.answer.number ≡ 0
