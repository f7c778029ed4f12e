-- The row's plan and 01's answers 7 and 8, as functions. An engine works them out, and nobody has to believe it: beside them stands what they are
-- (`Worked`), in the words of `Signals.antt` and `Answers.antt`, and `proofs/Worked.antt` shows it of every row (`worked`).
use Rattle.std.specs.Prelude.{◌≡◌, Bool, not, List, ℕ, ◌*◌, ◌<◌, ltb, length}
use Rattle.answer.specs.Answer.{no, refuse_if, ◌or◌}
use Rattle.answer.specs.Least.{least}
use Rattle.answer.specs.Lists.{at}
use Rattle.answer.specs.Answer.{Outcome}
use Rattle.answer.specs.Decides.{Decides}
use Rattle.answer.specs.declared.Refusal.TheVariants.{NoPlan, OverEightFields}
use Rattle.kinds.specs.Signals.{Signals}
use Rattle.plan.specs.Answers.{segments, segment_end, Held, Over, Laid}
use Rattle.plan.specs.Engine.{only_plan, held_by, every_from, over_at}

-- to what the row's plan gives each position
abbrev pub the_plan : List ℕ → ℕ → ℕ
the_plan row = only_plan (at row)

-- whether segment s lies in a part with a plan, "even with any number of fields"
unfoldable pub is_held : List ℕ → ℕ → Bool
is_held row s = held_by row s

-- whether it has no place of a resource over eight
unfoldable pub at_most_eight : List ℕ → ℕ → Bool
at_most_eight row s = every_from (over_at row) (4 * s) (segment_end row s)

-- "lowest such segment": the lowest of n that fails the test
unfoldable pub lowest_without : (ℕ → Bool) → ℕ → ℕ
lowest_without has n = least (λ s. not (has s)) n

-- "7 | no plan, even with any number of fields": "the lowest segment that lies in no such part with a plan"
unfoldable pub outcome7 : List ℕ → Outcome
outcome7 row = refuse_if (ltb (lowest_without (is_held row) (segments row)) (segments row)) (NoPlan (lowest_without (is_held row) (segments row)))

-- "8 | plan, but a resource over eight fields": "the lowest segment of a resource over eight fields"; 7 comes first
unfoldable pub outcome8 : List ℕ → Outcome
outcome8 row =
    refuse_if (ltb (lowest_without (at_most_eight row) (segments row)) (segments row)) (OverEightFields (lowest_without (at_most_eight row) (segments row)))

pub record Worked (row : List ℕ) : Type 0 where
  -- any plan that signals the row is this one
  pub the_plan_fact : (o : ℕ → ℕ) → Signals o (at row) 0 (length row) → (p : ℕ) → p < length row → o p ≡ the_plan row p
  -- the tests are true exactly where there is a part with a plan, and where no resource is over eight
  pub is_held_fact : (s : ℕ) → s < segments row → Decides (is_held row s) (Held row s)
  pub at_most_eight_fact : (s : ℕ) → s < segments row → Decides (at_most_eight row s) (Over (the_plan row) row s → ⊥)
  -- so 7 and 8, in this order, are what 01 answers for the layout of the row, and nothing else is
  pub is_laid : Laid row (outcome7 row or outcome8 row)
  pub only_laid : (x : Outcome) → Laid row x → x ≡ (outcome7 row or outcome8 row)
