-- 01, "Bench checks": those marked (P), "shown of the definitions, gathered as a single list under a single claim".
--
use Rattle.std.specs.Prelude.{◌≡◌, List, [], ◌∷◌, ◌++◌, map, ℕ, ◌+◌, length, replicate}
use Rattle.block.specs.Check.{check}
use Rattle.resource.specs.Names.{name_of, number_of}
use Rattle.answer.specs.Lists.{at}
use Rattle.kinds.specs.Signals.{Signals}
use Rattle.answer.specs.Answer.{no}
use Rattle.answer.specs.declared.Refusal.TheVariants.{NoPlan, OverEightFields}
use Rattle.std.specs.Prelude.{Err}
use Rattle.plan.specs.Answers.{SomePlan, SomePlanOfEight, Laid}
use Rattle.records.specs.declared.Record.{Record}
use Rattle.records.specs.Records.{records_of}

-- a resource as 01 names it: its subcarriers, its index, its fields over both channels
abbrev pub shown : Record → List ℕ
shown r = name_of r.resource ∷ number_of r.resource ∷ (r.fields1 + r.fields2) ∷ []

-- a check of the bench: a row that no plan signals, and the segment that 7 names; a row that a plan signals, with a resource over eight, and
-- the segment that 8 names; a row that a plan signals with at most eight on each resource, and that plan's resources
pub data Check : Type 0 where
  gets_7 : List ℕ → ℕ → Check
  gets_8 : List ℕ → ℕ → Check
  gets_0 : List ℕ → List (List ℕ) → Check
  has_check : List ℕ → ℕ → ℕ → Check

-- "7 | no plan, even with any number of fields"; "8 | plan, but a resource over eight fields"; acceptance, of any plan that signals the row;
-- and the check of the first n bits of a list of bytes
abbrev pub Holds : Check → Type 0
Holds (gets_7 row s) = (SomePlan row 0 (length row) → ⊥) × Laid row (Err (NoPlan s))
Holds (gets_8 row s) = SomePlan row 0 (length row) × (SomePlanOfEight row 0 (length row) → ⊥) × Laid row (Err (OverEightFields s))
Holds (gets_0 row rs) =
    SomePlanOfEight row 0 (length row)
    × ((o : ℕ → ℕ) → Signals o (at row) 0 (length row) → map shown (records_of o row) ≡ rs)
Holds (has_check s n v) = check s 0 n ≡ v

abbrev pub All : List Check → Type 0
All [] = Unit {0}
All (c ∷ cs) = Holds c × All cs

-- "Rows by rising position." A resource is its number of subcarriers (132 is 106+26, 726 is 484+242), its index and its fields.
abbrev pub bench : List Check
bench =
    -- 20: 25 has 3 fields; 29 is 7
    gets_0 (25 ∷ []) ((106 ∷ 1 ∷ 1 ∷ []) ∷ (26 ∷ 5 ∷ 1 ∷ []) ∷ (106 ∷ 2 ∷ 1 ∷ []) ∷ [])
    ∷ gets_7 (29 ∷ []) 0
    -- 40: (72,29) one 484, 1 field; (29,28) 7; (75,75) 8 fields; (75,76) 8 refused
    ∷ gets_0 (72 ∷ 29 ∷ []) ((484 ∷ 1 ∷ 1 ∷ []) ∷ [])
    ∷ gets_7 (29 ∷ 28 ∷ []) 0
    ∷ gets_0 (75 ∷ 75 ∷ []) ((484 ∷ 1 ∷ 8 ∷ []) ∷ [])
    ∷ gets_8 (75 ∷ 76 ∷ []) 0
    -- 80: (26,97,29,29) 484+242 index 1, 2 fields; (26,97,29,28) 7; (30,30,30,83) 996, 4 fields; (30,30,30,29) 7;
    -- (64,64,48,64) accepted; (64,64,64,48) 7; (28,28,50,28) 7
    ∷ gets_0 (26 ∷ 97 ∷ 29 ∷ 29 ∷ []) ((726 ∷ 1 ∷ 2 ∷ []) ∷ [])
    ∷ gets_7 (26 ∷ 97 ∷ 29 ∷ 28 ∷ []) 0
    ∷ gets_0 (30 ∷ 30 ∷ 30 ∷ 83 ∷ []) ((996 ∷ 1 ∷ 4 ∷ []) ∷ [])
    ∷ gets_7 (30 ∷ 30 ∷ 30 ∷ 29 ∷ []) 0
    ∷ gets_0 (64 ∷ 64 ∷ 48 ∷ 64 ∷ [])
    ((242 ∷ 1 ∷ 1 ∷ []) ∷ (242 ∷ 2 ∷ 1 ∷ []) ∷ (132 ∷ 5 ∷ 1 ∷ []) ∷ (106 ∷ 6 ∷ 1 ∷ []) ∷ (242 ∷ 4 ∷ 1 ∷ []) ∷ [])
    ∷ gets_7 (64 ∷ 64 ∷ 64 ∷ 48 ∷ []) 0
    ∷ gets_7 (28 ∷ 28 ∷ 50 ∷ 28 ∷ []) 0
    -- the 18 bits 000111100 001110000 have check 1111
    ∷ has_check (0x78 ∷ 0x38 ∷ 0x00 ∷ []) 18 15
    -- 004's row
    ∷ gets_0 (26 ∷ 97 ∷ 29 ∷ 29 ∷ 120 ∷ 29 ∷ 28 ∷ 50 ∷ [])
    ((726 ∷ 1 ∷ 2 ∷ []) ∷ (726 ∷ 4 ∷ 1 ∷ []) ∷ (106 ∷ 7 ∷ 1 ∷ []) ∷ (132 ∷ 8 ∷ 1 ∷ []) ∷ [])
    ∷ []

-- Rows with resources wider than a segment (02, T-07), named by their subcarriers: 1992 is 2x996, 1480 996+484, 2476 2x996+484, 3472 3x996+484.
abbrev pub wide160 : List Check
wide160 =
    -- one 2x996; "a row of 30s alone stays single 996s"; the left-out pair of a 996+484 is a 484, and 28 on its own pair is 7
    gets_0 (88 ∷ replicate 7 30) ((1992 ∷ 1 ∷ 1 ∷ []) ∷ [])
    ∷ gets_0 (replicate 8 30) ((996 ∷ 1 ∷ 0 ∷ []) ∷ (996 ∷ 1 ∷ 0 ∷ []) ∷ [])
    ∷ gets_0 (72 ∷ 29 ∷ 128 ∷ 29 ∷ replicate 4 30) ((484 ∷ 1 ∷ 1 ∷ []) ∷ (1480 ∷ 1 ∷ 1 ∷ []) ∷ [])
    ∷ gets_7 (72 ∷ 29 ∷ 128 ∷ 28 ∷ replicate 4 30) 0
    -- a 2x996 that lacks its last place: the first segment has a plan of its own, so 7 names the second
    ∷ gets_7 (replicate 4 30 ++ (88 ∷ 30 ∷ 30 ∷ 0 ∷ [])) 1
    ∷ []

abbrev pub wide320 : List Check
wide320 =
    -- the two 2x996+484 of 256 to 263: in the lower three segments, and in the upper three
    gets_0 (26 ∷ 26 ∷ 256 ∷ 29 ∷ replicate 12 30) ((2476 ∷ 1 ∷ 1 ∷ []) ∷ (996 ∷ 1 ∷ 0 ∷ []) ∷ [])
    ∷ gets_0 (replicate 4 30 ++ (26 ∷ 26 ∷ 256 ∷ 29 ∷ replicate 8 30)) ((996 ∷ 1 ∷ 0 ∷ []) ∷ (2476 ∷ 7 ∷ 1 ∷ []) ∷ [])
    -- a 2x996+484 and a 996+484 that lie between one another in the upper half
    ∷ gets_0 (288 ∷ replicate 7 30 ++ (136 ∷ 29 ∷ 29 ∷ 29 ∷ replicate 4 30)) ((2476 ∷ 5 ∷ 1 ∷ []) ∷ (1480 ∷ 2 ∷ 1 ∷ []) ∷ [])
    -- nine fields of a 3x996+484, the last of them from the fourth segment, while the second and third have none
    ∷ gets_8 (26 ∷ 26 ∷ 199 ∷ 29 ∷ replicate 11 30 ++ (192 ∷ [])) 0
    ∷ []
