-- 01's table, "What comes back", up to 11.
--
-- "Checks run in number order"; "inside one, channel 1 first, lowest bit first". The tests of 2 to 6, 9 and 10 are
-- `faults`', that of 11 is `stations`'. Those of 7 and 8 are `plan`'s, beside which stands that they are what a plan that
-- signals the row allows (`plan/specs/Worked.antt`). a and b are the bytes of channel 1 and channel 2.
use Rattle.std.specs.Prelude.{List, [], ◌∷◌, ℕ, ltb}
use Rattle.answer.specs.Answer.{no, refuse_if, ◌or◌}
use Rattle.answer.specs.Order.{first_of}
use Rattle.answer.specs.Answer.{Outcome}
use Rattle.answer.specs.declared.Refusal.TheVariants.{UnknownBandwidth}
use Rattle.plan.specs.Worked.{outcome7, outcome8}
use Rattle.channel.specs.Layout.{row, count}
use Rattle.faults.specs.Checks.{too_long, cut_common, wrong_common, overflow_differs, not_carried, cut_users, wrong_users}
use Rattle.stations.specs.Stations.{station_twice}

-- "1 | bandwidth code above 4 | 0, 0"
unfoldable pub check1 : ℕ → Outcome
check1 bw = refuse_if (ltb 4 bw) UnknownBandwidth

-- "2 | a channel over 512 bytes, or channel 2 not empty at 20 MHz | that channel, 0"
unfoldable pub check2 : ℕ → List ℕ → List ℕ → Outcome
check2 bw a b = too_long bw 1 a or too_long bw 2 b

-- "3 | common field cut short | channel, ..": 02, T-03, has "the first bit of the field that didn't fit" for the bits lent
unfoldable pub check3 : ℕ → List ℕ → List ℕ → Outcome
check3 bw a b = cut_common bw 1 a or cut_common bw 2 b

-- "4 | common check or tail wrong | channel, first check bit"
unfoldable pub check4 : ℕ → List ℕ → List ℕ → Outcome
check4 bw a b = wrong_common bw 1 a or wrong_common bw 2 b

-- "5 | channel 1's LTF symbols 5 to 7, else overflow differs | 1, 6; else 2, lowest differing bit"
unfoldable pub check5 : ℕ → List ℕ → List ℕ → Outcome
check5 bw a b = overflow_differs bw a b

-- "6 | value not carried | channel, its first bit"
unfoldable pub check6 : ℕ → List ℕ → List ℕ → Outcome
check6 bw a b = not_carried bw 1 a or not_carried bw 2 b

-- "7 | no plan, even with any number of fields | 0, lowest such segment"
unfoldable pub check7 : ℕ → List ℕ → List ℕ → Outcome
check7 bw a b = outcome7 (row bw a b)

-- "8 | plan, but a resource over eight fields | 0, lowest such segment"
unfoldable pub check8 : ℕ → List ℕ → List ℕ → Outcome
check8 bw a b = outcome8 (row bw a b)

-- "9 | User blocks cut short | channel, ..": the place as for 3
unfoldable pub check9 : ℕ → List ℕ → List ℕ → Outcome
check9 bw a b = cut_users bw 1 a or cut_users bw 2 b

-- "10 | User check or tail wrong | channel, first check bit"
unfoldable pub check10 : ℕ → List ℕ → List ℕ → Outcome
check10 bw a b = wrong_users bw 1 a or wrong_users bw 2 b

-- "11 | a STA-ID from 1 to 2006 seen before (channel 1 then 2) | channel, first bit of the later field"
unfoldable pub check11 : ℕ → List ℕ → List ℕ → Outcome
check11 bw a b = station_twice bw a b (count bw 1 a) (count bw 2 b)

-- ---- the table

-- 1 to 11, which the reader and the listing have; the reader's 12 is `reader/specs/Table.antt`'s
abbrev pub checks11 : ℕ → List ℕ → List ℕ → List Outcome
checks11 bw a b =
    check1 bw
    ∷ check2 bw a b
    ∷ check3 bw a b
    ∷ check4 bw a b
    ∷ check5 bw a b
    ∷ check6 bw a b
    ∷ check7 bw a b
    ∷ check8 bw a b
    ∷ check9 bw a b
    ∷ check10 bw a b
    ∷ check11 bw a b
    ∷ []

-- "given exactly when (nothing earlier applies)": the first that refuses
unfoldable pub outcome11 : ℕ → List ℕ → List ℕ → Outcome
outcome11 bw a b = first_of (checks11 bw a b)

-- 1 to 6
unfoldable pub outcome6 : ℕ → List ℕ → List ℕ → Outcome
outcome6 bw a b = check1 bw or check2 bw a b or check3 bw a b or check4 bw a b or check5 bw a b or check6 bw a b
