-- `resource::fields_of` meets its contract: each arm's keys give as many fields as it says, and what is left gives none.
use mathlib.Core.Path.{◌≡◌}
use mathlib.Core.Bool.{Bool}
use mathlib.Core.List.{List, [], ◌∷◌}
use Prim.Native.Nat.{ℕ, ◌<◌}
use native.Mathlib.Omega.{arith}
use lib.Dec.{T, eqb, eqb→eq}
use types.Run.{OneOf}
use Rattle.resource.specs.Values.{carried, pieces, fields_of}
use Rattle.resource.proofs.Test.{at_each, each_key, Missed, key_or, no_key, every_below}
use Rattle.resource.proofs.fields_of.Goals as goal

gives : ℕ → ℕ → Bool
gives r v = eqb r (fields_of v)

known : (r : ℕ) (ks : List ℕ) (v : ℕ) → T (at_each (gives r) ks) → OneOf ks v → r ≡ fields_of v
unfolding gives
known r ks v t h = eqb→eq r (fields_of v) (each_key (gives r) ks v t h)

arms : List (List ℕ)
arms =
    (64 ∷ 72 ∷ 80 ∷ 88 ∷ 96 ∷ 104 ∷ 112 ∷ 120 ∷ [])
    ∷ (48 ∷ 50 ∷ 65 ∷ 73 ∷ 81 ∷ 89 ∷ 97 ∷ 105 ∷ 113 ∷ 121 ∷ [])
    ∷ (66 ∷ 74 ∷ 82 ∷ 90 ∷ 98 ∷ 106 ∷ 114 ∷ 122 ∷ [])
    ∷ (25 ∷ [])
    ∷ (24 ∷ [])
    ∷ (19 ∷ 23 ∷ 67 ∷ 75 ∷ 83 ∷ 91 ∷ 99 ∷ 107 ∷ 115 ∷ 123 ∷ [])
    ∷ (18 ∷ 22 ∷ [])
    ∷ (15 ∷ 17 ∷ 21 ∷ 68 ∷ 76 ∷ 84 ∷ 92 ∷ 100 ∷ 108 ∷ 116 ∷ 124 ∷ [])
    ∷ (14 ∷ [])
    ∷ (7 ∷ 11 ∷ 13 ∷ 16 ∷ 20 ∷ 69 ∷ 77 ∷ 85 ∷ 93 ∷ 101 ∷ 109 ∷ 117 ∷ 125 ∷ [])
    ∷ (6 ∷ 10 ∷ [])
    ∷ (3 ∷ 5 ∷ 9 ∷ 12 ∷ 70 ∷ 78 ∷ 86 ∷ 94 ∷ 102 ∷ 110 ∷ 118 ∷ 126 ∷ [])
    ∷ (2 ∷ [])
    ∷ (1 ∷ 4 ∷ 8 ∷ 71 ∷ 79 ∷ 87 ∷ 95 ∷ 103 ∷ 111 ∷ 119 ∷ 127 ∷ [])
    ∷ (0 ∷ [])
    ∷ []

left : (v : ℕ) → v < 128 → Missed arms v → 0 ≡ fields_of v
unfolding gives arms fields_of pieces carried
left v h m = eqb→eq 0 (fields_of v) (no_key (gives 0) arms v (every_below (key_or (gives 0) arms) 128 tt v h) m)

pub returns-in-0 : goal.returns-in-0
unfolding gives fields_of pieces carried
returns-in-0 c = known 9 (0 ∷ []) _ tt c.in-0.is

pub returns-in-1 : goal.returns-in-1
unfolding gives fields_of pieces carried
returns-in-1 c = known 8 (1 ∷ 4 ∷ 8 ∷ 71 ∷ 79 ∷ 87 ∷ 95 ∷ 103 ∷ 111 ∷ 119 ∷ 127 ∷ []) _ tt c.in-1.is

pub returns-in-2 : goal.returns-in-2
unfolding gives fields_of pieces carried
returns-in-2 c = known 8 (2 ∷ []) _ tt c.in-2.is

pub returns-in-3 : goal.returns-in-3
unfolding gives fields_of pieces carried
returns-in-3 c = known 7 (3 ∷ 5 ∷ 9 ∷ 12 ∷ 70 ∷ 78 ∷ 86 ∷ 94 ∷ 102 ∷ 110 ∷ 118 ∷ 126 ∷ []) _ tt c.in-3.is

pub returns-in-6 : goal.returns-in-6
unfolding gives fields_of pieces carried
returns-in-6 c = known 7 (6 ∷ 10 ∷ []) _ tt c.in-6.is

pub returns-in-7 : goal.returns-in-7
unfolding gives fields_of pieces carried
returns-in-7 c = known 6 (7 ∷ 11 ∷ 13 ∷ 16 ∷ 20 ∷ 69 ∷ 77 ∷ 85 ∷ 93 ∷ 101 ∷ 109 ∷ 117 ∷ 125 ∷ []) _ tt c.in-7.is

pub returns-in-14 : goal.returns-in-14
unfolding gives fields_of pieces carried
returns-in-14 c = known 6 (14 ∷ []) _ tt c.in-14.is

pub returns-in-15 : goal.returns-in-15
unfolding gives fields_of pieces carried
returns-in-15 c = known 5 (15 ∷ 17 ∷ 21 ∷ 68 ∷ 76 ∷ 84 ∷ 92 ∷ 100 ∷ 108 ∷ 116 ∷ 124 ∷ []) _ tt c.in-15.is

pub returns-in-18 : goal.returns-in-18
unfolding gives fields_of pieces carried
returns-in-18 c = known 5 (18 ∷ 22 ∷ []) _ tt c.in-18.is

pub returns-in-19 : goal.returns-in-19
unfolding gives fields_of pieces carried
returns-in-19 c = known 4 (19 ∷ 23 ∷ 67 ∷ 75 ∷ 83 ∷ 91 ∷ 99 ∷ 107 ∷ 115 ∷ 123 ∷ []) _ tt c.in-19.is

pub returns-in-24 : goal.returns-in-24
unfolding gives fields_of pieces carried
returns-in-24 c = known 4 (24 ∷ []) _ tt c.in-24.is

pub returns-in-25 : goal.returns-in-25
unfolding gives fields_of pieces carried
returns-in-25 c = known 3 (25 ∷ []) _ tt c.in-25.is

pub returns-in-66 : goal.returns-in-66
unfolding gives fields_of pieces carried
returns-in-66 c = known 3 (66 ∷ 74 ∷ 82 ∷ 90 ∷ 98 ∷ 106 ∷ 114 ∷ 122 ∷ []) _ tt c.in-66.is

pub returns-in-48 : goal.returns-in-48
unfolding gives fields_of pieces carried
returns-in-48 c = known 2 (48 ∷ 50 ∷ 65 ∷ 73 ∷ 81 ∷ 89 ∷ 97 ∷ 105 ∷ 113 ∷ 121 ∷ []) _ tt c.in-48.is

pub returns-in-64 : goal.returns-in-64
unfolding gives fields_of pieces carried
returns-in-64 c = known 1 (64 ∷ 72 ∷ 80 ∷ 88 ∷ 96 ∷ 104 ∷ 112 ∷ 120 ∷ []) _ tt c.in-64.is

pub returns-in_default : goal.returns-in_default
unfolding arms
returns-in_default c = left _ (omega arith) c.in_default.in_default-own.rest
