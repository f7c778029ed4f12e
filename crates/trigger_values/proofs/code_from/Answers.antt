-- `trigger_values::code_from` meets its contract: each range of the `match` has its code.
use mathlib.Core.Path.{◌≡◌, sym}
use mathlib.Core.Bool.{Bool}
use Prim.Native.Nat.{ℕ, ◌≤◌, ◌<◌}
use native.Mathlib.Omega.{arith}
use lib.Dec.{T, leb, eqb, eqb→eq}
use Rattle.answer.specs.Least.{least}
use Rattle.resource.specs.Index.{position_of, from_positions}
use Rattle.resource.proofs.Test.{wherever, below, every_between}
use Rattle.trigger_values.specs.Values.{named, resource_of, reaches, taken}
use Rattle.trigger_values.specs.Engine.{code_from}
use Rattle.trigger_values.proofs.Taken.{code_none}
use Rattle.trigger_values.proofs.code_from.Goals as goal

-- r is the code of every value from a up to below b
gives : ℕ → ℕ → ℕ → Bool
gives r a b = below (λ v. wherever (leb a v) (eqb r (code_from v))) b

known : (r a b v : ℕ) → T (gives r a b) → a ≤ v → v < b → r ≡ code_from v
unfolding gives
known r a b v t h l = eqb→eq r (code_from v) (every_between (λ v. eqb r (code_from v)) a b v t h l)

tests : T (gives 3 18 19)
    × T (gives 0 61 62)
    × T (gives 1 62 63)
    × T (gives 1 65 66)
    × T (gives 2 86 87)
    × T (gives 0 0 9)
    × T (gives 1 9 18)
    × T (gives 2 19 37)
    × T (gives 0 37 41)
    × T (gives 1 41 45)
    × T (gives 2 45 53)
    × T (gives 0 53 55)
    × T (gives 1 55 57)
    × T (gives 2 57 61)
    × T (gives 2 63 65)
    × T (gives 2 66 68)
    × T (gives 0 82 84)
    × T (gives 1 84 86)
    × T (gives 3 87 89)
    × T (gives 2 89 94)
    × T (gives 3 68 82)
unfolding gives code_from least taken named resource_of reaches position_of from_positions
tests = (tt, tt, tt, tt, tt, tt, tt, tt, tt, tt, tt, tt, tt, tt, tt, tt, tt, tt, tt, tt, tt)

pub returns-in-18 : goal.returns-in-18
returns-in-18 c = known 3 18 19 _ tests.0 (omega (arith, c.in-18.is)) (omega (arith, c.in-18.is))

pub returns-in-61 : goal.returns-in-61
returns-in-61 c = known 0 61 62 _ tests.1 (omega (arith, c.in-61.is)) (omega (arith, c.in-61.is))

pub returns-in-62 : goal.returns-in-62
returns-in-62 c = known 1 62 63 _ tests.2 (omega (arith, c.in-62.is)) (omega (arith, c.in-62.is))

pub returns-in-65 : goal.returns-in-65
returns-in-65 c = known 1 65 66 _ tests.3 (omega (arith, c.in-65.is)) (omega (arith, c.in-65.is))

pub returns-in-86 : goal.returns-in-86
returns-in-86 c = known 2 86 87 _ tests.4 (omega (arith, c.in-86.is)) (omega (arith, c.in-86.is))

pub returns-in-0-to-8 : goal.returns-in-0-to-8
returns-in-0-to-8 c = known 0 0 9 _ tests.5 (omega arith) (omega arith)

pub returns-in-9-to-17 : goal.returns-in-9-to-17
returns-in-9-to-17 c = known 1 9 18 _ tests.6 (omega arith) (omega arith)

pub returns-in-19-to-36 : goal.returns-in-19-to-36
returns-in-19-to-36 c = known 2 19 37 _ tests.7 (omega arith) (omega arith)

pub returns-in-37-to-40 : goal.returns-in-37-to-40
returns-in-37-to-40 c = known 0 37 41 _ tests.8 (omega arith) (omega arith)

pub returns-in-41-to-44 : goal.returns-in-41-to-44
returns-in-41-to-44 c = known 1 41 45 _ tests.9 (omega arith) (omega arith)

pub returns-in-45-to-52 : goal.returns-in-45-to-52
returns-in-45-to-52 c = known 2 45 53 _ tests.10 (omega arith) (omega arith)

pub returns-in-53-to-54 : goal.returns-in-53-to-54
returns-in-53-to-54 c = known 0 53 55 _ tests.11 (omega arith) (omega arith)

pub returns-in-55-to-56 : goal.returns-in-55-to-56
returns-in-55-to-56 c = known 1 55 57 _ tests.12 (omega arith) (omega arith)

pub returns-in-57-to-60 : goal.returns-in-57-to-60
returns-in-57-to-60 c = known 2 57 61 _ tests.13 (omega arith) (omega arith)

pub returns-in-63-to-64 : goal.returns-in-63-to-64
returns-in-63-to-64 c = known 2 63 65 _ tests.14 (omega arith) (omega arith)

pub returns-in-66-to-67 : goal.returns-in-66-to-67
returns-in-66-to-67 c = known 2 66 68 _ tests.15 (omega arith) (omega arith)

pub returns-in-82-to-83 : goal.returns-in-82-to-83
returns-in-82-to-83 c = known 0 82 84 _ tests.16 (omega arith) (omega arith)

pub returns-in-84-to-85 : goal.returns-in-84-to-85
returns-in-84-to-85 c = known 1 84 86 _ tests.17 (omega arith) (omega arith)

pub returns-in-87-to-88 : goal.returns-in-87-to-88
returns-in-87-to-88 c = known 3 87 89 _ tests.18 (omega arith) (omega arith)

pub returns-in-89-to-93 : goal.returns-in-89-to-93
returns-in-89-to-93 c = known 2 89 94 _ tests.19 (omega arith) (omega arith)

pub returns-in_default : goal.returns-in_default
returns-in_default c = known 3 68 82 _ tests.20 (omega arith) (omega arith)

pub returns-in_default-2 : goal.returns-in_default-2
returns-in_default-2 c = sym (code_none _ (omega arith))
