-- `trigger_values::resource_of` meets its contract.
use mathlib.Core.Path.{◌≡◌, refl, sym, ◌∙◌, ap}
use mathlib.Core.Bool.{Bool, cond}
use Prim.Native.Nat.{ℕ, ◌+◌, ◌-◌, ◌≤◌, ◌<◌}
use native.Mathlib.Omega.{arith}
use borrow.Author.Tests.{le-leb, lt-leb}
use lib.Dec.{leb}
use Rattle.resource.specs.declared.Size.TheVariants.{S26, S52, S106, S242, S484, S996}
use Rattle.resource.specs.declared.Pairing.TheVariants.{P106And26, P484And242}
use Rattle.resource.specs.declared.Resource.TheVariants.{Single, Joined}
use Rattle.trigger_values.specs.Values.{resource_of}
use Rattle.trigger_values.proofs.resource_of.Goals as goal

of_26 : (v : ℕ) → v ≤ 36 → Single S26 (v + 1) ≡ resource_of v
unfolding resource_of
of_26 v h = rw (le-leb v 36 h)

of_52 : (v : ℕ) → 36 < v → v ≤ 52 → Single S52 (v - 36) ≡ resource_of v
unfolding resource_of
of_52 v l h = rw (lt-leb v 36 l, le-leb v 52 h)

of_106 : (v : ℕ) → 52 < v → v ≤ 60 → Single S106 (v - 52) ≡ resource_of v
unfolding resource_of
of_106 v l h = rw (lt-leb v 36 (omega arith), lt-leb v 52 l, le-leb v 60 h)

of_242 : (v : ℕ) → 60 < v → v ≤ 64 → Single S242 (v - 60) ≡ resource_of v
unfolding resource_of
of_242 v l h = rw (lt-leb v 36 (omega arith), lt-leb v 52 (omega arith), lt-leb v 60 l, le-leb v 64 h)

of_484 : (v : ℕ) → 64 < v → v ≤ 66 → Single S484 (v - 64) ≡ resource_of v
unfolding resource_of
of_484 v l h = rw (lt-leb v 36 (omega arith), lt-leb v 52 (omega arith), lt-leb v 60 (omega arith), lt-leb v 64 l, le-leb v 66 h)

of_996 : (v : ℕ) → v ≡ 67 → Single S996 1 ≡ resource_of v
unfolding resource_of
of_996 v e = rw e

past_996 : (v : ℕ) → 67 < v → cond (leb v 89) (Joined P106And26 (v - 81)) (Joined P484And242 (v - 89)) ≡ resource_of v
unfolding resource_of
past_996 v l =
    rw (lt-leb v 36 (omega arith), lt-leb v 52 (omega arith), lt-leb v 60 (omega arith), lt-leb v 64 (omega arith), lt-leb v 66 (omega arith), lt-leb v 67 l)

of_132 : (v i : ℕ) → 67 < v → v ≤ 89 → i ≡ v - 81 → Joined P106And26 i ≡ resource_of v
of_132 v i l h e = rw (e) (ap (λ (t : Bool). cond t (Joined P106And26 (v - 81)) (Joined P484And242 (v - 89))) (sym (le-leb v 89 h)) ∙ past_996 v l)

of_726 : (v : ℕ) → 89 < v → Joined P484And242 (v - 89) ≡ resource_of v
of_726 v l = ap (λ (t : Bool). cond t (Joined P106And26 (v - 81)) (Joined P484And242 (v - 89))) (sym (lt-leb v 89 l)) ∙ past_996 v (omega arith)

pub returns-in-67 : goal.returns-in-67
returns-in-67 c = of_996 _ c.in-67.is

pub returns-in-0-to-36 : goal.returns-in-0-to-36
returns-in-0-to-36 c = of_26 _ (omega arith)

pub returns-in-37-to-52 : goal.returns-in-37-to-52
returns-in-37-to-52 c = of_52 _ (omega arith) (omega arith)

pub returns-in-53-to-60 : goal.returns-in-53-to-60
returns-in-53-to-60 c = of_106 _ (omega arith) (omega arith)

pub returns-in-61-to-64 : goal.returns-in-61-to-64
returns-in-61-to-64 c = of_242 _ (omega arith) (omega arith)

pub returns-in-65-to-66 : goal.returns-in-65-to-66
returns-in-65-to-66 c = of_484 _ (omega arith) (omega arith)

pub returns-in-68-to-81 : goal.returns-in-68-to-81
returns-in-68-to-81 c = of_132 c.args.v 0 (omega arith) (omega arith) (omega arith)

pub returns-in-82-to-89 : goal.returns-in-82-to-89
returns-in-82-to-89 c = of_132 _ _ (omega arith) (omega arith) refl

pub returns-in_default : goal.returns-in_default
returns-in_default c = of_726 _ (omega arith)
