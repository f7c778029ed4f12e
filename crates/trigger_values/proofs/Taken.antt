-- The values that a bandwidth takes, by the narrowest code that takes them.
use mathlib.Core.Path.{◌≡◌, refl, sym, ◌∙◌, subst}
use mathlib.Core.Logic.{⊎_elim}
use mathlib.Core.Bool.{Bool, true, false, not, ◌&&◌, ◌||◌}
use Prim.Native.Nat.{ℕ, ◌^◌, ◌≤◌, ◌<◌}
use native.Mathlib.Omega.{arith}
use native.Mathlib.Nat.{pow-le-pow_right}
use borrow.Author.Tests.{le-leb, le-ltb, lt-ltb}
use lib.Dec.{T, ltb, leb, leb→le}
use Rattle.answer.specs.Least.{least}
use Rattle.answer.proofs.Least.{least_none}
use Rattle.resource.specs.Index.{position_of, from_positions}
use Rattle.resource.proofs.Test.{below_or, below, every_below}
use Rattle.trigger_values.specs.Values.{named, resource_of, reaches, taken}
use Rattle.trigger_values.specs.Engine.{code_from}
use Rattle.trigger_values.proofs.Back.{named_high}

-- from 94 on no value is taken
taken_from_94 : (bw v : ℕ) → 94 ≤ v → taken bw v ≡ false
unfolding taken
taken_from_94 bw v h = rw (named_high v h)

pub code_none : (v : ℕ) → 94 ≤ v → code_from v ≡ 3
unfolding code_from
code_none v h = least_none (λ b. taken b v) 3 (λ b l. taken_from_94 b v h)

same : Bool → Bool → Bool
same true b = b
same false b = not b

same_eq : (a b : Bool) → T (same a b) → a ≡ b
unfolding same
same_eq true true t = refl
same_eq true false t = absurd t
same_eq false true t = absurd t
same_eq false false t = refl

-- three codes
abbrev by_code : ℕ → ℕ → Bool
by_code bw v = ltb (code_from v) 3 && leb (code_from v) bw

by_codes : T (below (λ v. below (λ bw. same (by_code bw v) (taken bw v)) 3) 94)
unfolding code_from least taken named resource_of reaches position_of from_positions same
by_codes = tt

-- what is named needs at most the four positions of a segment
few : T (below (λ v. not (named v) || leb (reaches (resource_of v)) 4) 94)
unfolding named resource_of reaches position_of from_positions
few = tt

two_to : (bw : ℕ) → 2 ≤ bw → 4 ≤ 2 ^ bw
two_to bw h = pow-le-pow_right {n = 2} (omega arith) h

wider : (bw v : ℕ) → 2 ≤ bw → v < 94 → taken bw v ≡ taken 2 v
unfolding taken
wider bw v h l = go (named v) (every_below (λ v. not (named v) || leb (reaches (resource_of v)) 4) 94 few v l)
  where
    go : (t : Bool) → T (not t || leb (reaches (resource_of v)) 4) → (t && leb (reaches (resource_of v)) (2 ^ bw)) ≡ (t && leb (reaches (resource_of v)) 4)
    go false u = refl
    go true u =
        let k = leb→le (reaches (resource_of v)) 4 u in
        let m = two_to bw h in
        rw (le-leb (reaches (resource_of v)) 4 k, le-leb (reaches (resource_of v)) (2 ^ bw) (omega arith))

wider_code : (bw b : ℕ) → 2 ≤ bw → (ltb b 3 && leb b bw) ≡ (ltb b 3 && leb b 2)
wider_code bw b h =
    ⊎_elim
    (λ (l : b < 3). rw (lt-ltb b 3 l, le-leb b bw (omega arith), le-leb b 2 (omega arith)))
    (λ (l : 3 ≤ b). rw (le-ltb b 3 l))
    (below_or b 3)

pub taken_by_code : (bw v : ℕ) → (ltb (code_from v) 3 && leb (code_from v) bw) ≡ taken bw v
taken_by_code bw v =
    ⊎_elim
    (λ (l : v < 94). ⊎_elim
    (λ (k : bw < 3). low bw l k)
    (λ (k : 3 ≤ bw). wider_code bw (code_from v) (omega arith) ∙ low 2 l (omega arith) ∙ sym (wider bw v (omega arith) l))
    (below_or bw 3))
    (λ (l : 94 ≤ v). high l)
    (below_or v 94)
  where
    low : (bw : ℕ) → v < 94 → bw < 3 → by_code bw v ≡ taken bw v
    low bw l k =
        same_eq (by_code bw v) (taken bw v)
        (every_below (λ bw. same (by_code bw v) (taken bw v)) 3
        (every_below (λ v. below (λ bw. same (by_code bw v) (taken bw v)) 3) 94 by_codes v l) bw k)

    high : 94 ≤ v → by_code bw v ≡ taken bw v
    high l = rw (code_none v l, taken_from_94 bw v l)

-- what is taken is a value
pub value_low : (bw v : ℕ) → taken bw v ≡ true → v < 128
value_low bw v e =
    ⊎_elim (λ (l : v < 94). omega arith) (λ (l : 94 ≤ v). absurd (subst (λ (t : Bool). T t) (sym e ∙ taken_from_94 bw v l) tt)) (below_or v 94)
