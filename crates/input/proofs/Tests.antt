-- What two tests in a row tell, and a byte that is a line feed.
use mathlib.Core.Path.{◌≡◌, refl, sym, subst, ◌∙◌}
use mathlib.Core.Bool.{Bool, true, false, not, cond}
use mathlib.Core.List.{List, [], ◌∷◌}
use Prim.Native.Nat.{ℕ, zero, suc, ◌<◌}
use native.Mathlib.Omega.{arith}
use lib.Dec.{T}
use lib.ListN.{length, get_or}

pub and_then : (a b : Bool) → cond a b false ≡ true → (a ≡ true) × (b ≡ true)
and_then true b e = (refl, e)
and_then false b e = absurd (subst (λ (b : Bool). T (not b)) e tt)

pub not_then : (a b : Bool) → cond a false b ≡ true → (a ≡ false) × (b ≡ true)
not_then true b e = absurd (subst (λ (b : Bool). T (not b)) e tt)
not_then false b e = (refl, e)

pub at_ten : (s : List ℕ) (i : ℕ) → get_or s i 0 ≡ 10 → i < length s
at_ten [] i h = absurd (omega arith)
at_ten (x ∷ s) zero h = omega arith
at_ten (x ∷ s) (suc i) h = let k = at_ten s i h in omega arith

pub false_true : {b : Bool} → b ≡ false → b ≡ true → ⊥
false_true p q = subst (λ (b : Bool). T (not b)) (sym p ∙ q) tt
