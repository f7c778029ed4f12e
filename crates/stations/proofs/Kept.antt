-- What the repeat check keeps of the first j STA-IDs: themselves, and a mark for each.
use mathlib.Core.Path.{◌≡◌, refl}
use mathlib.Core.Bool.{Bool, true, false, cond, ◌&&◌}
use Prim.Native.Nat.{ℕ, suc, ◌+◌, ◌<◌}
use native.Mathlib.Omega.{arith}
use native.Mathlib.Numerals.{add-one}
use lib.Dec.{eqb, ltb, leb}
use borrow.Author.Tests.{lt-ltb, le-ltb, ltb-true}
use Rattle.answer.specs.Least.{least}
use Rattle.answer.proofs.Least.{least_none}
use Rattle.stations.specs.Stations.{repeated, first_repeated}

-- the first of all was not seen before
lone : (id : ℕ → ℕ) → repeated id 0 ≡ false
unfolding least
lone id = go (ltb 0 (id 0) && leb (id 0) 2006)
  where
    go : (t : Bool) → t && false ≡ false
    go true = refl
    go false = refl

pub repeat_none : (id : ℕ → ℕ) (n : ℕ) → n < 2 → first_repeated id n ≡ n
unfolding first_repeated
repeat_none id n l = least_none (repeated id) n (λ k m. let e : k ≡ 0 = omega arith in rw e (lone id))

-- ---- a bit for each STA-ID, set where it is one of them

-- x is one of the first j
abbrev pub among : (ℕ → ℕ) → ℕ → ℕ → Bool
among id j x = ltb (least (λ i. eqb (id i) x) j) j

-- of one more: it is, or it was before
pub among_next : (p : ℕ → Bool) (j : ℕ) → ltb (least p (j + 1)) (j + 1) ≡ cond (ltb (least p j) j) true (p j)
unfolding least
among_next p j = rw (add-one j) (go (ltb (least p j) j) (p j) refl)
  where
    go : (s t : Bool) → ltb (least p j) j ≡ s → ltb (cond s (least p j) (cond t j (suc j))) (suc j) ≡ cond s true t
    go true t e = lt-ltb (least p j) (suc j) (let l : least p j < j = ltb-true _ _ e in omega arith)
    go false true e = lt-ltb j (suc j) (omega arith)
    go false false e = le-ltb (suc j) (suc j) (omega arith)
