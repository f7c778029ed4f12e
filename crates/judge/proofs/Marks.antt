-- The repeat check by a mark for each STA-ID that may not stand again.
use Prim.Native.Nat.{ℕ, zero, suc, ◌+◌, ◌/◌, ◌%◌, ◌<◌, ◌≤◌}
use mathlib.Core.Path.{◌≡◌, refl, sym, ◌∙◌, ap}
use mathlib.Core.Bool.{Bool, true, false, cond, ◌&&◌}
use mathlib.Core.List.{List}
use native.Mathlib.Decide.{ℕ_discrete}
use native.Mathlib.Omega.{arith}
use lib.Dec.{eqb, ltb, leb}
use lib.ListN.{length, get_or, take, drop, set, replicate}
use Rattle.std.proofs.lemmas.List.{get_or-drop, get_or-take, length-drop, length-take-le}
use lib.Seq.{get_or-set_same, get_or-set_other}
use borrow.Author.Tests.{eq-eqb, ne_eqb}
use Rattle.answer.specs.Least.{least}
use Rattle.answer.specs.Lists.{at}
use Rattle.stations.specs.Stations.{repeated}
use Rattle.stations.specs.Engine.{any_repeated, station_from}
use Rattle.stations.proofs.Gathered.{any_cong}
use Rattle.judge.specs.Engine.{station_on}
use Rattle.stations.proofs.Kept.{among, among_next}

-- a mark where a STA-ID may not stand again and is one of the first j
pub record Noted (id : ℕ → ℕ) (marks : List Bool) (j : ℕ) : Type 0 where
  pub noted : (x : ℕ) → x < 2048 → get_or marks x false ≡ (ltb 0 x && leb x 2006) && among id j x

none : (n i : ℕ) → get_or (replicate {A = Bool} n false) i false ≡ false
none zero i = refl
none (suc n) zero = refl
none (suc n) (suc i) = none n i

and_false : (t : Bool) → false ≡ t && false
and_false true = refl
and_false false = refl

and_true : (s t : Bool) → s ≡ s && cond t true true
and_true true true = refl
and_true true false = refl
and_true false t = refl

keeps : (t : Bool) → t ≡ cond t true false
keeps true = refl
keeps false = refl

pub noted_none : (id : ℕ → ℕ) (n : ℕ) → Noted id (replicate n false) 0
unfolding least
noted_none id n = record { noted = λ x l. none n x ∙ and_false (ltb 0 x && leb x 2006) }

pub noted_more : (id : ℕ → ℕ) (marks : List Bool) (j y : ℕ) → y ≡ id j → y < length marks → Noted id marks j
    → Noted id (set marks y (ltb 0 y && leb y 2006)) (j + 1)
noted_more id marks j y e b f = record { noted = λ x l. go x l (ℕ_discrete x y) }
  where
    once : ℕ → Bool
    once x = ltb 0 x && leb x 2006

    go : (x : ℕ) → x < 2048 → Dec (x ≡ y) → get_or (set marks y (once y)) x false ≡ once x && among id (j + 1) x
    go x l (yes q) =
        rw q
        (get_or-set_same marks y (once y) false b
        ∙ and_true (once y) (among id j y)
        ∙ ap (◌&&◌ (once y)) (sym (among_next (λ i. eqb (id i) y) j ∙ ap (cond (among id j y) true) (eq-eqb (id j) y (sym e)))))
    go x l (no d) =
        get_or-set_other marks y x (once y) false d
        ∙ f.noted x l
        ∙ ap (◌&&◌ (once x))
        (keeps (among id j x) ∙ sym (among_next (λ i. eqb (id i) x) j ∙ ap (cond (among id j x) true) (ne_eqb (id j) x (λ w. d (sym w ∙ sym e)))))

-- a marked one was seen before
pub noted_seen : (id : ℕ → ℕ) (marks : List Bool) (j x : ℕ) → x ≡ id j → x < 2048 → Noted id marks j → get_or marks x false ≡ repeated id j
noted_seen id marks j x e l f = f.noted x l ∙ ap (λ (z : ℕ). (ltb 0 z && leb z 2006) && among id j z) e

-- a STA-ID stands from bit 8 of its word on
pub from_word : (w l : List ℕ) (t : ℕ) → 10 + t ≤ length w → l ≡ take t (drop 10 w)
    → any_repeated (station_from 8 l) (length l) ≡ any_repeated (station_on w) t
unfolding station_from station_on
from_word w l t h e =
    ap (any_repeated (station_from 8 l)) (ap length e ∙ length-take-le t (drop 10 w) (omega (arith, h, length-drop 10 w)))
    ∙ any_cong _ _ t
    (λ k m. ap (λ (x : ℕ). x / 256 % 2048) (ap (λ (v : List ℕ). at v k) e ∙ get_or-take t (drop 10 w) k 0 m ∙ get_or-drop 10 w k 0))
