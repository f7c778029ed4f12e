-- Rules that the checker computes at every number below a bound, or at every key of a `match`.
use mathlib.Core.Path.{◌≡◌, refl, sym}
use mathlib.Core.Logic.{◌⊎◌, inl, inr, ⊎_elim}
use mathlib.Core.Bool.{Bool, true, false, not, ◌&&◌, ◌||◌}
use mathlib.Core.List.{List, [], ◌∷◌}
use Prim.Native.Nat.{ℕ, zero, suc, ◌≤◌, ◌<◌}
use native.Mathlib.Nat.{not-suc-le-zero, le_of_suc-le-suc, eq-or-lt_of_le}
use borrow.Author.Tests.{ltb-true, ltb-false}
use lib.Dec.{T, ltb, leb, le→leb, eqb, eqb→eq}
use lib.ListN.{length, get_or, get_or-eq_default}
use mir.Facts.{or_yes}
use mir.Val.{has_key}
use types.Run.{OneOf, hit}

pub below_or : (a b : ℕ) → (a < b) ⊎ (b ≤ a)
below_or a b = go (ltb a b) refl
  where
    go : (t : Bool) → ltb a b ≡ t → (a < b) ⊎ (b ≤ a)
    go true e = inl (ltb-true a b e)
    go false e = inr (ltb-false a b e)

pub both : (a b : Bool) → T a → T b → T (a && b)
both true b s t = t
both false b s t = absurd s

pub both_left : (a b : Bool) → T (a && b) → T a
both_left true b t = tt
both_left false b t = t

pub both_right : (a b : Bool) → T (a && b) → T b
both_right true b t = t
both_right false b t = absurd t

-- where c holds, so does t
abbrev pub wherever : Bool → Bool → Bool
wherever c t = not c || t

pub met : (c t : Bool) → T (wherever c t) → T c → T t
met true t h k = h
met false t h k = absurd k

-- the test passes at every number below n
abbrev pub below : (ℕ → Bool) → ℕ → Bool
below f zero = true
below f (suc n) = f n && below f n

pub every_below : (f : ℕ → Bool) (n : ℕ) → T (below f n) → (k : ℕ) → k < n → T (f k)
every_below f zero t k h = absurd (not-suc-le-zero h)
every_below f (suc n) t k h =
    ⊎_elim
    (λ (e : k ≡ n). rw e (both_left (f n) (below f n) t))
    (λ (l : k < n). every_below f n (both_right (f n) (below f n) t) k l)
    (eq-or-lt_of_le (le_of_suc-le-suc h))

pub every_between : (f : ℕ → Bool) (a b v : ℕ) → T (below (λ v. wherever (leb a v) (f v)) b) → a ≤ v → v < b → T (f v)
every_between f a b v t h l =
    met (leb a v) (f v) (every_below (λ v. wherever (leb a v) (f v)) b t v l) (le→leb a v h)

-- the test passes at every key
abbrev pub at_each : (ℕ → Bool) → List ℕ → Bool
at_each f [] = true
at_each f (k ∷ ks) = f k && at_each f ks

pub each_key : (f : ℕ → Bool) (ks : List ℕ) (v : ℕ) → T (at_each f ks) → OneOf ks v → T (f v)
each_key f [] v t h = absurd h
each_key f (k ∷ []) v t h = rw h (both_left (f k) true t)
each_key f (k ∷ l ∷ ks) v t (inl h) = rw h (both_left (f k) (at_each f (l ∷ ks)) t)
each_key f (k ∷ l ∷ ks) v t (inr h) = each_key f (l ∷ ks) v (both_right (f k) (at_each f (l ∷ ks)) t) h

-- where no key was hit: the arms, the last first
abbrev pub Missed : List (List ℕ) → ℕ → Type 0
Missed [] v = Unit {0}
Missed (ks ∷ kss) v = Missed kss v × (OneOf ks v → ⊥)

abbrev pub key_or : (ℕ → Bool) → List (List ℕ) → ℕ → Bool
key_or f [] v = f v
key_or f (ks ∷ kss) v = has_key ks v || key_or f kss v

pub no_key : (f : ℕ → Bool) (kss : List (List ℕ)) (v : ℕ) → T (key_or f kss v) → Missed kss v → T (f v)
no_key f [] v t m = t
no_key f (ks ∷ kss) v t m =
    ⊎_elim (λ h. absurd (m.1 (hit ks v h))) (λ h. no_key f kss v h m.0) (or_yes (has_key ks v) (key_or f kss v) t)

-- what a `match` that lists a table leaves over: nothing is there
pub none_listed : (l : List ℕ) (kss : List (List ℕ)) (j : ℕ) → T (below (key_or (λ i. eqb 0 (get_or l i 0)) kss) (length l)) → Missed kss j → 0 ≡ get_or l j 0
none_listed l kss j t m =
    ⊎_elim
    (λ h. eqb→eq 0 (get_or l j 0) (no_key (λ i. eqb 0 (get_or l i 0)) kss j (every_below (key_or (λ i. eqb 0 (get_or l i 0)) kss) (length l) t j h) m))
    (λ h. sym (get_or-eq_default l 0 h))
    (below_or j (length l))
