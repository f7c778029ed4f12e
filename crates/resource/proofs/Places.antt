-- The runs of a resource of whole positions: those of a single place, and where the subcarriers of any places lie.
use mathlib.Core.Path.{◌≡◌, refl, ap, ap₂, ◌∙◌}
use mathlib.Core.Logic.{◌⊎◌, inl, inr, ⊎_elim}
use mathlib.Core.Bool.{Bool, true, false, cond, ◌&&◌}
use mathlib.Core.List.{List, [], ◌∷◌, ◌++◌}
use Prim.Native.Nat.{ℕ, zero, suc, ◌+◌, ◌-◌, ◌*◌, ◌/◌, ◌%◌, ◌^◌, ◌≤◌, ◌<◌}
use native.Mathlib.Nat.{add-zero, div-div-eq-div-mul}
use native.Mathlib.Omega.{arith}
use lib.Pow.{pow-add}
use lib.Dec.{T, eqb, eqb→eq}
use lib.ListN.{length, length-append}
use Rattle.resource.specs.declared.Run.{Run}
use Rattle.resource.specs.Values.{set_at}
use Rattle.resource.specs.Engine.{run_of, the242, the242_if, places_runs, spread_runs}
use Rattle.resource.proofs.Edge.{In, in_left, in_right}
use Rattle.resource.proofs.Test.{below_or, both_left, both_right}

-- ---- a single place
pub one_place : (b q : ℕ) → q < 4 → places_runs b (2 ^ q) ≡ the242 (b + q) ∷ []
unfolding places_runs
one_place b zero h = rw (add-zero b)
one_place b (suc zero) h = refl
one_place b (suc (suc zero)) h = refl
one_place b (suc (suc (suc zero))) h = refl
one_place b (suc (suc (suc (suc q)))) h = absurd (omega arith)

pub own_place : (p : ℕ) → places_runs (4 * (p / 4)) (2 ^ (p % 4)) ≡ the242 p ∷ []
own_place p =
    let e : 4 * (p / 4) + p % 4 ≡ p = omega arith in
    one_place (4 * (p / 4)) (p % 4) (omega arith) ∙ ap (λ (x : ℕ). the242 x ∷ []) e

-- ---- at most three runs, whatever the places
few : (b : ℕ) (w x y z : Bool)
    → length (cond (w && x && y && z) (run_of (256 * b + 12) 498 ∷ run_of (256 * b + 515) 498 ∷ [])
    (the242_if w b ++ (the242_if x (b + 1) ++ (the242_if y (b + 2) ++ the242_if z (b + 3))))) ≤ 3
few b true true true true = omega arith
few b true true true false = omega arith
few b true true false true = omega arith
few b true true false false = omega arith
few b true false true true = omega arith
few b true false true false = omega arith
few b true false false true = omega arith
few b true false false false = omega arith
few b false true true true = omega arith
few b false true true false = omega arith
few b false true false true = omega arith
few b false true false false = omega arith
few b false false true true = omega arith
few b false false true false = omega arith
few b false false false true = omega arith
few b false false false false = omega arith

pub places_few : (b m : ℕ) → length (places_runs b m) ≤ 3
unfolding places_runs
places_few b m = few b (set_at 0 m) (set_at 1 m) (set_at 2 m) (set_at 3 m)

-- as many wherever the segment begins
if_length : (t : Bool) (p q : ℕ) → length (the242_if t p) ≡ length (the242_if t q)
if_length true p q = refl
if_length false p q = refl

either_length : (t : Bool) (xs ys xs' ys' : List Run) → length xs ≡ length xs' → length ys ≡ length ys' → length (cond t xs ys) ≡ length (cond t xs' ys')
either_length true xs ys xs' ys' e f = e
either_length false xs ys xs' ys' e f = f

places_length : (b c m : ℕ) → length (places_runs b m) ≡ length (places_runs c m)
unfolding places_runs
places_length b c m =
    either_length (set_at 0 m && set_at 1 m && set_at 2 m && set_at 3 m) _ _ _ _ refl
    (simp length-append (rw (
      if_length (set_at 0 m) b c,
      if_length (set_at 1 m) (b + 1) (c + 1),
      if_length (set_at 2 m) (b + 2) (c + 2),
      if_length (set_at 3 m) (b + 3) (c + 3),
    )))

pub spread_length : (s b c m : ℕ) → length (spread_runs b m s) ≡ length (spread_runs c m s)
unfolding spread_runs
spread_length zero b c m = refl
spread_length (suc s) b c m =
    simp length-append (ap₂ ◌+◌ (places_length b c (m % 16)) (spread_length s (b + 4) (c + 4) (m / 16)))

-- and none without a place
pub no_spread : (s b : ℕ) → spread_runs b 0 s ≡ []
unfolding spread_runs places_runs
no_spread zero b = refl
no_spread (suc s) b = no_spread s (b + 4)

-- segment after segment
pub next_segment : (b m s : ℕ) → 1 ≤ s → spread_runs b m s ≡ places_runs b (m % 16) ++ spread_runs (b + 4) (m / 16) (s - 1)
unfolding spread_runs
next_segment b m zero h = absurd (omega arith)
next_segment b m (suc s) h = let e : suc s - 1 ≡ s = omega arith in rw e

pub last_segment : (b m s : ℕ) → s ≡ 0 → spread_runs b m s ≡ []
unfolding spread_runs
last_segment b m s e = rw e

-- ---- where their subcarriers lie
edge_low : (t : Bool) → (3 ≤ cond t 12 3) × (cond t 12 3 ≤ 12)
edge_low true = (omega arith, omega arith)
edge_low false = (omega arith, omega arith)

-- a 242's in its position
in_242 : (p u : ℕ) → ((the242 p).lo ≤ u) × (u ≤ (the242 p).hi) → u / 256 ≡ p
in_242 p u h = let e = edge_low (eqb (p % 2) 0) in omega arith

in_if : (t : Bool) (p u : ℕ) (rs : List Run) → In u (the242_if t p ++ rs) → (T t × (u / 256 ≡ p)) ⊎ In u rs
in_if true p u rs (inl h) = inl (tt, in_242 p u h)
in_if true p u rs (inr h) = inr h
in_if false p u rs h = inr h

in_last : (t : Bool) (p u : ℕ) → In u (the242_if t p) → T t × (u / 256 ≡ p)
in_last true p u (inl h) = (tt, in_242 p u h)
in_last true p u (inr h) = absurd h
in_last false p u h = absurd h

in_either : (t : Bool) (u : ℕ) (xs ys : List Run) → In u (cond t xs ys) → (T t × In u xs) ⊎ In u ys
in_either true u xs ys h = inl (tt, h)
in_either false u xs ys h = inr h

-- u is a subcarrier of the j-th position from b on, which is a place
abbrev At : ℕ → ℕ → ℕ → ℕ → Type 0
At b m u j = T (set_at j m) × (u / 256 ≡ b + j)

abbrev Somewhere : ℕ → ℕ → ℕ → Type 0
Somewhere b m u = At b m u 0 ⊎ (At b m u 1 ⊎ (At b m u 2 ⊎ At b m u 3))

whole_at : (b m u : ℕ) → T (set_at 0 m && set_at 1 m && set_at 2 m && set_at 3 m)
    → In u (run_of (256 * b + 12) 498 ∷ run_of (256 * b + 515) 498 ∷ []) → Somewhere b m u
whole_at b m u t h =
    let three = both_left (set_at 0 m && set_at 1 m && set_at 2 m) (set_at 3 m) t in
    let two = both_left (set_at 0 m && set_at 1 m) (set_at 2 m) three in
    let range : (256 * b ≤ u) × (u < 256 * b + 1024) = ⊎_elim (λ e. omega arith) (⊎_elim (λ e. omega arith) (λ e. absurd e)) h in
    ⊎_elim
    (λ (l : u < 256 * b + 256). inl (both_left (set_at 0 m) (set_at 1 m) two, omega arith))
    (λ (k : 256 * b + 256 ≤ u). inr (⊎_elim
    (λ (l : u < 256 * b + 512). inl (both_right (set_at 0 m) (set_at 1 m) two, omega arith))
    (λ (i : 256 * b + 512 ≤ u). inr (⊎_elim
    (λ (l : u < 256 * b + 768). inl (both_right (set_at 0 m && set_at 1 m) (set_at 2 m) three, omega arith))
    (λ (l : 256 * b + 768 ≤ u). inr (both_right (set_at 0 m && set_at 1 m && set_at 2 m) (set_at 3 m) t, omega arith))
    (below_or u (256 * b + 768))))
    (below_or u (256 * b + 512))))
    (below_or u (256 * b + 256))

somewhere : (b m u : ℕ) → In u (places_runs b m) → Somewhere b m u
unfolding places_runs
somewhere b m u h =
    ⊎_elim (λ w. whole_at b m u w.0 w.1)
    (λ w. ⊎_elim (λ e. inl (e.0, omega arith))
    (λ x. inr
    (⊎_elim inl
    (λ y. inr (⊎_elim inl (λ z. inr (in_last (set_at 3 m) (b + 3) u z)) (in_if (set_at 2 m) (b + 2) u _ y)))
    (in_if (set_at 1 m) (b + 1) u _ x)))
    (in_if (set_at 0 m) b u _ w))
    (in_either (set_at 0 m && set_at 1 m && set_at 2 m && set_at 3 m) u _ _ h)

-- the subcarriers of a resource of whole positions lie in its segment, and there in its places
pub places_inside : (g m u : ℕ) → In u (places_runs (4 * g) m) → (u / 256 / 4 ≡ g) × T (set_at (u / 256 % 4) m)
places_inside g m u h =
    ⊎_elim (at 0 (omega arith)) (⊎_elim (at 1 (omega arith)) (⊎_elim (at 2 (omega arith)) (at 3 (omega arith)))) (somewhere (4 * g) m u h)
  where
    at : (j : ℕ) → j < 4 → At (4 * g) m u j → (u / 256 / 4 ≡ g) × T (set_at (u / 256 % 4) m)
    at j l e = let f : u / 256 % 4 ≡ j = omega (arith, e.1) in (omega (arith, e.1), rw f e.0)

-- ---- of one that lies in several segments: in them, and there in its places
in_both : (u : ℕ) (xs ys : List Run) → In u (xs ++ ys) → In u xs ⊎ In u ys
in_both u [] ys h = inr h
in_both u (r ∷ xs) ys (inl h) = inl (inl h)
in_both u (r ∷ xs) ys (inr h) = ⊎_elim (λ l. inl (inr l)) inr (in_both u xs ys h)

low_bit : (j m : ℕ) → j < 4 → set_at j (m % 16) ≡ set_at j m
low_bit zero m h = let e : m % 16 / 1 % 2 ≡ m / 1 % 2 = omega arith in rw e
low_bit (suc zero) m h = let e : m % 16 / 2 % 2 ≡ m / 2 % 2 = omega arith in rw e
low_bit (suc (suc zero)) m h = let e : m % 16 / 4 % 2 ≡ m / 4 % 2 = omega arith in rw e
low_bit (suc (suc (suc zero))) m h = let e : m % 16 / 8 % 2 ≡ m / 8 % 2 = omega arith in rw e
low_bit (suc (suc (suc (suc j)))) m h = absurd (omega arith)

high_bit : (j m : ℕ) → set_at j (m / 16) ≡ set_at (j + 4) m
high_bit j m =
    let e : 16 * 2 ^ j ≡ 2 ^ (j + 4) = omega (arith, pow-add 2 j 4) in ap (λ (x : ℕ). eqb (x % 2) 1) (div-div-eq-div-mul m 16 (2 ^ j) ∙ ap (m /◌) e)

-- the subcarrier u lies at place j of those that m has among the positions of s segments, from segment g on
pub record Placed (g m s u j : ℕ) : Type 0 where
  pub among : j < 4 * s
  pub there : u / 256 ≡ 4 * g + j
  pub own : T (set_at j m)

pub spread_inside : (s g m u : ℕ) → In u (spread_runs (4 * g) m s) → (j : ℕ) × Placed g m s u j
unfolding spread_runs
spread_inside zero g m u h = absurd h
spread_inside (suc s) g m u h =
    let from : 4 * g + 4 ≡ 4 * (g + 1) = omega arith in
    ⊎_elim
    (λ l.
    let w = places_inside g (m % 16) u l in
    (u / 256 % 4, record { among = omega arith; there = omega (arith, w.0); own = rw (← low_bit (u / 256 % 4) m (omega arith)) w.1 }))
    (λ l.
    let w = spread_inside s (g + 1) (m / 16) u (rw from at l) in
    let p = w.1 in
    (w.0 + 4, record { among = omega (arith, p.among); there = omega (arith, p.there); own = rw (← high_bit w.0 m) p.own }))
    (in_both u (places_runs (4 * g) (m % 16)) (spread_runs (4 * g + 4) (m / 16) s) h)

-- ---- and each place's 242 is wholly among them
if_last : (t : Bool) (p : ℕ) → the242_if t p ≡ the242_if t p ++ []
if_last true p = refl
if_last false p = refl

if_in : (t : Bool) (p u : ℕ) (rs : List Run) → T t → In u (the242 p ∷ []) → In u (the242_if t p ++ rs)
if_in true p u rs h (inl w) = inl w
if_in true p u rs h (inr w) = absurd w
if_in false p u rs h w = absurd h

-- of the 996: the first 242 begins where it does, and the fourth ends there
whole_cover : (g j u : ℕ) → j < 4 → ((the242 (4 * g + j)).lo ≤ u) × (u ≤ (the242 (4 * g + j)).hi)
    → In u (run_of (256 * (4 * g) + 12) 498 ∷ run_of (256 * (4 * g) + 515) 498 ∷ [])
whole_cover g zero u h w = let e : (4 * g + 0) % 2 ≡ 0 = omega arith in let v = rw e at w in inl (omega arith, omega arith)
whole_cover g (suc zero) u h w = let e = edge_low (eqb ((4 * g + 1) % 2) 0) in inl (omega arith, omega arith)
whole_cover g (suc (suc zero)) u h w = let e = edge_low (eqb ((4 * g + 2) % 2) 0) in inr (inl (omega arith, omega arith))
whole_cover g (suc (suc (suc zero))) u h w =
    let e : (4 * g + 3) % 2 ≡ 1 = omega arith in let v = rw e at w in inr (inl (omega arith, omega arith))
whole_cover g (suc (suc (suc (suc j)))) u h w = absurd (omega arith)

each_cover : (b m j u : ℕ) → j < 4 → T (set_at j m) → In u (the242 (b + j) ∷ [])
    → In u (the242_if (set_at 0 m) b ++ (the242_if (set_at 1 m) (b + 1) ++ (the242_if (set_at 2 m) (b + 2) ++ the242_if (set_at 3 m) (b + 3))))
each_cover b m zero u h t w = if_in (set_at 0 m) b u _ t (rw (add-zero b) at w)
each_cover b m (suc zero) u h t w = in_right u (the242_if (set_at 0 m) b) _ (if_in (set_at 1 m) (b + 1) u _ t w)
each_cover b m (suc (suc zero)) u h t w =
    in_right u (the242_if (set_at 0 m) b) _ (in_right u (the242_if (set_at 1 m) (b + 1)) _ (if_in (set_at 2 m) (b + 2) u _ t w))
each_cover b m (suc (suc (suc zero))) u h t w =
    in_right u (the242_if (set_at 0 m) b) _
    (in_right u (the242_if (set_at 1 m) (b + 1)) _
    (in_right u (the242_if (set_at 2 m) (b + 2)) _ (rw (if_last (set_at 3 m) (b + 3)) (if_in (set_at 3 m) (b + 3) u [] t w))))
each_cover b m (suc (suc (suc (suc j)))) u h t w = absurd (omega arith)

pub places_cover : (g m j u : ℕ) → j < 4 → T (set_at j m) → In u (the242 (4 * g + j) ∷ []) → In u (places_runs (4 * g) m)
unfolding places_runs
places_cover g m j u h t w = go (set_at 0 m && set_at 1 m && set_at 2 m && set_at 3 m)
  where
    go : (x : Bool) → In u (cond x (run_of (256 * (4 * g) + 12) 498 ∷ run_of (256 * (4 * g) + 515) 498 ∷ [])
        (the242_if (set_at 0 m) (4 * g) ++ (the242_if (set_at 1 m) (4 * g + 1) ++ (the242_if (set_at 2 m) (4 * g + 2) ++ the242_if (set_at 3 m) (4 * g + 3)))))
    go true = whole_cover g j u h (⊎_elim (λ e. e) (λ e. absurd e) w)
    go false = each_cover (4 * g) m j u h t w

pub spread_cover : (s g m j u : ℕ) → j < 4 * s → T (set_at j m) → In u (the242 (4 * g + j) ∷ []) → In u (spread_runs (4 * g) m s)
unfolding spread_runs
spread_cover zero g m j u h t w = absurd (omega arith)
spread_cover (suc s) g m j u h t w =
    ⊎_elim
    (λ (l : j < 4). in_left u (places_runs (4 * g) (m % 16)) (spread_runs (4 * g + 4) (m / 16) s) (places_cover g (m % 16) j u l (rw (low_bit j m l) t) w))
    (λ (l : 4 ≤ j).
    let i = j - 4 in
    let e : i + 4 ≡ j = omega arith in
    let from : 4 * g + 4 ≡ 4 * (g + 1) = omega arith in
    let there : 4 * (g + 1) + i ≡ 4 * g + j = omega arith in
    in_right u (places_runs (4 * g) (m % 16)) (spread_runs (4 * g + 4) (m / 16) s)
    (rw from (spread_cover s (g + 1) (m / 16) i u (omega arith) (rw (high_bit i m, e) t) (rw there w))))
    (below_or j 4)

-- ---- as the program finds them
odd : (a k : ℕ) → a ≡ 2 * k + 1 → a % 2 ≡ 1
odd a k e = omega arith

halved : (a b : ℕ) → a % 2 ≡ 1 → a / 2 ≡ b → a ≡ 2 * b + 1
halved a b e f = omega arith

-- all four places
pub all_places : (b m : ℕ) → m % 16 ≡ 15 → places_runs b m ≡ run_of (256 * b + 12) 498 ∷ run_of (256 * b + 515) 498 ∷ []
unfolding places_runs
all_places b m e =
    let w : m / 1 % 2 ≡ 1 = omega arith in
    let two : m / 2 ≡ 8 * (m / 16) + 7 = omega arith in
    let four : m / 4 ≡ 4 * (m / 16) + 3 = omega arith in
    let eight : m / 8 ≡ 2 * (m / 16) + 1 = omega arith in
    let x : m / 2 % 2 ≡ 1 = odd (m / 2) (4 * (m / 16) + 3) (omega (arith, two)) in
    let y : m / 4 % 2 ≡ 1 = odd (m / 4) (2 * (m / 16) + 1) (omega (arith, four)) in
    let z : m / 8 % 2 ≡ 1 = odd (m / 8) (m / 16) (omega (arith, eight)) in
    rw (w, x, y, z)

not_all : (m : ℕ) → (m % 16 ≡ 15 → ⊥) → (set_at 0 m && set_at 1 m && set_at 2 m && set_at 3 m) ≡ false
not_all m n = go (set_at 0 m && set_at 1 m && set_at 2 m && set_at 3 m) refl
  where
    go : (t : Bool) → (set_at 0 m && set_at 1 m && set_at 2 m && set_at 3 m) ≡ t → t ≡ false
    go false e = refl
    go true e =
        let a : T (set_at 0 m && set_at 1 m && set_at 2 m && set_at 3 m) = rw e tt in
        let three = both_left (set_at 0 m && set_at 1 m && set_at 2 m) (set_at 3 m) a in
        let two = both_left (set_at 0 m && set_at 1 m) (set_at 2 m) three in
        let w : m / 1 % 2 ≡ 1 = eqb→eq (m / 1 % 2) 1 (both_left (set_at 0 m) (set_at 1 m) two) in
        let x : m / 2 % 2 ≡ 1 = eqb→eq (m / 2 % 2) 1 (both_right (set_at 0 m) (set_at 1 m) two) in
        let y : m / 4 % 2 ≡ 1 = eqb→eq (m / 4 % 2) 1 (both_right (set_at 0 m && set_at 1 m) (set_at 2 m) three) in
        let z : m / 8 % 2 ≡ 1 = eqb→eq (m / 8 % 2) 1 (both_right (set_at 0 m && set_at 1 m && set_at 2 m) (set_at 3 m) a) in
        let eight : m / 8 ≡ 2 * (m / 16) + 1 = halved (m / 8) (m / 16) z (omega arith) in
        let four : m / 4 ≡ 2 * (m / 8) + 1 = halved (m / 4) (m / 8) y (omega arith) in
        let two : m / 2 ≡ 2 * (m / 4) + 1 = halved (m / 2) (m / 4) x (omega arith) in
        absurd (n (omega (arith, w, two, four, eight)))

-- else one after the other
pub each_place : (b m : ℕ) → (m % 16 ≡ 15 → ⊥)
    → places_runs b m
    ≡ the242_if (eqb (m % 2) 1) b
    ++ (the242_if (eqb (m / 2 % 2) 1) (b + 1) ++ (the242_if (eqb (m / 4 % 2) 1) (b + 2) ++ (the242_if (eqb (m / 8 % 2) 1) (b + 3) ++ [])))
unfolding places_runs
each_place b m n =
    let e : m / 1 ≡ m = omega arith in
    rw (not_all m n, e, ← if_last (eqb (m / 8 % 2) 1) (b + 3))
