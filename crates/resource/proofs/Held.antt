-- What the program holds of a resource's runs are the runs: laws of `held`.
use mathlib.Core.Path.{◌≡◌, refl, sym, ap, ◌∙◌}
use mathlib.Core.Logic.{⊎_elim}
use mathlib.Core.Bool.{Bool, true, false, cond}
use mathlib.Core.List.{List, [], ◌∷◌, ◌++◌, append_assoc}
use Prim.Native.Nat.{ℕ, zero, suc, ◌+◌, ◌-◌, ◌*◌, ◌/◌, ◌%◌, ◌^◌, ◌≤◌, ◌<◌}
use native.Mathlib.Nat.{pow-le-pow_right}
use native.Mathlib.Omega.{arith}
use native.Mathlib.Numerals.{add-one}
use borrow.Author.Tests.{lt-leb}
use lib.Dec.{T, leb, leb→le, eqb}
use lib.ListN.{length, take, set, get_or, replicate, length-append, get_or-append}
use lib.Seq.{take_all, take-suc, get_or-take}
use Rattle.resource.specs.declared.Size.{Size}
use Rattle.resource.specs.declared.Size.TheVariants.{S26, S52, S106, S242, S484, S996, S2x996}
use Rattle.resource.specs.declared.Pairing.{Pairing}
use Rattle.resource.specs.declared.Pairing.TheVariants.{P106And26, P484And242, P996And484, P3x996, P2x996And484, P3x996And484}
use Rattle.resource.specs.declared.Resource.{Resource}
use Rattle.resource.specs.declared.Resource.TheVariants.{Single, Joined}
use Rattle.resource.specs.declared.Run.{Run}
use Rattle.resource.specs.declared.Tones.{Tones}
use Rattle.resource.specs.Places.{all, places_of, segments_of}
use Rattle.resource.specs.Index.{position_of, place_of}
use Rattle.resource.specs.Engine.{no_run, held, in_position, runs_of, wide, wide_with26, narrow, narrow_with26, places_runs, spread_runs, joined_runs}
use Rattle.resource.proofs.Test.{below_or, below, every_below}
use Rattle.resource.proofs.Places.{places_few, spread_length, no_spread}

few : (t : Bool) (a b : List Run) → length a ≤ 3 → length b ≤ 3 → length (cond t a b) ≤ 3
few true a b h l = h
few false a b h l = l

narrow_few : (s : Size) (j : ℕ) → length (narrow s j) ≤ 3
unfolding narrow
narrow_few S26 j = few (eqb j 4) _ _ (omega arith) (omega arith)
narrow_few S52 j = omega arith
narrow_few S106 j = omega arith
narrow_few S242 j = omega arith
narrow_few S484 j = omega arith
narrow_few S996 j = omega arith
narrow_few S2x996 j = omega arith

wide_few : (p : ℕ) (s : Size) (j : ℕ) → length (wide p s j) ≤ 3
unfolding wide
wide_few p S26 j = omega arith
wide_few p S52 j = omega arith
wide_few p S106 j = omega arith
wide_few p S242 j = places_few (4 * (p / 4)) (2 ^ (p % 4))
wide_few p S484 j = omega arith
wide_few p S996 j = omega arith
wide_few p S2x996 j = omega arith

in_few : (n g : ℕ) (s : Size) (i : ℕ) → length (in_position n g s i) ≤ 3
in_few n g s i =
    let p = 4 * g + position_of s i in
    let j = place_of s i in
    few (eqb n 1) (narrow s j) (wide p s j) (narrow_few s j) (wide_few p s j)

with_26_few : (n p j : ℕ) → length (cond (eqb n 1) (narrow_with26 j) (wide_with26 p j)) ≤ 3
unfolding wide_with26 narrow_with26
with_26_few n p j = few (eqb n 1) _ _ (few (eqb j 0) _ _ (omega arith) (omega arith)) (few (eqb j 0) _ _ (omega arith) (omega arith))

-- ---- a joined one, wherever it lies
far : (a k i : ℕ) → 1 ≤ a → k ≤ i → a ^ k ≤ a ^ i
far a k i h l = pow-le-pow_right h l

-- past the last of its name there is no place
no_places : (w : Pairing) (i : ℕ) → 13 ≤ i → places_of w i ≡ 0
unfolding places_of
no_places P106And26 i h = refl
no_places P484And242 i h = let p = far 2 12 (i - 1) (omega arith) (omega arith) in omega arith
no_places P996And484 i h = let p = far 4 12 (i - 1) (omega arith) (omega arith) in omega arith
no_places P3x996 i h = let p = far 16 12 (i - 1) (omega arith) (omega arith) in omega arith
no_places P2x996And484 i h =
    let p = far 4 8 (i - 5) (omega arith) (omega arith) in rw (lt-leb i 6 (omega arith)) (omega arith)
no_places P3x996And484 i h = let p = far 4 12 (i - 1) (omega arith) (omega arith) in omega arith

joined_test : Pairing → ℕ → Bool
joined_test w i = leb (length (spread_runs 0 (places_of w i) (segments_of w))) 8

joined_tests : (w : Pairing) → T (below (joined_test w) 13)
unfolding joined_test spread_runs places_runs places_of segments_of
joined_tests P106And26 = tt
joined_tests P484And242 = tt
joined_tests P996And484 = tt
joined_tests P3x996 = tt
joined_tests P2x996And484 = tt
joined_tests P3x996And484 = tt

pub joined_few : (b : ℕ) (w : Pairing) (i : ℕ) → length (spread_runs b (places_of w i) (segments_of w)) ≤ 8
unfolding joined_test
joined_few b w i =
    rw (spread_length (segments_of w) b 0 (places_of w i))
    (⊎_elim
    (λ h. leb→le _ 8 (every_below (joined_test w) 13 (joined_tests w) i h))
    (λ (h : 13 ≤ i). rw (no_places w i h, no_spread (segments_of w) 0) (omega arith))
    (below_or i 13))

two_few : (b : ℕ) → length (spread_runs b (all 8) 2) ≤ 8
unfolding spread_runs places_runs
two_few b = omega arith

-- ---- a resource has at most eight runs, one that lies in a segment three
pub runs_few : (n g : ℕ) (r : Resource) → length (runs_of n g r) ≤ 8
unfolding runs_of joined_runs
runs_few n g (Single S26 i) = omega (arith, in_few n g S26 i)
runs_few n g (Single S52 i) = omega (arith, in_few n g S52 i)
runs_few n g (Single S106 i) = omega (arith, in_few n g S106 i)
runs_few n g (Single S242 i) = omega (arith, in_few n g S242 i)
runs_few n g (Single S484 i) = omega (arith, places_few (4 * g) (3 * 4 ^ (i - 1)))
runs_few n g (Single S996 i) = omega (arith, places_few (4 * g) 15)
runs_few n g (Single S2x996 i) = two_few (8 * (g / 2))
runs_few n g (Joined P106And26 i) = omega (arith, with_26_few n (4 * g + (i - 1) / 2) ((i - 1) % 2))
runs_few n g (Joined P484And242 i) = omega (arith, places_few (4 * g) (15 - 2 ^ (i - 1)))
runs_few n g (Joined P996And484 i) = joined_few _ P996And484 i
runs_few n g (Joined P3x996 i) = joined_few _ P3x996 i
runs_few n g (Joined P2x996And484 i) = joined_few _ P2x996And484 i
runs_few n g (Joined P3x996And484 i) = joined_few _ P3x996And484 i

-- ---- some runs, and behind them as many of x as fill n places
module _ (x : Run) where
  full : (n m : ℕ) (rs : List Run) → n ≤ length rs + m → length (take n (rs ++ replicate m x)) ≡ n
  full zero m rs h = refl
  full (suc n) zero [] h = absurd (omega arith)
  full (suc n) (suc m) [] h = ap suc (full n m [] (omega arith))
  full (suc n) m (r ∷ rs) h = ap suc (full n m rs (omega arith))

  filled : (n m : ℕ) → n ≤ m → take n (replicate m x) ≡ replicate n x
  filled zero m h = refl
  filled (suc n) zero h = absurd (omega arith)
  filled (suc n) (suc m) h = ap (x ∷◌) (filled n m (omega arith))

  -- one more in the first place that is free
  one_more : (n m : ℕ) (rs : List Run) (a : Run) → length rs < n → n ≤ length rs + m
      → set (take n (rs ++ replicate m x)) (length rs) a ≡ take n ((rs ++ (a ∷ [])) ++ replicate m x)
  one_more zero m rs a h l = absurd (omega arith)
  one_more (suc n) zero [] a h l = absurd (omega arith)
  one_more (suc n) (suc m) [] a h l = ap (a ∷◌) (filled n m (omega arith) ∙ sym (filled n (suc m) (omega arith)))
  one_more (suc n) m (r ∷ rs) a h l = ap (r ∷◌) (one_more n m rs a (omega arith) (omega arith))

first : (n : ℕ) (rs ys : List Run) → length rs ≤ n → take (length rs) (take n (rs ++ ys)) ≡ rs
first n [] ys h = refl
first zero (r ∷ rs) ys h = absurd (omega arith)
first (suc n) (r ∷ rs) ys h = ap (r ∷◌) (first n rs ys (omega arith))

-- eight are held, and of these the resource's runs are the first
pub held_eight : (rs : List Run) → length (held rs).runs ≡ 8
unfolding held
held_eight rs = full no_run 8 8 rs (omega arith)

pub held_count : (rs : List Run) → (held rs).count ≡ length rs
unfolding held
held_count rs = refl

pub held_few : (t : Tones) (rs : List Run) → t ≡ held rs → length rs ≤ 8 → (t.count ≤ 8) × (length t.runs ≡ 8)
held_few t rs e h = (rw e (omega (arith, held_count rs)), rw e (held_eight rs))

pub held_runs : (rs : List Run) → length rs ≤ 8 → take (held rs).count (held rs).runs ≡ rs
unfolding held
held_runs rs h = first 8 rs (replicate 8 no_run) h

-- one run more, after the others
pub held_after : (a : Run) (rs : List Run) (t : Tones) → t ≡ held rs → t.count < 8
    → record { count = t.count + 1; runs = set t.runs t.count a } ≡ held (rs ++ (a ∷ []))
unfolding held
held_after a rs t e h =
    let l : length rs < 8 = rw e at h in
    rw (e, one_more no_run 8 8 rs a l (omega arith), length-append rs (a ∷ []))

-- one run more, before the others
seven : (xs : List Run) → 7 ≤ length xs
    → take 7 xs
    ≡ get_or (take 8 xs) 0 no_run
    ∷ get_or (take 8 xs) 1 no_run
    ∷ get_or (take 8 xs) 2 no_run
    ∷ get_or (take 8 xs) 3 no_run
    ∷ get_or (take 8 xs) 4 no_run
    ∷ get_or (take 8 xs) 5 no_run
    ∷ get_or (take 8 xs) 6 no_run
    ∷ []
seven [] h = absurd (omega arith)
seven (a ∷ []) h = absurd (omega arith)
seven (a ∷ b ∷ []) h = absurd (omega arith)
seven (a ∷ b ∷ c ∷ []) h = absurd (omega arith)
seven (a ∷ b ∷ c ∷ d ∷ []) h = absurd (omega arith)
seven (a ∷ b ∷ c ∷ d ∷ e ∷ []) h = absurd (omega arith)
seven (a ∷ b ∷ c ∷ d ∷ e ∷ f ∷ []) h = absurd (omega arith)
seven (a ∷ b ∷ c ∷ d ∷ e ∷ f ∷ g ∷ xs) h = refl

pub held_before : (a : Run) (rs : List Run) (t : Tones) → t ≡ held rs
    → record {
      count = t.count + 1;
      runs =
          a
          ∷ get_or t.runs 0 no_run
          ∷ get_or t.runs 1 no_run
          ∷ get_or t.runs 2 no_run
          ∷ get_or t.runs 3 no_run
          ∷ get_or t.runs 4 no_run
          ∷ get_or t.runs 5 no_run
          ∷ get_or t.runs 6 no_run
          ∷ [];
    }
    ≡ held (a ∷ rs)
unfolding held
held_before a rs t e =
    rw (e, add-one (length rs), ← seven (rs ++ replicate 8 no_run) (omega (arith, length-append rs (replicate 8 no_run))))

-- the runs of another after them, one by one
pub held_next : (rs ws : List Run) (u : Tones) (k : ℕ) → u ≡ held ws → k < u.count → u.count ≤ 8
    → (rs ++ take k ws) ++ (get_or u.runs k no_run ∷ []) ≡ rs ++ take (k + 1) ws
unfolding held
held_next rs ws u k e h l =
    let m : k < length ws = rw e at h in
    let ys = replicate 8 no_run in
    let x : get_or (take 8 (ws ++ ys)) k no_run ≡ get_or ws k no_run = get_or-take 8 (ws ++ ys) k no_run (omega arith) ∙ get_or-append ws ys no_run k m in
    rw (e, x, add-one k, take-suc ws k no_run m) (append_assoc rs (take k ws) _)

pub held_whole : (rs ws : List Run) (u : Tones) (k : ℕ) → u ≡ held ws → k ≡ u.count → rs ++ take k ws ≡ rs ++ ws
unfolding held
held_whole rs ws u k e f = let c : k ≡ length ws = f ∙ rw e in ap (rs ++◌) (take_all k ws (omega (arith, c)))
