-- The laws of lists that are gathered one after another: where the elements of each stand, and what holds of them all.
use mathlib.Core.Path.{◌≡◌, ◌∙◌, ap}
use mathlib.Core.Logic.{◌⊎◌, inl, inr, ⊎_elim}
use mathlib.Core.List.{List, ◌++◌}
use Prim.Native.Nat.{ℕ, zero, suc, ◌+◌, ◌-◌, ◌≤◌, ◌<◌}
use native.Mathlib.Decide.{dec_lt}
use native.Mathlib.Nat.{eq-or-lt_of_le}
use native.Mathlib.Numerals.{add-one}
use native.Mathlib.Omega.{arith}
use lib.ListN.{length, get_or, length-append, get_or-append}
use lib.Seq.{get_or-append-add}
use Rattle.stream_rows.specs.Engine.{gather}

module _ {A : Type 0} (f : ℕ → List A) where
  pub gather_next : (n : ℕ) → length (gather f (suc n)) ≡ length (gather f n) + length (f n)
  unfolding gather
  gather_next n = length-append (gather f n) (f n)

  pub gather_mono : (m n : ℕ) → m ≤ n → length (gather f m) ≤ length (gather f n)
  gather_mono m zero l = let e : m ≡ 0 = omega arith in rw e (omega arith)
  gather_mono m (suc n) l =
      ⊎_elim (λ (e : m ≡ suc n). rw e (omega arith)) (λ (h : m < suc n). omega (arith, gather_next n, gather_mono m n (omega arith))) (eq-or-lt_of_le l)

  -- those of f i end no later than all end
  pub gather_within : (n i j : ℕ) → i < n → j < length (f i) → length (gather f i) + j < length (gather f n)
  gather_within n i j l m = omega (arith, gather_next i, gather_mono (suc i) n l)

  -- a search that steps over whole lists, with as many left to go: past f i it comes to the next, and there is one
  pub step_over : (n i left number : ℕ) → i < n → left + length (gather f i) ≡ number → number < length (gather f n) → length (f i) ≤ left
      → (i + 1 < n) × (left - length (f i) + length (gather f (i + 1)) ≡ number)
  step_over n i left number l e h m = rw (add-one i) (
    go (dec_lt (suc i) n),
    omega (arith, gather_next i),
  )
    where
      go : Dec (suc i < n) → suc i < n
      go (yes k) = k
      go (no k) = let d : n ≡ suc i = omega arith in absurd (omega (arith, gather_next i, ap (λ (j : ℕ). length (gather f j)) d))

-- an element of two lists, one after the other, is of the first or of the second
append_at : {A : Type 0} (d : A) (xs ys : List A) (k : ℕ) → k < length (xs ++ ys)
    → ((k < length xs) × (get_or (xs ++ ys) k d ≡ get_or xs k d))
    ⊎ ((length xs ≤ k) × (k - length xs < length ys) × (get_or (xs ++ ys) k d ≡ get_or ys (k - length xs) d))
append_at d xs ys k l = go (dec_lt k (length xs))
  where
    go : Dec (k < length xs)
        → ((k < length xs) × (get_or (xs ++ ys) k d ≡ get_or xs k d))
        ⊎ ((length xs ≤ k) × (k - length xs < length ys) × (get_or (xs ++ ys) k d ≡ get_or ys (k - length xs) d))
    go (yes h) = inl (h, get_or-append xs ys d k h)
    go (no h) =
        let e : k ≡ length xs + (k - length xs) = omega arith in
        inr (omega arith, omega (arith, length-append xs ys), ap (λ (j : ℕ). get_or (xs ++ ys) j d) e ∙ get_or-append-add xs ys (k - length xs) d)

module _ {A : Type 0} (d : A) (f : ℕ → List A) where
  pub gather_at : (n i j : ℕ) → i < n → j < length (f i) → get_or (gather f n) (length (gather f i) + j) d ≡ get_or (f i) j d
  unfolding gather
  gather_at zero i j l m = absurd (omega arith)
  gather_at (suc n) i j l m =
      ⊎_elim
      (λ (e : i ≡ n). rw e (get_or-append-add (gather f n) (f n) j d))
      (λ (h : i < n). get_or-append (gather f n) (f n) d _ (gather_within f n i j h m) ∙ gather_at n i j h m)
      (eq-or-lt_of_le {n = i} {m = n} (omega arith))

  -- what holds of each element of each list
  pub gather_all : (P : A → Type 0) (n : ℕ) → ((i : ℕ) → i < n → (j : ℕ) → j < length (f i) → P (get_or (f i) j d))
      → (k : ℕ) → k < length (gather f n) → P (get_or (gather f n) k d)
  unfolding gather
  gather_all P zero h k l = absurd (omega arith)
  gather_all P (suc n) h k l =
      ⊎_elim
      (λ w. rw w.1 (gather_all P n (λ i m. h i (omega arith)) k w.0))
      (λ w. rw w.2 (h n (omega arith) _ w.1))
      (append_at d (gather f n) (f n) k l)

-- the elements of a list rise by R
pub record Rising {A : Type 0} (d : A) (R : A → A → Type 0) (l : List A) : Type 0 where
  pub rises : (k k' : ℕ) → k < k' → k' < length l → R (get_or l k d) (get_or l k' d)

-- where each list rises, and each element of one comes before each of those after it
pub gather_rising : {A : Type 0} (d : A) (R : A → A → Type 0) (f : ℕ → List A) (n : ℕ) → ((i : ℕ) → i < n → Rising d R (f i))
    → ((i i' j j' : ℕ) → i < i' → i' < n → j < length (f i) → j' < length (f i') → R (get_or (f i) j d) (get_or (f i') j' d))
    → Rising d R (gather f n)
unfolding gather
gather_rising d R f zero h c = record { rises = λ k k' l m. absurd (omega arith) }
gather_rising d R f (suc n) h c =
    let b = gather_rising d R f n (λ i l. h i (omega arith)) (λ i i' j j' l m. c i i' j j' l (omega arith)) in
    let end = length (gather f n) in
    record {
      rises = λ k k' l m.
          let g = length-append (gather f n) (f n) in
          ⊎_elim
          (λ w. ⊎_elim
          (λ w'. rw (w.1, w'.1) (b.rises k k' l w'.0))
          (λ w'. rw (w.1, w'.2) (gather_all d f (λ x. R x (get_or (f n) (k' - end) d)) n (λ i v j q. c i n j (k' - end) v (omega arith) q w'.1) k w.0))
          (append_at d (gather f n) (f n) k' m))
          (λ w. ⊎_elim
          (λ w'. let p = w.0 in let q = w'.0 in absurd (omega arith))
          (λ w'. let p = w.0 in rw (w.2, w'.2) ((h n (omega arith)).rises (k - end) (k' - end) (omega arith) w'.1))
          (append_at d (gather f n) (f n) k' m))
          (append_at d (gather f n) (f n) k (omega arith));
    }
