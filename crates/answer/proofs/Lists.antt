-- The laws of lists by their elements, and of a lent buffer whose front is written, which every writing loop cites.
use mathlib.Core.Path.{◌≡◌, refl, sym, ◌∙◌, ap}
use mathlib.Core.Logic.{⊎_elim}
use mathlib.Core.Bool.{Bool, true, false}
use mathlib.Core.List.{List, [], ◌∷◌, ◌++◌, append_assoc, append-nil}
use Prim.Native.Nat.{ℕ, zero, suc, ◌+◌, ◌-◌, ◌≤◌, ◌<◌}
use native.Mathlib.Omega.{arith}
use native.Mathlib.Numerals.{add-one}
use native.Mathlib.Nat.{eq-or-lt_of_le, add-zero, add-suc}
use lib.ListN.{length, get_or, set, take, drop, length-append, length-drop, get_or-append}
use lib.Dec.{ltb}
use lib.Seq.{drop-cons, set_at, get_or_at, take_at, drop_at, get_or-append-add, get_or-drop, ext_get_or}
use borrow.Author.Tests.{ltb-true, ltb-false}
use Rattle.answer.specs.Lists.{build, filled, Front}

module _ {A : Type 0} where
  pub length_build : (f : ℕ → A) (n : ℕ) → length (build f n) ≡ n
  unfolding build
  length_build f zero = refl
  length_build f (suc n) = length-append (build f n) (f n ∷ []) ∙ omega (arith, length_build f n)

  -- only the elements below n count
  pub build_cong : (f g : ℕ → A) (n : ℕ) → ((k : ℕ) → k < n → f k ≡ g k) → build f n ≡ build g n
  unfolding build
  build_cong f g zero h = refl
  build_cong f g (suc n) h = rw (build_cong f g n (λ k l. h k (omega arith)), h n (omega arith))

  pub get_d_build : (f : ℕ → A) (n i : ℕ) (d : A) → i < n → get_or (build f n) i d ≡ f i
  unfolding build
  get_d_build f zero i d l = absurd (omega arith)
  get_d_build f (suc n) i d l =
      ⊎_elim
      (λ (e : i ≡ n). rw e (get_or_at (build f n) (f n) [] d n (length_build f n)))
      (λ (m : i < n). get_or-append (build f n) (f n ∷ []) d i (omega (arith, length_build f n)) ∙ get_d_build f n i d m)
      (eq-or-lt_of_le {n = i} {m = n} (omega arith))

  -- a list is built of its elements
  pub build_is : (f : ℕ → A) (d : A) (l : List A) (n : ℕ) → length l ≡ n → ((i : ℕ) → i < n → get_or l i d ≡ f i) → l ≡ build f n
  build_is f d l n e h =
      ext_get_or d l (build f n) (e ∙ sym (length_build f n))
      (λ i m. h i (omega arith) ∙ sym (get_d_build f n i d (omega arith)))

  -- first m elements, then n more
  pub build_append : (f : ℕ → A) (m n : ℕ) → build f (m + n) ≡ build f m ++ build (λ i. f (m + i)) n
  unfolding build
  build_append f m zero = rw (add-zero m, append-nil)
  build_append f m (suc n) = rw (add-suc m n, build_append f m n, append_assoc)

  -- a writing loop that goes up from 0: nothing written; one more written; all written
  pub filled_start : (f : ℕ → A) (w : List A) → w ≡ filled f 0 w
  unfolding filled build
  filled_start f w = refl

  pub filled_step : (f : ℕ → A) (n : ℕ) (x : A) (w : List A) → n < length w → x ≡ f n → set (filled f n w) n x ≡ filled f (n + 1) w
  unfolding filled build
  filled_step f n x w l e =
      rw (drop-cons w n x l, e, add-one n, set_at (build f n) (get_or w n (f n)) (drop (suc n) w) (f n) n (length_build f n), append_assoc)

  pub filled_length : (f : ℕ → A) (n : ℕ) (w : List A) → n ≤ length w → length (filled f n w) ≡ length w
  unfolding filled
  filled_length f n w l = length-append (build f n) (drop n w) ∙ omega (arith, length_build f n, length-drop n w)

  pub filled_cong : (f g : ℕ → A) (n : ℕ) (w : List A) → ((k : ℕ) → k < n → f k ≡ g k) → filled f n w ≡ filled g n w
  unfolding filled
  filled_cong f g n w h = rw (build_cong f g n h)

  -- what stands below n, and what stands from n on
  pub get_d_filled : (f : ℕ → A) (n : ℕ) (w : List A) (i : ℕ) (d : A) → i < n → get_or (filled f n w) i d ≡ f i
  unfolding filled
  get_d_filled f n w i d l =
      get_or-append (build f n) (drop n w) d i (omega (arith, length_build f n)) ∙ get_d_build f n i d l

  pub get_d_kept : (f : ℕ → A) (n : ℕ) (w : List A) (i : ℕ) (d : A) → n ≤ i → get_or (filled f n w) i d ≡ get_or w i d
  unfolding filled
  get_d_kept f n w i d l =
      let e : i ≡ length (build f n) + (i - n) = omega (arith, length_build f n) in
      let e' : n + (i - n) ≡ i = omega arith in
      ap (λ k. get_or (build f n ++ drop n w) k d) e
      ∙ get_or-append-add (build f n) (drop n w) (i - n) d
      ∙ get_or-drop n w (i - n) d
      ∙ ap (λ k. get_or w k d) e'

  pub take_filled : (f : ℕ → A) (n : ℕ) (w : List A) → take n (filled f n w) ≡ build f n
  unfolding filled
  take_filled f n w = take_at (build f n) (drop n w) n (length_build f n)

  pub drop_filled : (f : ℕ → A) (n : ℕ) (w : List A) → drop n (filled f n w) ≡ drop n w
  unfolding filled
  drop_filled f n w = drop_at (build f n) (drop n w) n (length_build f n)

  -- a buffer is known by its elements
  pub filled_is : (f : ℕ → A) (d : A) (n : ℕ) (v w : List A) → length v ≡ length w → n ≤ length w
      → ((i : ℕ) → i < n → get_or v i d ≡ f i) → ((i : ℕ) → n ≤ i → get_or v i d ≡ get_or w i d) → v ≡ filled f n w
  filled_is f d n v w e l h k =
      ext_get_or d v (filled f n w) (e ∙ sym (filled_length f n w l))
      (λ i m. go i (ltb i n) refl)
    where
      go : (i : ℕ) (t : Bool) → ltb i n ≡ t → get_or v i d ≡ get_or (filled f n w) i d
      go i true t = let b : i < n = ltb-true i n t in h i b ∙ sym (get_d_filled f n w i d b)
      go i false t = let b : n ≤ i = ltb-false i n t in k i b ∙ sym (get_d_kept f n w i d b)

-- what was filled stands in front
pub front_filled : (f : ℕ → ℕ) (n : ℕ) (w v : List ℕ) → v ≡ filled f n w → Front f n v
front_filled f n w v e = record { front = λ i l. ap (λ (z : List ℕ). get_or z i 0) e ∙ get_d_filled f n w i 0 l }
