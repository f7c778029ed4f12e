-- The things of two frames item by item: what stands among them.
use mathlib.Core.Path.{◌≡◌, refl, sym, subst}
use mathlib.Core.Bool.{Bool, true, false, cond}
use mathlib.Core.List.Memᴰ
use mathlib.Core.List.{[], ◌∷◌, ◌++◌, Memᴰ}
use mathlib.Core.Logic.{⊎_elim}
use Prim.Native.Nat.{ℕ, zero, suc, ◌≤◌, ◌<◌}
use native.Mathlib.Omega.{arith}
use native.Mathlib.Nat.{eq-or-lt_of_le, le_of_suc-le-suc}
use lib.Dec.{ltb}
use borrow.Author.Tests.{lt-ltb, ltb-true, ltb-false}
use Rattle.compared.specs.Reading.{Item}
use Rattle.compared.specs.Differences.{Difference, by, nth, in_turn, longer, turns}
use Rattle.compared.proofs.Keep.{Each, each_append}

-- ---- the i-th of n
pub nth_each : (P : Difference → Type 0) (s : ℕ) (f : ℕ → Item) (n i : ℕ) → (i < n → P (by s (f i))) → Each P (nth s f n i)
unfolding nth
nth_each P s f n i p d = go (ltb i n) refl
  where
    go : (t : Bool) → ltb i n ≡ t → Memᴰ d (cond t (by s (f i) ∷ []) []) → P d
    go true e m = subst P (sym (Memᴰ.eq_of_singleton m)) (p (ltb-true i n e))
    go false e m = absurd (Memᴰ.not-nil m)

nth_there : (s : ℕ) (f : ℕ → Item) (n i : ℕ) → i < n → Memᴰ (by s (f i)) (nth s f n i)
unfolding nth
nth_there s f n i l = rw (lt-ltb i n l) (Memᴰ.head refl)

-- ---- in turn
module _ (f : ℕ → Item) (m : ℕ) (g : ℕ → Item) (n : ℕ) where
  pub turn_each : (P : Difference → Type 0) (k : ℕ) → ((i : ℕ) → i < k → i < m → P (by 1 (f i))) → ((i : ℕ) → i < k → i < n → P (by 2 (g i)))
      → Each P (in_turn f m g n k)
  unfolding in_turn
  turn_each P zero p q d h = absurd (Memᴰ.not-nil h)
  turn_each P (suc k) p q d h =
      each_append P (in_turn f m g n k) (nth 1 f m k ++ nth 2 g n k)
      (turn_each P k (λ i l. p i (omega arith)) (λ i l. q i (omega arith)))
      (each_append P (nth 1 f m k) (nth 2 g n k) (nth_each P 1 f m k (p k (omega arith))) (nth_each P 2 g n k (q k (omega arith))))
      d h

  in_turn_1 : (k i : ℕ) → i < k → i < m → Memᴰ (by 1 (f i)) (in_turn f m g n k)
  unfolding in_turn
  in_turn_1 zero i l h = absurd (omega arith)
  in_turn_1 (suc k) i l h =
      ⊎_elim
      (λ (e : i ≡ k). Memᴰ.append_right (in_turn f m g n k) (Memᴰ.append_left {s = nth 1 f m k} (nth 2 g n k) (rw (← e) (nth_there 1 f m i h))))
      (λ (j : i < k). Memᴰ.append_left (nth 1 f m k ++ nth 2 g n k) (in_turn_1 k i j h))
      (eq-or-lt_of_le (le_of_suc-le-suc l))

  in_turn_2 : (k i : ℕ) → i < k → i < n → Memᴰ (by 2 (g i)) (in_turn f m g n k)
  unfolding in_turn
  in_turn_2 zero i l h = absurd (omega arith)
  in_turn_2 (suc k) i l h =
      ⊎_elim
      (λ (e : i ≡ k). Memᴰ.append_right (in_turn f m g n k) (Memᴰ.append_right (nth 1 f m k) (rw (← e) (nth_there 2 g n i h))))
      (λ (j : i < k). Memᴰ.append_left (nth 1 f m k ++ nth 2 g n k) (in_turn_2 k i j h))
      (eq-or-lt_of_le (le_of_suc-le-suc l))

-- ---- up to the longer
pub longer_ge : (m n : ℕ) → (m ≤ longer m n) × (n ≤ longer m n)
unfolding longer
longer_ge m n = go (ltb m n) refl
  where
    go : (t : Bool) → ltb m n ≡ t → (m ≤ cond t n m) × (n ≤ cond t n m)
    go true e = let h = ltb-true m n e in (omega arith, omega arith)
    go false e = let h = ltb-false m n e in (omega arith, omega arith)

pub longer_swap : (m n : ℕ) → longer m n ≡ longer n m
unfolding longer
longer_swap m n = go (ltb m n) refl (ltb n m) refl
  where
    go : (t : Bool) → ltb m n ≡ t → (u : Bool) → ltb n m ≡ u → cond t n m ≡ cond u m n
    go true e true f = omega (arith, ltb-true m n e, ltb-true n m f)
    go true e false f = refl
    go false e true f = refl
    go false e false f = omega (arith, ltb-false m n e, ltb-false n m f)

module _ (f : ℕ → Item) (m : ℕ) (g : ℕ → Item) (n : ℕ) where
  pub turns_each : (P : Difference → Type 0) → ((i : ℕ) → i < m → P (by 1 (f i))) → ((i : ℕ) → i < n → P (by 2 (g i))) → Each P (turns f m g n)
  unfolding turns
  turns_each P p q = turn_each f m g n P (longer m n) (λ i l. p i) (λ i l. q i)

  pub in_turns_1 : (i : ℕ) → i < m → Memᴰ (by 1 (f i)) (turns f m g n)
  unfolding turns
  in_turns_1 i l = in_turn_1 f m g n (longer m n) i (omega (arith, (longer_ge m n).0)) l

  pub in_turns_2 : (i : ℕ) → i < n → Memᴰ (by 2 (g i)) (turns f m g n)
  unfolding turns
  in_turns_2 i l = in_turn_2 f m g n (longer m n) i (omega (arith, (longer_ge m n).1)) l
