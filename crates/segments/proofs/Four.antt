-- A whole segment is right where its four positions fit what it gives them to: no place of its resources is missing.
use mathlib.Core.Path.{◌≡◌, refl, ◌∙◌, ap}
use mathlib.Core.Logic.{⊎_elim}
use mathlib.Core.Bool.{Bool, true, ◌&&◌}
use Prim.Native.Nat.{ℕ, ◌+◌, ◌%◌, ◌≤◌, ◌<◌}
use native.Mathlib.Omega.{arith}
use Rattle.kinds.proofs.Places.{place_segment}
use Rattle.kinds.proofs.Tests.{equal_or}
use Rattle.segments.specs.Engine.{segment_plan, fitting, within, right_at, four_right}
use Rattle.segments.proofs.Within.{yes_within}
use Rattle.segments.proofs.Only.{segment_known}
use Rattle.segments.proofs.Found.{and_left, and_right}

-- what is asked of a kind, of what it is
pub fitted : (k c p v : ℕ) (r : Bool) → r ≡ fitting k p v → k ≡ c → r ≡ fitting c p v
fitted k c p v r e f = e ∙ ap (λ (x : ℕ). fitting x p v) f

module _ (row : ℕ → ℕ) (n b : ℕ) (whole : b % 4 ≡ 0) (inside : b + 3 < n) where
  abbrev fits : ℕ → Bool
  fits p = fitting (segment_plan row p) p (row p)

  lies : (p : ℕ) → b ≤ p → p < b + 4 → within (segment_plan row p) p n ≡ true
  lies p l u =
      let k = segment_known row p in
      yes_within (segment_plan row p) p n (omega arith) (omega arith) (λ q w. let e = place_segment (segment_plan row p) p q k w in omega arith)

  pub four_right_lem : four_right row b ≡ true → (p : ℕ) → b ≤ p → p < b + 4 → right_at row n p ≡ true
  unfolding four_right right_at
  four_right_lem e p l u =
      let one = fits b && fits (b + 1) in
      let two = one && fits (b + 2) in
      let x = and_left two (fits (b + 3)) e in
      let y = and_left one (fits (b + 2)) x in
      let first = and_left (fits b) (fits (b + 1)) y in
      let second = and_right (fits b) (fits (b + 1)) y in
      let z = at_four fits first second (and_right one (fits (b + 2)) x) (and_right two (fits (b + 3)) e) p l u in
      rw (lies p l u, z) refl
    where
      at_four : (f : ℕ → Bool) → f b ≡ true → f (b + 1) ≡ true → f (b + 2) ≡ true → f (b + 3) ≡ true → (p : ℕ) → b ≤ p → p < b + 4 → f p ≡ true
      at_four f i j k m p l u = ⊎_elim (λ e. rw e i) (λ d. ⊎_elim (λ e. rw e j) (λ g. ⊎_elim (λ e. rw e k)
          (λ h. let e : p ≡ b + 3 = omega arith in rw e m) (equal_or p (b + 2))) (equal_or p (b + 1))) (equal_or p b)

  pub right_four : ((p : ℕ) → b ≤ p → p < b + 4 → right_at row n p ≡ true) → four_right row b ≡ true
  unfolding four_right right_at
  right_four h = rw (
    f b (omega arith) (omega arith),
    f (b + 1) (omega arith) (omega arith),
    f (b + 2) (omega arith) (omega arith),
    f (b + 3) (omega arith) (omega arith),
  ) refl
    where
      f : (p : ℕ) → b ≤ p → p < b + 4 → fits p ≡ true
      f p l u = and_left _ _ (h p l u)
