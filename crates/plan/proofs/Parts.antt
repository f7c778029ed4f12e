-- The parts of a row: plans of parts beside one another are a plan, a plan of the row is one of each of its widest parts, and a row whose segments
-- all lie in parts with a plan has one.
use mathlib.Core.Path.{◌≡◌, refl, sym, ◌∙◌, subst}
use mathlib.Core.Logic.{◌⊎◌, inl, inr, ⊎_elim}
use mathlib.Core.Bool.{true, cond, ◌||◌}
use mathlib.Core.List.{List}
use Prim.Native.Nat.{ℕ, ◌+◌, ◌*◌, ◌/◌, ◌%◌, ◌≤◌, ◌<◌}
use native.Mathlib.Omega.{arith}
use lib.Dec.{ltb}
use lib.ListN.{length}
use borrow.Author.Tests.{lt-ltb, le-ltb}
use Rattle.answer.specs.Lists.{at}
use Rattle.resource.proofs.Test.{below_or}
use Rattle.kinds.specs.Kinds.{family, must_name}
use Rattle.kinds.specs.Signals.{Place, Fits, Signals}
use Rattle.kinds.proofs.Tests.{Tested, move, or_tested}
use Rattle.kinds.proofs.Table.{powers}
use Rattle.kinds.proofs.Fitting.{known}
use Rattle.plan.specs.Answers.{segments, SomePlan, part_end, PartPlan, Held}
use Rattle.plan.specs.Engine.{only_plan, part_right, held_by}
use Rattle.plan.proofs.Found.{right_tested, part_agrees}

-- ---- two plans, side by side
module _ (row o₁ o₂ : ℕ → ℕ) (a m b : ℕ) (l : a ≤ m) (u : m ≤ b) (s₁ : Signals o₁ row a m) (s₂ : Signals o₂ row m b) where
  o : ℕ → ℕ
  o p = cond (ltb p m) (o₁ p) (o₂ p)

  lower : (p : ℕ) → p < m → o p ≡ o₁ p
  unfolding o
  lower p h = rw (lt-ltb p m h)

  upper : (p : ℕ) → m ≤ p → o p ≡ o₂ p
  unfolding o
  upper p h = rw (le-ltb p m h)

  joined : Signals o row a b
  joined = record {
    fits = λ p i j. ⊎_elim
        (λ h. subst (λ (x : ℕ). Fits x p (row p)) (sym (lower p h)) (s₁.fits p i h))
        (λ h. subst (λ (x : ℕ). Fits x p (row p)) (sym (upper p h)) (s₂.fits p h j))
        (below_or p m);
    entire = λ p q i j k. ⊎_elim
        (λ h.
        let r = s₁.entire p q i h (subst (λ (x : ℕ). Place x p q) (lower p h) k) in
        (r.0, omega arith, lower q r.1 ∙ r.2 ∙ sym (lower p h)))
        (λ h.
        let r = s₂.entire p q h j (subst (λ (x : ℕ). Place x p q) (upper p h) k) in
        (omega arith, r.1, upper q r.0 ∙ r.2 ∙ sym (upper p h)))
        (below_or p m);
    named = λ p i j. ⊎_elim
        (λ h. subst (λ (x : ℕ). must_name x ≡ true → (q : ℕ) × Place x p q × (row q / 8 ≡ family x)) (sym (lower p h)) (s₁.named p i h))
        (λ h. subst (λ (x : ℕ). must_name x ≡ true → (q : ℕ) × Place x p q × (row q / 8 ≡ family x)) (sym (upper p h)) (s₂.named p h j))
        (below_or p m);
  }

join : (row : List ℕ) (a m b : ℕ) → a ≤ m → m ≤ b → SomePlan row a m → SomePlan row m b → SomePlan row a b
join row a m b l u p q = (o (at row) p.0 q.0 a m b l u p.1 q.1, joined (at row) p.0 q.0 a m b l u p.1 q.1)

-- ---- a plan of the whole is one of each of its parts that no resource leaves: a part that ends with a span of the widest, or with the whole
place_widest : (c p q : ℕ) → c < 36 → Place c p q → q / 16 ≡ p / 16
place_widest c p q h w =
    ⊎_elim (λ e. let g = rw e at w.0 in omega arith)
    (⊎_elim (λ e. let g = rw e at w.0 in omega arith)
    (⊎_elim (λ e. let g = rw e at w.0 in omega arith) (⊎_elim (λ e. let g = rw e at w.0 in omega arith) (λ e. rw e at w.0)))) (powers c h)

restrict : (o row : ℕ → ℕ) (a b c d : ℕ) → a ≤ c → d ≤ b → c % 16 ≡ 0 → (d % 16 ≡ 0) ⊎ (d ≡ b) → Signals o row a b → Signals o row c d
restrict o row a b c d lc ld ec ed s = record {
  fits = λ p l u. s.fits p (omega arith) (omega arith);
  entire = λ p q l u h.
      let r = s.entire p q (omega arith) (omega arith) h in
      let e = place_widest (o p) p q (known (o p) p (row p) (s.fits p (omega arith) (omega arith))) h in
      (omega arith, ⊎_elim (λ z. omega arith) (λ z. omega arith) ed, r.2);
  named = λ p l u m. s.named p (omega arith) (omega arith) m;
}

module _ (row : List ℕ) where
  ends_well : (k : ℕ) → (part_end row 16 k % 16 ≡ 0) ⊎ (part_end row 16 k ≡ length row)
  ends_well k = ⊎_elim (λ (l : 16 * k + 16 < length row). inl (omega arith)) (λ (l : length row ≤ 16 * k + 16). inr (omega arith))
      (below_or (16 * k + 16) (length row))

  pub widest_part : (o : ℕ → ℕ) → Signals o (at row) 0 (length row) → (k : ℕ) → Signals o (at row) (16 * k) (part_end row 16 k)
  widest_part o s k = restrict o (at row) 0 (length row) (16 * k) (part_end row 16 k) (omega arith) (omega arith) (omega arith) (ends_well k) s

  -- so each segment of a row with a plan lies in a part with one
  pub plan_holds : SomePlan row 0 (length row) → (s : ℕ) → Held row s
  plan_holds w s = (16, inr (inr refl), (w.0, widest_part w.0 w.1 (4 * s / 16)))

  -- and back: where the only plan signals each of the widest parts, it signals the row
  pub widest_all : ((k : ℕ) → 16 * k < length row → Signals (only_plan (at row)) (at row) (16 * k) (part_end row 16 k))
      → Signals (only_plan (at row)) (at row) 0 (length row)
  widest_all f = record {
    fits = λ p l u. (f (p / 16) (omega arith)).fits p (omega arith) (omega arith);
    entire = λ p q l u w. let r = (f (p / 16) (omega arith)).entire p q (omega arith) (omega arith) w in (omega arith, omega (arith, r.1), r.2);
    named = λ p l u m. (f (p / 16) (omega arith)).named p (omega arith) (omega arith) m;
  }

  -- ---- what holds a segment: the widest part, the half, or itself
  module _ (s : ℕ) where
    abbrev Holder : Type 0
    Holder = PartPlan row 16 (s / 4) ⊎ (PartPlan row 8 (s / 2) ⊎ PartPlan row 4 s)

    holds : Holder → Held row s
    holds (inl w) = (16, inr (inr refl), subst (PartPlan row 16) (omega arith) w)
    holds (inr (inl w)) = (8, inr (inl refl), subst (PartPlan row 8) (omega arith) w)
    holds (inr (inr w)) = (4, inl refl, subst (PartPlan row 4) (omega arith) w)

    pub held_by_lem : Held row s → Holder
    held_by_lem (n, inl e, w) = inr (inr (subst (PartPlan row 4) (omega arith) (subst (λ (m : ℕ). PartPlan row m (4 * s / m)) e w)))
    held_by_lem (n, inr (inl e), w) = inr (inl (subst (PartPlan row 8) (omega arith) (subst (λ (m : ℕ). PartPlan row m (4 * s / m)) e w)))
    held_by_lem (n, inr (inr e), w) = inl (subst (PartPlan row 16) (omega arith) (subst (λ (m : ℕ). PartPlan row m (4 * s / m)) e w))

    pub held_tested : Tested (held_by row s) (Held row s)
    unfolding held_by
    held_tested = move (part_right row 16 (s / 4) || (part_right row 8 (s / 2) || part_right row 4 s)) Holder (Held row s) holds held_by_lem
        (or_tested (part_right row 16 (s / 4)) (part_right row 8 (s / 2) || part_right row 4 s) (PartPlan row 16 (s / 4))
        (PartPlan row 8 (s / 2) ⊎ PartPlan row 4 s)
        (right_tested row 16 (inr (inr refl)) (s / 4))
        (or_tested (part_right row 8 (s / 2)) (part_right row 4 s) (PartPlan row 8 (s / 2)) (PartPlan row 4 s)
        (right_tested row 8 (inr (inl refl)) (s / 2)) (right_tested row 4 (inl refl) s)))

  -- ---- two parts beside one another are the next wider one
  pair : (n m k : ℕ) → m ≡ 2 * n → n * (2 * k) ≡ m * k → n * (2 * k + 1) ≡ m * k + n → PartPlan row n (2 * k)
      → (n * (2 * k + 1) < length row → PartPlan row n (2 * k + 1)) → PartPlan row m k
  pair n m k d e f p g =
      ⊎_elim
      (λ (l : n * (2 * k + 1) < length row).
      join row (m * k) (n * (2 * k + 1)) (part_end row m k) (omega arith) (omega arith)
      (subst (λ (x : ℕ). SomePlan row x (n * (2 * k + 1))) e (subst (SomePlan row (n * (2 * k))) (omega arith) p))
      (subst (SomePlan row (n * (2 * k + 1))) (omega arith) (g l)))
      (λ (l : length row ≤ n * (2 * k + 1)). subst (λ (x : ℕ). SomePlan row x (part_end row m k)) e (subst (SomePlan row (n * (2 * k))) (omega arith) p))
      (below_or (n * (2 * k + 1)) (length row))

  pair_4 : (k : ℕ) → PartPlan row 4 (2 * k) → (4 * (2 * k + 1) < length row → PartPlan row 4 (2 * k + 1)) → PartPlan row 8 k
  pair_4 k = pair 4 8 k refl (omega arith) (omega arith)

  pair_8 : (k : ℕ) → PartPlan row 8 (2 * k) → (8 * (2 * k + 1) < length row → PartPlan row 8 (2 * k + 1)) → PartPlan row 16 k
  pair_8 k = pair 8 16 k refl (omega arith) (omega arith)

  -- ---- where every segment is held
  module _ (held : (s : ℕ) → s < segments row → Held row s) where
    holder : (s : ℕ) → s < segments row → Holder s
    holder s l = held_by_lem s (held s l)

    -- a half has a plan, unless the widest part around it has
    half : (k : ℕ) → 8 * k < length row → PartPlan row 16 (k / 2) ⊎ PartPlan row 8 k
    half k l = first (holder (2 * k) (omega arith))
      where
        e₁ : 2 * k / 4 ≡ k / 2
        e₁ = omega arith

        e₂ : 2 * k / 2 ≡ k
        e₂ = omega arith

        f₁ : (2 * k + 1) / 4 ≡ k / 2
        f₁ = omega arith

        f₂ : (2 * k + 1) / 2 ≡ k
        f₂ = omega arith

        second : PartPlan row 4 (2 * k) → 4 * (2 * k + 1) < length row → PartPlan row 16 (k / 2) ⊎ PartPlan row 8 k
        second p m = ⊎_elim (λ w. inl (subst (PartPlan row 16) f₁ w)) (⊎_elim (λ w. inr (subst (PartPlan row 8) f₂ w)) (λ w. inr (pair_4 k p (λ _. w))))
            (holder (2 * k + 1) (omega arith))

        first : Holder (2 * k) → PartPlan row 16 (k / 2) ⊎ PartPlan row 8 k
        first (inl w) = inl (subst (PartPlan row 16) e₁ w)
        first (inr (inl w)) = inr (subst (PartPlan row 8) e₂ w)
        first (inr (inr p)) =
            ⊎_elim (second p) (λ (m : length row ≤ 4 * (2 * k + 1)). inr (pair_4 k p (λ n. absurd (omega arith)))) (below_or (4 * (2 * k + 1)) (length row))

    widest : (k : ℕ) → 16 * k < length row → PartPlan row 16 k
    widest k l = first (half (2 * k) (omega arith))
      where
        e : 2 * k / 2 ≡ k
        e = omega arith

        f : (2 * k + 1) / 2 ≡ k
        f = omega arith

        first : PartPlan row 16 (2 * k / 2) ⊎ PartPlan row 8 (2 * k) → PartPlan row 16 k
        first (inl w) = subst (PartPlan row 16) e w
        first (inr p) =
            ⊎_elim (λ m. ⊎_elim (λ w. subst (PartPlan row 16) f w) (λ w. pair_8 k p (λ _. w)) (half (2 * k + 1) (omega arith)))
            (λ (m : length row ≤ 8 * (2 * k + 1)). pair_8 k p (λ n. absurd (omega arith))) (below_or (8 * (2 * k + 1)) (length row))

    -- .. the only plan signals the row
    pub held_signals : Signals (only_plan (at row)) (at row) 0 (length row)
    held_signals = widest_all (λ k l. unfold only_plan in (let w = widest k l in part_agrees row 16 (inr (inr refl)) k w.0 w.1))
