-- Rows without the values that T-07 adds: nothing in them is given to a resource wider than a segment, and their answer is by segments, as 01 has it.
use mathlib.Core.Path.{◌≡◌, refl, sym, ◌∙◌, subst}
use mathlib.Core.Logic.{◌⊎◌, inl, inr, ⊎_elim}
use mathlib.Core.Bool.{Bool, true, false, not, ◌||◌}
use mathlib.Core.List.{List, [], ◌∷◌}
use Prim.Native.Nat.{ℕ, ◌+◌, ◌*◌, ◌/◌, ◌%◌, ◌≤◌, ◌<◌}
use native.Mathlib.Omega.{arith}
use lib.Dec.{eqb, leb}
use lib.ListN.{length, replicate, get_or-eq_default}
use borrow.Author.Tests.{ltb-false, eqb-false, leb-false, not-true, not-false}
use Rattle.answer.specs.Least.{least}
use Rattle.answer.specs.Lists.{at}
use Rattle.answer.specs.Answer.{Outcome}
use Rattle.answer.proofs.Least.{least_before, least_holds, least_none, least_is}
use Rattle.answer.proofs.Lists.{filled_cong}
use Rattle.resource.proofs.Test.{below_or}
use Rattle.kinds.specs.Kinds.{takes}
use Rattle.kinds.specs.Signals.{Signals}
use Rattle.kinds.specs.Fields.{together}
use Rattle.kinds.proofs.Tests.{decided, refuted, not_both, is_false}
use Rattle.kinds.proofs.Table.{high_named, wide_family, takes_known}
use Rattle.kinds.proofs.Places.{place_segment}
use Rattle.kinds.proofs.Fitting.{known}
use Rattle.segments.specs.Engine.{segment_plan, segment_kinds, right_at, wrong_at, first_wrong, four_right, first_four_wrong}
use Rattle.segments.proofs.Only.{part_ends}
use Rattle.segments.proofs.Found.{right_signals, signals_right}
use Rattle.segments.proofs.Four.{four_right_lem, right_four}
use Rattle.spans.specs.Engine.{named, search, spans_in, part_plan}
use Rattle.plan.specs.Answers.{segments, segment_end, SegmentPlan, SegmentPlanOfEight, part_end, PartPlan, Held, Over}
use Rattle.plan.specs.Answers.{Laid, LaidBySegments, Narrow, NarrowRow}
use Rattle.plan.specs.Answers.Laid.{accepted as laid_accepted, no_plan as laid_no_plan, over_eight as laid_over_eight}
use Rattle.plan.specs.Answers.LaidBySegments.{accepted, no_plan, over_eight}
use Rattle.plan.specs.Engine.{wider, any_wider, only_plan, kinds_of, held_by, first_unheld}
use Rattle.plan.proofs.Naming.{Naming, named_view}
use Rattle.plan.proofs.Only.{part_only}
use Rattle.plan.proofs.Found.{narrow_sought}
use Rattle.plan.proofs.Parts.{plan_holds, held_signals, held_tested}
use Rattle.plan.proofs.Worked.{over_or}

-- ---- in such a row every resource fits a segment
module _ (row : List ℕ) (narrow : NarrowRow row) where
  value_narrow : (q : ℕ) → Narrow (at row q)
  value_narrow q = ⊎_elim (narrow q) (λ l. let e : at row q ≡ 0 = get_or-eq_default row 0 l in (λ f. omega arith, omega arith)) (below_or q (length row))

  pub narrow_kind : (o : ℕ → ℕ) (a b : ℕ) → Signals o (at row) a b → (p : ℕ) → a ≤ p → p < b → o p < 7
  narrow_kind o a b s p l u = ⊎_elim (λ h. h) (λ h. absurd (wide h)) (below_or (o p) 7)
    where
      k : o p < 36
      k = known (o p) p (at row p) (s.fits p l u)

      wide : 7 ≤ o p → ⊥
      wide h =
          let w = s.named p l u (high_named (o p) k (omega arith)) in
          let v = value_narrow w.0 in
          ⊎_elim (λ e. v.0 (w.2 ∙ e)) (λ e. omega (arith, v.1, w.2, e)) (wide_family (o p) k h)

  -- ---- so a plan of a part is one of each segment of it
  restrict : (o : ℕ → ℕ) (a b c d : ℕ) → a ≤ c → d ≤ b → c % 4 ≡ 0 → (d % 4 ≡ 0) ⊎ (d ≡ b) → Signals o (at row) a b → Signals o (at row) c d
  restrict o a b c d lc ld ec ed s = record {
    fits = λ p l u. s.fits p (omega arith) (omega arith);
    entire = λ p q l u h.
        let r = s.entire p q (omega arith) (omega arith) h in
        let e = place_segment (o p) p q (narrow_kind o a b s p (omega arith) (omega arith)) h in
        (omega arith, ⊎_elim (λ z. omega arith) (λ z. omega arith) ed, r.2);
    named = λ p l u m. s.named p (omega arith) (omega arith) m;
  }

  ends_well : (s b : ℕ) → segment_end row s ≤ b → b ≤ length row → (segment_end row s % 4 ≡ 0) ⊎ (segment_end row s ≡ b)
  ends_well s b l u = ⊎_elim (λ (k : 4 * s + 4 < length row). inl (omega arith)) (λ (k : length row ≤ 4 * s + 4). inr (omega arith))
      (below_or (4 * s + 4) (length row))

  segment_signals : (o : ℕ → ℕ) (a b s : ℕ) → a ≤ 4 * s → segment_end row s ≤ b → b ≤ length row → Signals o (at row) a b
      → Signals o (at row) (4 * s) (segment_end row s)
  segment_signals o a b s l u m w = restrict o a b (4 * s) (segment_end row s) l u (omega arith) (ends_well s b u m) w

  -- a segment is held exactly where it has a plan of its own
  pub segment_held : (s : ℕ) → SegmentPlan row s → Held row s
  segment_held s w = (4, inl refl, subst (PartPlan row 4) (omega arith) w)

  pub held_segment : (s : ℕ) → Held row s → SegmentPlan row s
  held_segment s (n, inl e, w) = (v.0, segment_signals v.0 (4 * (4 * s / 4)) (part_end row 4 (4 * s / 4)) s (omega arith) (omega arith) (omega arith) v.1)
    where
      v : PartPlan row 4 (4 * s / 4)
      v = subst (λ (m : ℕ). PartPlan row m (4 * s / m)) e w
  held_segment s (n, inr (inl e), w) =
      (v.0, segment_signals v.0 (8 * (4 * s / 8)) (part_end row 8 (4 * s / 8)) s (omega arith) (omega arith) (omega arith) v.1)
    where
      v : PartPlan row 8 (4 * s / 8)
      v = subst (λ (m : ℕ). PartPlan row m (4 * s / m)) e w
  held_segment s (n, inr (inr e), w) =
      (v.0, segment_signals v.0 (16 * (4 * s / 16)) (part_end row 16 (4 * s / 16)) s (omega arith) (omega arith) (omega arith) v.1)
    where
      v : PartPlan row 16 (4 * s / 16)
      v = subst (λ (m : ℕ). PartPlan row m (4 * s / m)) e w

  -- ---- a segment's plan of eight is the row's there
  module _ (o : ℕ → ℕ) (w : Signals o (at row) 0 (length row)) where
    segment_same : (s : ℕ) (o' : ℕ → ℕ) → Signals o' (at row) (4 * s) (segment_end row s) → (p : ℕ) → 4 * s ≤ p → p < segment_end row s → o p ≡ o' p
    segment_same s o' w' p l u =
        let v = segment_signals o 0 (length row) s (omega arith) (omega arith) (omega arith) w in
        part_only row 4 (inl refl) s o v p l u ∙ sym (part_only row 4 (inl refl) s o' w' p l u)

    pub eight_none : (s : ℕ) → SegmentPlanOfEight row s → Over o row s → ⊥
    eight_none s e v =
        let x = segment_same s e.0 e.1 v.0 (omega (arith, v.2)) (omega (arith, v.1, v.2)) in
        let y : together (o v.0) (at row) v.0 ≤ 8 = rw x (e.2 v.0 (omega (arith, v.2)) (omega (arith, v.1, v.2))) in
        omega (arith, v.3)

    pub none_eight : (s : ℕ) → (Over o row s → ⊥) → SegmentPlanOfEight row s
    none_eight s f = (
      o,
      segment_signals o 0 (length row) s (omega arith) (omega arith) (omega arith) w,
      λ p a b. ⊎_elim (λ g. absurd (f (p, omega arith, omega arith, g))) (λ g. g) (below_or 8 (together (o p) (at row) p)),
    )

  by_segments : (x : Outcome) → Laid row x → LaidBySegments row x
  by_segments x (laid_accepted a) = accepted a
  by_segments x (laid_no_plan s l n f) = no_plan s l (λ w. n (segment_held s w)) (λ t m. held_segment t (f t m))
  by_segments x (laid_over_eight o w s v f) =
      over_eight s (omega (arith, v.1, v.2)) (λ t m. held_segment t (plan_holds row (o, w) t)) (λ e. eight_none o w s e v) (λ t m. none_eight o w t (f t m))

  segments_by : (x : Outcome) → LaidBySegments row x → Laid row x
  segments_by x (accepted a) = laid_accepted a
  segments_by x (no_plan s l n f) = laid_no_plan s l (λ w. n (held_segment s w)) (λ t m. segment_held t (f t m))
  segments_by x (over_eight s l all n f) = laid_over_eight (only_plan (at row)) whole s there (λ t m v. eight_none (only_plan (at row)) whole t (f t m) v)
    where
      whole : Signals (only_plan (at row)) (at row) 0 (length row)
      whole = held_signals row (λ t m. segment_held t (all t m))

      there : Over (only_plan (at row)) row s
      there = over_or row s (λ g. absurd (n (none_eight (only_plan (at row)) whole s g)))

  -- 7 and 8 are, of such a row, what they were by its segments alone
  pub as_before : (x : Outcome) → (Laid row x → LaidBySegments row x) × (LaidBySegments row x → Laid row x)
  as_before x = (by_segments x, segments_by x)

-- ---- what the code asks of such a row
pub narrow_row : (row : List ℕ) → any_wider row ≡ false → NarrowRow row
unfolding any_wider
narrow_row row e p l =
    let m : length row ≤ least (λ q. wider (at row q)) (length row) = ltb-false _ (length row) e in
    narrow_value (at row p) (least_before (λ q. wider (at row q)) (length row) p (omega arith))
  where
    narrow_value : (v : ℕ) → wider v ≡ false → Narrow v
    narrow_value v f = go (eqb (v / 8) 11) (leb 128 v) refl refl (unfold wider in f)
      where
        go : (s t : Bool) → eqb (v / 8) 11 ≡ s → leb 128 v ≡ t → (s || t) ≡ false → Narrow v
        go true t x y z = not_both true refl z
        go false true x y z = not_both true refl z
        go false false x y z = (eqb-false _ _ x, leb-false 128 v y)

module _ (row : List ℕ) (narrow : NarrowRow row) where
  -- nothing wider is named
  nameless : (n : ℕ) → 4 < n → (b : ℕ) → named n (at row) b ≡ 36
  nameless n l b = ⊎_elim (λ h. h.0) (λ w. absurd (wide (named n (at row) b) w)) (named_view n (omega arith) (at row) b)
    where
      wide : (c : ℕ) → Naming n (at row) b c → ⊥
      wide c w =
          let v = value_narrow row narrow (b + w.place) in
          let k : 7 ≤ c = ⊎_elim (λ h. absurd (omega (arith, w.among, narrow_sought c h))) (λ h. h) (below_or c 7) in
          ⊎_elim (λ e. v.0 (w.by ∙ e)) (λ e. omega (arith, v.1, w.by, e)) (wide_family c w.kind k)

  leaves : (n : ℕ) → 4 < n → (ns : List ℕ) (p : ℕ) → search (n ∷ ns) (at row) p ≡ search ns (at row) p
  unfolding search
  leaves n l ns p = rw (is_false (takes (named n (at row) (n * (p / n))) (p % n)) none)
    where
      none : takes (named n (at row) (n * (p / n))) (p % n) ≡ true → ⊥
      none e = let k = takes_known (named n (at row) (n * (p / n))) (p % n) e in omega (arith, nameless n l (n * (p / n)))

  pub by_segment : (p : ℕ) → segment_plan (at row) p ≡ only_plan (at row) p
  unfolding only_plan part_plan spans_in
  by_segment p = sym (leaves 16 (omega arith) (8 ∷ []) p ∙ leaves 8 (omega arith) [] p ∙ (unfold search in refl))

  pub kinds_by_segment : segment_kinds row ≡ kinds_of row
  unfolding segment_kinds kinds_of
  kinds_by_segment = filled_cong (segment_plan (at row)) (only_plan (at row)) (length row) (replicate 16 0) (λ p l. by_segment p)

  -- ---- the lowest wrong position
  right_before : (p : ℕ) → p < first_wrong row → right_at (at row) (length row) p ≡ true
  unfolding first_wrong
  right_before p l = not-false _ (least_before (wrong_at row) (length row) p l)

  wrong_there : first_wrong row < length row → right_at (at row) (length row) (first_wrong row) ≡ false
  unfolding first_wrong
  wrong_there l = not-true _ (least_holds (wrong_at row) (length row) l)

  -- a segment before it is held, and its own is not
  held_early : (t : ℕ) → t < segments row → segment_end row t ≤ first_wrong row → Held row t
  held_early t l u =
      segment_held row narrow t (
        segment_plan (at row),
        right_signals (at row) (length row) (4 * t) (segment_end row t) (part_ends row 4 t (inl refl)) (omega arith)
            (ends_well row narrow t (length row) (omega arith) (omega arith)) (λ p a b. right_before p (omega arith)),
      )

  unheld_there : first_wrong row < length row → Held row (first_wrong row / 4) → ⊥
  unheld_there l h =
      let s = first_wrong row / 4 in
      let w = held_segment row narrow s h in
      let k = narrow_kind row narrow w.0 (4 * s) (segment_end row s) w.1 (first_wrong row) (omega arith) (omega arith) in
      not_both (right_at (at row) (length row) (first_wrong row))
      (signals_right (at row) (length row) (4 * s) (segment_end row s) (part_ends row 4 s (inl refl)) (omega arith) w.0 w.1 (first_wrong row)
      (omega arith) (omega arith) k) (wrong_there l)

  pub plain_unheld : (w : ℕ) → w ≡ first_wrong row → w < length row → w / 4 ≡ first_unheld row
  unfolding first_unheld
  plain_unheld w e l = sym (least_is (λ s. not (held_by row s)) (segments row) (w / 4) (omega arith)
      (λ _. not_held (w / 4) (rw e (unheld_there (omega arith)))) (λ t m. is_held_fact t (held_early t (omega arith) (omega arith))))
    where
      is_held_fact : (t : ℕ) → Held row t → not (held_by row t) ≡ false
      is_held_fact t h = rw (decided (held_by row t) (Held row t) (held_tested row t) h)

      not_held : (t : ℕ) → (Held row t → ⊥) → not (held_by row t) ≡ true
      not_held t h = rw (refuted (held_by row t) (Held row t) (held_tested row t) h)

  pub plain_held : (w : ℕ) → w ≡ first_wrong row → length row ≤ w → segments row ≡ first_unheld row
  unfolding first_unheld
  plain_held w e l = sym (least_none (λ s. not (held_by row s)) (segments row)
      (λ t m. rw (decided (held_by row t) (Held row t) (held_tested row t) (held_early t m (omega arith)))))

  -- ---- the lowest whole segment that is wrong, where one is
  pub four_unheld : (r : ℕ) → r ≡ first_four_wrong row → r < length row / 4 → r ≡ first_unheld row
  unfolding first_four_wrong
  four_unheld r e l =
      let a = not_less in
      let b = not_more in
      let f : r ≡ first_wrong row / 4 = omega arith in
      f ∙ plain_unheld (first_wrong row) refl (omega arith)
    where
      right_early : (p : ℕ) → p < 4 * r → right_at (at row) (length row) p ≡ true
      right_early p m =
          let u : p / 4 < r = omega arith in
          let t = not-false _ (least_before (λ s. not (four_right (at row) (4 * s))) (length row / 4) (p / 4) (omega (arith, e))) in
          four_right_lem (at row) (length row) (4 * (p / 4)) (omega arith) (omega arith) t p (omega arith) (omega arith)

      not_less : 4 * r ≤ first_wrong row
      not_less = ⊎_elim (λ (m : first_wrong row < 4 * r).
          absurd (not_both (right_at (at row) (length row) (first_wrong row)) (right_early (first_wrong row) m) (wrong_there (omega arith)))) (λ m. m)
          (below_or (first_wrong row) (4 * r))

      not_more : first_wrong row < 4 * r + 4
      not_more = ⊎_elim (λ m. m) (λ (m : 4 * r + 4 ≤ first_wrong row).
          absurd (not_both (four_right (at row) (4 * r))
          (right_four (at row) (length row) (4 * r) (omega arith) (omega arith) (λ p _ u. right_before p (omega arith)))
          (not-true _ (rw (← e) at (least_holds (λ s. not (four_right (at row) (4 * s))) (length row / 4) (omega (arith, e)))))))
          (below_or (first_wrong row) (4 * r + 4))
