-- 01's (P) bench checks hold.
use mathlib.Core.Path.{◌≡◌, refl, sym, ◌∙◌, ap, subst}
use mathlib.Core.Logic.{inl, inr, ⊎_elim}
use mathlib.Core.Bool.{Bool, true, false, not}
use mathlib.Core.List.{List, [], ◌∷◌, ◌++◌, map}
use Prim.Native.Nat.{ℕ, ◌*◌, ◌/◌, ◌≤◌, ◌<◌}
use native.Mathlib.Omega.{arith}
use lib.Dec.{T, ltb, leb, leb→le, ltb→lt}
use lib.ListN.{length, replicate}
use borrow.Author.Tests.{lt-ltb, le-ltb, leb-false}
use Rattle.resource.proofs.Test.{below}
use Rattle.answer.specs.Answer.{no, refuse_if, ◌or◌}
use Rattle.answer.specs.Least.{least}
use Rattle.answer.specs.declared.Answer.{Answer}
use Rattle.answer.specs.Answer.{Outcome}
use Rattle.std.specs.Prelude.{Ok, Err}
use Rattle.answer.proofs.Order.{refuse_same, pass_not_refuse}
use Rattle.bits.specs.Bits.{bit}
use Rattle.block.specs.Check.{check, step, register, sent}
use Rattle.resource.specs.Values.{carried, pieces, fields_of, divides, piece_fields, own_pieces, smaller_at}
use Rattle.resource.specs.Index.{index_of, resource_at}
use Rattle.kinds.specs.Kinds.{kinds, kind_at, family, span, mask, takes, takes_block, blank_at, must_name}
use Rattle.answer.specs.Lists.{at}
use Rattle.answer.specs.declared.Refusal.TheVariants.{NoPlan, OverEightFields}
use Rattle.answer.specs.declared.Refusal.{Refusal}
use Rattle.answer.specs.Answer.{answer_of}
use Rattle.kinds.specs.Signals.{Fits, Signals}
use Rattle.kinds.specs.Fields.{gives, share, fields_in, together}
use Rattle.kinds.proofs.Tests.{not_both}
use Rattle.segments.proofs.Found.{fits_fitting}
use Rattle.kinds.specs.Engine.{sought, kind_of, name_of as kind_named, tell_tale, whole_or, sided, settled}
use Rattle.segments.specs.Engine.{or_else, tells, choose, segment_plan, fitting}
use Rattle.spans.specs.Engine.{named, search, spans_in, part_plan}
use Rattle.plan.specs.Answers.{segments, SomePlan, Size, part_end, PartPlan, Held, Laid, accepted, no_plan, over_eight}
use Rattle.plan.specs.Engine.{only_plan, given, entirely, is_right, every_from, part_right, held_by, first_unheld, first_over, plan_outcome}
use Rattle.plan.proofs.Steps.{whole_holds}
use Rattle.plan.proofs.Only.{part_only}
use Rattle.plan.proofs.Parts.{held_by_lem}
use Rattle.plan.proofs.Laid.{outcome_laid, laid_is}
use Rattle.plan.proofs.Demand.{accepted_plan, plan_accepted, only_plan_lem, one_plan, plan_parts}
use Rattle.records.specs.Records.{lead, resource_column, larger, list_at, records_of}
use Rattle.records.proofs.Listing.{same_records}
use Rattle.bench_checks.proofs.ByList.{signals, at_most, list_signals, list_of_eight}
use Rattle.bench_checks.specs.Bench.{shown, Check, gets_7, gets_8, gets_0, has_check, Holds, All, bench, wide160, wide320}

-- ---- from the answer that is worked out to what it means
laid : (row : List ℕ) (x : Outcome) → plan_outcome row ≡ x → Laid row x
laid row x e = rw e at (outcome_laid row)

-- no outcome has two numbers
one_number : (x y : Refusal) → ◌≡◌ {A = Outcome} (Err x) (Err y) → (answer_of x).number ≡ (answer_of y).number
one_number x y e = ap (λ (y : Refusal). (answer_of y).number) (refuse_same refl e)

passed_refused : (x : Refusal) → ◌≡◌ {A = Outcome} (Ok tt) (Err x) → ⊥
passed_refused x e = pass_not_refuse refl e

seven : (row : List ℕ) (s : ℕ) → plan_outcome row ≡ Err (NoPlan s) → Holds (gets_7 row s)
seven row s e = (go (Err (NoPlan s)) refl (laid row (Err (NoPlan s)) e), laid row (Err (NoPlan s)) e)
  where
    go : (x : Outcome) → x ≡ Err (NoPlan s) → Laid row x → SomePlan row 0 (length row) → ⊥
    go x q (accepted w) p = passed_refused (NoPlan s) q
    go x q (no_plan t l n f) p = n (plan_parts row p t l)
    go x q (over_eight o w t v f) p = let z = one_number (OverEightFields t) (NoPlan s) q in omega arith

eight : (row : List ℕ) (s : ℕ) → plan_outcome row ≡ Err (OverEightFields s) → Holds (gets_8 row s)
eight row s e = go (Err (OverEightFields s)) refl (laid row (Err (OverEightFields s)) e)
  where
    go : (x : Outcome) → x ≡ Err (OverEightFields s) → Laid row x → Holds (gets_8 row s)
    go x q (accepted w) = absurd (passed_refused (OverEightFields s) q)
    go x q (no_plan t l n f) = let z = one_number (NoPlan t) (OverEightFields s) q in absurd (omega arith)
    go x q (over_eight o w t v f) =
        ((o, w), λ p. passed_refused (OverEightFields s) (sym (plan_accepted row p) ∙ e), laid row (Err (OverEightFields s)) e)

zero : (row : List ℕ) (rs : List (List ℕ)) → plan_outcome row ≡ Ok tt → map shown (records_of (only_plan (at row)) row) ≡ rs → Holds (gets_0 row rs)
zero row rs e f = (
  accepted_plan row (laid row (Ok tt) e),
  λ o w. ap (map shown) (same_records o (only_plan (at row)) (at row) (length row) (λ p u. only_plan_lem row o w p u)) ∙ f,
)

-- ---- where the plan is given as a list
zero_by : (row : List ℕ) (rs : List (List ℕ)) (ks : List ℕ) → T (signals row ks (length row)) → T (below (at_most row ks) (length row))
    → map shown (records_of (at ks) row) ≡ rs → Holds (gets_0 row rs)
zero_by row rs ks t e f = (
  list_of_eight row ks (length row) t e,
  λ o w. ap (map shown) (same_records o (at ks) (at row) (length row) (λ p u. one_plan row o (at ks) w (list_signals row ks (length row) t) p u)) ∙ f,
)

-- the resource at a position of the first segment is over eight
eight_by : (row ks : List ℕ) (p : ℕ) → T (signals row ks (length row)) → T (ltb p (length row)) → T (ltb p 4) → T (not (at_most row ks p)) → Holds
    (gets_8 row 0)
eight_by row ks p t z y e = eight row 0 (sym (laid_is row (Err (OverEightFields 0)) is_over))
  where
    s : Signals (at ks) (at row) 0 (length row)
    s = list_signals row ks (length row) t

    nine : 8 < together (at ks p) (at row) p
    nine = go (at_most row ks p) refl e
      where
        go : (b : Bool) → at_most row ks p ≡ b → T (not b) → 8 < together (at ks p) (at row) p
        go true f u = absurd u
        go false f u = leb-false _ 8 f

    is_over : Laid row (Err (OverEightFields 0))
    is_over = over_eight (at ks) s 0 (p, ltb→lt _ _ z, let l = ltb→lt p 4 y in omega arith, nine) (λ t m v. absurd (omega arith))

-- ---- a part with a position that its only plan gives to what the value does not fit
pub record Misfit (row : List ℕ) (n k : ℕ) : Type 0 where
  pub there : ℕ
  pub after : T (leb (n * k) there)
  pub before : T (ltb there (part_end row n k))
  pub misfit : fitting (part_plan n (at row) there) there (at row there) ≡ false

no_part : (row : List ℕ) (n k : ℕ) → Size n → Misfit row n k → PartPlan row n k → ⊥
no_part row n k h m w =
    let p = m.there in
    let l = leb→le _ _ m.after in
    let u = ltb→lt _ _ m.before in
    let f = subst (λ (c : ℕ). Fits c p (at row p)) (part_only row n h k w.0 w.1 p l u) (w.1.fits p l u) in
    not_both (fitting (part_plan n (at row) p) p (at row p)) (fits_fitting (part_plan n (at row) p) p (at row p) f) m.misfit

seven_by : (row : List ℕ) (s : ℕ) → s < segments row → Misfit row 16 (s / 4) → Misfit row 8 (s / 2) → Misfit row 4 s
    → ((t : ℕ) → t < s → Held row t) → Holds (gets_7 row s)
seven_by row s l a b c f = seven row s (sym (laid_is row (Err (NoPlan s)) (no_plan s l unheld f)))
  where
    unheld : Held row s → ⊥
    unheld h =
        ⊎_elim (no_part row 16 (s / 4) (inr (inr refl)) a)
        (⊎_elim (no_part row 8 (s / 2) (inr (inl refl)) b) (no_part row 4 s (inl refl) c)) (held_by_lem row s h)

-- the first segment has a plan of its own
first_held : (row ks : List ℕ) → part_end row 4 0 ≡ 4 → T (signals row ks 4) → (s : ℕ) → s < 1 → Held row s
first_held row ks e t s l =
    let z : s ≡ 0 = omega arith in
    rw z (4, inl refl, (at ks, subst (Signals (at ks) (at row) 0) (sym e) (list_signals row ks 4 t)))

none_below : (row : List ℕ) (s : ℕ) → s < 0 → Held row s
none_below row s l = absurd (omega arith)

-- ---- each check is worked out; of a row whose whole width is right, that it is is asked once; where the plan is given, of that plan
data Computed : List Check → Type 0 where
  done : Computed []
  of_7 : {row : List ℕ} {s : ℕ} {cs : List Check} → plan_outcome row ≡ Err (NoPlan s) → Computed cs → Computed (gets_7 row s ∷ cs)
  of_8 : {row : List ℕ} {s : ℕ} {cs : List Check} → T (leb (length row) 16) → part_right row 16 0 ≡ true → T (ltb (first_over row) (length row))
      → first_over row / 4 ≡ s → Computed cs → Computed (gets_8 row s ∷ cs)
  of_0 : {row : List ℕ} {rs : List (List ℕ)} {cs : List Check} → T (leb (length row) 16) → part_right row 16 0 ≡ true → first_over row ≡ length row
      → map shown (records_of (only_plan (at row)) row) ≡ rs → Computed cs → Computed (gets_0 row rs ∷ cs)
  of_plan : {row : List ℕ} {rs : List (List ℕ)} {cs : List Check} → (ks : List ℕ) → T (signals row ks (length row)) → T (below (at_most row ks) (length row))
      → map shown (records_of (at ks) row) ≡ rs → Computed cs → Computed (gets_0 row rs ∷ cs)
  of_over : {row : List ℕ} {cs : List Check} → (ks : List ℕ) (p : ℕ) → T (signals row ks (length row)) → T (ltb p (length row)) → T (ltb p 4)
      → T (not (at_most row ks p)) → Computed cs → Computed (gets_8 row 0 ∷ cs)
  of_none : {row : List ℕ} {s : ℕ} {cs : List Check} → T (ltb s (segments row)) → Misfit row 16 (s / 4) → Misfit row 8 (s / 2) → Misfit row 4 s
      → ((t : ℕ) → t < s → Held row t) → Computed cs → Computed (gets_7 row s ∷ cs)
  of_check : {s : List ℕ} {n v : ℕ} {cs : List Check} → check s 0 n ≡ v → Computed cs → Computed (has_check s n v ∷ cs)

-- no segment is unheld where the whole width is right
refuses_none : (row : List ℕ) (o : Outcome) → length row ≤ 16 → part_right row 16 0 ≡ true
    → refuse_if (ltb (first_unheld row) (segments row)) (NoPlan (first_unheld row)) or o ≡ o
refuses_none row o h e = rw (← whole_holds row h e, le-ltb (segments row) (segments row) (omega arith))

passes : (row : List ℕ) → length row ≤ 16 → part_right row 16 0 ≡ true → first_over row ≡ length row → plan_outcome row ≡ Ok tt
unfolding plan_outcome
passes row h e f = refuses_none row _ h e ∙ rw (f, le-ltb (length row) (length row) (omega arith))

over : (row : List ℕ) (s : ℕ) → length row ≤ 16 → part_right row 16 0 ≡ true → first_over row < length row → first_over row / 4 ≡ s
    → plan_outcome row ≡ Err (OverEightFields s)
unfolding plan_outcome
over row s h e f g = refuses_none row _ h e ∙ rw (lt-ltb (first_over row) (length row) f, g)

all_hold : {cs : List Check} → Computed cs → All cs
all_hold done = tt
all_hold (of_7 {row} {s} e es) = (seven row s e, all_hold es)
all_hold (of_8 {row} {s} h e f g es) = (eight row s (over row s (leb→le _ _ h) e (ltb→lt _ _ f) g), all_hold es)
all_hold (of_0 {row} {rs} h e f g es) = (zero row rs (passes row (leb→le _ _ h) e f) g, all_hold es)
all_hold (of_plan {row} {rs} ks t e f es) = (zero_by row rs ks t e f, all_hold es)
all_hold (of_over {row} ks p t z y e es) = (eight_by row ks p t z y e, all_hold es)
all_hold (of_none {row} {s} l a b c f es) = (seven_by row s (ltb→lt _ _ l) a b c f, all_hold es)
all_hold (of_check e es) = (e, all_hold es)

computed : Computed bench
unfolding plan_outcome first_unheld first_over held_by part_right every_from is_right entirely given only_plan part_plan spans_in search named settled sided
    whole_or
    tell_tale
    segment_plan fitting choose tells or_else kind_named kind_of sought least must_name blank_at takes_block takes mask span family kind_at kinds gives share
    fields_in
    list_at lead resource_column larger piece_fields divides pieces fields_of own_pieces smaller_at index_of resource_at carried bit step register sent
    check
computed =
    of_0 tt refl refl refl (of_7 refl (of_0 tt refl refl refl (of_7 refl (of_0 tt refl refl refl
    (of_8 tt refl tt refl (of_0 tt refl refl refl (of_7 refl (of_0 tt refl refl refl (of_7 refl
    (of_0 tt refl refl refl (of_7 refl (of_7 refl (of_check refl (of_0 tt refl refl refl
    done))))))))))))))

-- ---- the rows with wider resources
computed_320 : Computed wide320
unfolding plan_outcome first_unheld first_over held_by part_right every_from is_right entirely given only_plan part_plan spans_in search named settled sided
    whole_or
    tell_tale
    segment_plan fitting choose tells or_else kind_named kind_of sought least must_name blank_at takes_block takes mask span family kind_at kinds gives share
    fields_in
    list_at lead resource_column larger piece_fields divides pieces fields_of own_pieces smaller_at index_of resource_at carried bit step register sent
    check
computed_320 =
    of_plan (0 ∷ 0 ∷ replicate 10 24 ++ replicate 4 2) tt tt refl
    (of_plan (replicate 4 2 ++ (0 ∷ 0 ∷ replicate 10 30)) tt tt refl
    (of_plan (replicate 8 28 ++ (9 ∷ 9 ∷ 28 ∷ 28 ∷ replicate 4 9)) tt tt refl
    (of_over (0 ∷ 0 ∷ replicate 14 16) 2 tt tt tt tt done)))

computed_160 : Computed wide160
unfolding plan_outcome first_unheld first_over held_by part_right every_from is_right entirely given only_plan part_plan spans_in search named settled sided
    whole_or
    tell_tale
    segment_plan fitting choose tells or_else kind_named kind_of sought least must_name blank_at takes_block takes mask span family kind_at kinds gives share
    fields_in
    list_at lead resource_column larger piece_fields divides pieces fields_of own_pieces smaller_at index_of resource_at carried bit step register sent
    check
computed_160 =
    of_plan (replicate 8 7) tt tt refl
    (of_plan (replicate 8 2) tt tt refl
    (of_plan (1 ∷ 1 ∷ replicate 6 8) tt tt refl
    (of_none tt
    (record { there = 3; after = tt; before = tt; misfit = refl })
    (record { there = 3; after = tt; before = tt; misfit = refl })
    (record { there = 2; after = tt; before = tt; misfit = refl })
    (none_below (72 ∷ 29 ∷ 128 ∷ 28 ∷ replicate 4 30))
    (of_none tt
    (record { there = 7; after = tt; before = tt; misfit = refl })
    (record { there = 7; after = tt; before = tt; misfit = refl })
    (record { there = 4; after = tt; before = tt; misfit = refl })
    (first_held (replicate 4 30 ++ (88 ∷ 30 ∷ 30 ∷ 0 ∷ [])) (replicate 4 2) refl tt)
    done))))

-- ---- the claim
pub bench_holds : All bench × All wide160 × All wide320
bench_holds = (all_hold computed, all_hold computed_160, all_hold computed_320)
