-- The plan of a row as a value: what its parts say.
use mathlib.Core.Path.{◌≡◌, refl, sym, ◌∙◌, ap, subst}
use mathlib.Core.Logic.{◌≢◌, ⊎_elim}
use mathlib.Core.Bool.{Bool, true, false, cond}
use mathlib.Core.List.{List}
use Prim.Native.Nat.{ℕ, zero, suc, ◌+◌, ◌-◌, ◌*◌, ◌/◌, ◌%◌, ◌^◌, ◌≤◌, ◌<◌, min}
use native.Mathlib.Omega.{arith}
use native.Mathlib.Nat.{add-zero, eq-or-lt_of_le, le_of_suc-le-suc, div-eq_of_lt, mul-add-div, mul-add-mod_self_left, mod-eq_of_lt}
use lib.Pow.{pow_pos, pow-add, pow_mono}
use native.Mathlib.Numerals.{add-one}
use lib.Dec.{eqb, leb, ltb}
use lib.ListN.{length, get_or, replicate}
use borrow.Author.Tests.{eq-eqb, ne_eqb, lt-ltb, le-ltb}
use Rattle.answer.proofs.Lists.{get_d_filled, filled_start}
use Rattle.answer.specs.Answer.{no, ◌or◌}
use Rattle.answer.specs.Answer.{Outcome}
use Rattle.std.specs.Prelude.{Ok, Err}
use Rattle.plan.specs.declared.Plan.{Plan}
use Rattle.plan.specs.declared.Rest.{Rest}
use Rattle.resource.specs.Values.{fields_of}
use Rattle.resource.proofs.Fields.{fields_most as most_fields}
use Rattle.answer.specs.Lists.{at}
use Rattle.answer.specs.declared.Refusal.TheVariants.{NoPlan, OverEightFields}
use Rattle.kinds.specs.Fields.{together, shared, fields_to}
use Rattle.segments.specs.Engine.{Entered}
use Rattle.segments.proofs.Entries.{entered_filled}
use Rattle.spans.specs.Engine.{part_plan}
use Rattle.plan.specs.Answers.{segments, Laid}
use Rattle.plan.specs.Engine.{only_plan, GivenTo, over_at, first_unheld, first_over, plan_outcome, shared_to, kinds_of}
use Rattle.plan.specs.Engine.{passed_plan, no_plan, plan_at, plan_of, with_kinds, plan_from, Tells}
use Rattle.kinds.proofs.Tests.{equal_or}
use Rattle.plan.proofs.Only.{only_known}
use Rattle.plan.proofs.Laid.{outcome_laid}

-- ---- the kinds
pub kind_held : (row kinds : List ℕ) (p : ℕ) → p < length row → kinds ≡ kinds_of row → (get_or kinds p 0 < 36) × (get_or kinds p 0 ≡ only_plan (at row) p)
unfolding kinds_of
kind_held row kinds p h e =
    let f : get_or kinds p 0 ≡ only_plan (at row) p = rw e (get_d_filled (only_plan (at row)) (length row) (replicate 16 0) p 0 h) in
    (rw f (only_known (at row) p), f)

pub kinds_given : (row kinds : List ℕ) → kinds ≡ kinds_of row → GivenTo kinds row 16 0
unfolding only_plan
kinds_given row kinds e = record { given_to = λ q l u. (kind_held row kinds q (omega arith) e).1 }

pub over_at_lem : (row : List ℕ) (p kind t : ℕ) → kind ≡ only_plan (at row) p → t ≡ together kind (at row) p → over_at row p ≡ ltb 8 t
over_at_lem row p kind t e f = rw (f, e)

-- the whole width entered
pub kinds_entered : (row after : List ℕ) → length row ≤ 16 → Entered (part_plan 16 (at row)) 0 (min (0 + 16) (length row)) (replicate 16 0) after
    → after ≡ kinds_of row
unfolding kinds_of only_plan
kinds_entered row after h w =
    let e : min (0 + 16) (length row) ≡ length row = omega arith in
    entered_filled (part_plan 16 (at row)) 0 (length row) (replicate 16 0) (replicate 16 0) after (omega arith) h
    (filled_start (part_plan 16 (at row)) (replicate 16 0)) (subst (λ (m : ℕ). Entered (part_plan 16 (at row)) 0 m (replicate 16 0) after) e w)

-- ---- the bit of a position
module _ (p m : ℕ) (h : p ≤ 16) (l : 65536 < m) where
  pub one_bit : 1 * 2 ^ p % m ≡ 2 ^ p
  one_bit =
      let u : 2 ^ p ≤ 2 ^ 16 = pow_mono {i = p} {j = 16} h in
      let e : 1 * 2 ^ p ≡ 2 ^ p = omega arith in
      ap (λ (k : ℕ). k % m) e ∙ mod-eq_of_lt (omega arith)

-- ---- the bits of the positions whose fields share their resource
pub shared_next : (row : List ℕ) (p t : ℕ) → t ≡ together (only_plan (at row) p) (at row) p → shared_to row p + cond (leb 2 t) (2 ^ p) 0 ≡ shared_to row (p + 1)
unfolding shared_to
shared_next row p t e = rw (add-one p, e)

pub bit_most : (t m : ℕ) → cond (leb 2 t) m 0 ≤ m
bit_most t m = go (leb 2 t)
  where
    go : (b : Bool) → cond b m 0 ≤ m
    go true = omega arith
    go false = omega arith

twice : (n : ℕ) → 2 ^ suc n ≡ 2 * 2 ^ n
twice n = let e : suc n ≡ 1 + n = omega arith in ap (λ (k : ℕ). 2 ^ k) e ∙ pow-add 2 1 n

pub shared_lt : (row : List ℕ) (n : ℕ) → shared_to row n < 2 ^ n
unfolding shared_to
shared_lt row zero = omega arith
shared_lt row (suc n) = go (shared (only_plan (at row)) (at row) n) (shared_lt row n)
  where
    go : (t : Bool) → shared_to row n < 2 ^ n → shared_to row n + cond t (2 ^ n) 0 < 2 ^ suc n
    go true l = omega (arith, twice n)
    go false l = omega (arith, twice n)

bit_set : (s n : ℕ) → s < 2 ^ n → (s + 2 ^ n) / 2 ^ n % 2 ≡ 1
bit_set s n h =
    let e : (2 ^ n * 1 + s) / 2 ^ n ≡ 1 = mul-add-div (pow_pos n) 1 s ∙ rw (div-eq_of_lt h) in
    let f : s + 2 ^ n ≡ 2 ^ n * 1 + s = omega arith in
    rw (f, e)

bit_unset : (s n : ℕ) → s < 2 ^ n → s / 2 ^ n % 2 ≡ 0
bit_unset s n h = rw (div-eq_of_lt h)

-- a higher bit does not reach it
bit_under : (s n p : ℕ) → p < n → (s + 2 ^ n) / 2 ^ p % 2 ≡ s / 2 ^ p % 2
bit_under s n p h =
    let d = n - (p + 1) in
    let m : 2 ^ n ≡ 2 ^ (p + (1 + d)) = ap (λ (k : ℕ). 2 ^ k) (the n (p + (1 + d)) (omega arith)) in
    let e : 2 ^ n ≡ 2 ^ p * (2 * 2 ^ d) = m ∙ pow-add 2 p (1 + d) ∙ ap (λ (k : ℕ). 2 ^ p * k) (pow-add 2 1 d) in
    let f : (2 ^ p * (2 * 2 ^ d) + s) / 2 ^ p ≡ 2 * 2 ^ d + s / 2 ^ p = mul-add-div (pow_pos p) (2 * 2 ^ d) s in
    let g : s + 2 ^ n ≡ 2 ^ p * (2 * 2 ^ d) + s = omega arith in
    rw (g, f) (mul-add-mod_self_left 2 (2 ^ d) (s / 2 ^ p))
  where
    the : (a b : ℕ) → a ≡ b → a ≡ b
    the a b e = e

bit_of : (t : Bool) (m : ℕ) → m ≡ cond t 1 0 → eqb m 1 ≡ t
bit_of true m e = rw e
bit_of false m e = rw e

pub shared_at : (row : List ℕ) (n p : ℕ) → p < n → eqb (shared_to row n / 2 ^ p % 2) 1 ≡ shared (only_plan (at row)) (at row) p
unfolding shared_to
shared_at row zero p h = absurd (omega arith)
shared_at row (suc n) p h =
    ⊎_elim
    (λ (e : p ≡ n). rw e (bit_of (shared (only_plan (at row)) (at row) n) _ (own (shared (only_plan (at row)) (at row) n))))
    (λ (l : p < n). ap (λ (m : ℕ). eqb m 1) (under (shared (only_plan (at row)) (at row) n) l) ∙ shared_at row n p l)
    (eq-or-lt_of_le (le_of_suc-le-suc h))
  where
    own : (t : Bool) → (shared_to row n + cond t (2 ^ n) 0) / 2 ^ n % 2 ≡ cond t 1 0
    own true = bit_set (shared_to row n) n (shared_lt row n)
    own false = rw (add-zero (shared_to row n)) (bit_unset (shared_to row n) n (shared_lt row n))

    under : (t : Bool) → p < n → (shared_to row n + cond t (2 ^ n) 0) / 2 ^ p % 2 ≡ shared_to row n / 2 ^ p % 2
    under true l = bit_under (shared_to row n) n p l
    under false l = rw (add-zero (shared_to row n))

-- each position's bit says whether its fields share their resource
pub shared_bit : (row : List ℕ) (p : ℕ) → p < length row → eqb ((passed_plan row).shared / 2 ^ p % 2) 1 ≡ shared (only_plan (at row)) (at row) p
unfolding passed_plan
shared_bit row p h = shared_at row (length row) p h

-- ---- the fields of a channel
module _ (c : ℕ) (row : ℕ → ℕ) where
  pub fields_most : (n : ℕ) → fields_to c row n ≤ 9 * n
  fields_most zero = omega arith
  fields_most (suc n) = go (eqb (n % 2 + 1) c) (fields_most n)
    where
      go : (t : Bool) → fields_to c row n ≤ 9 * n → fields_to c row n + cond t (fields_of (row n)) 0 ≤ 9 * suc n
      go true l = omega (arith, most_fields (row n))
      go false l = omega arith

  pub fields_start : 0 < c → c < 3 → 0 ≡ fields_to c row (c - 1)
  fields_start l h = ⊎_elim (λ (e : c ≡ 1). rw e) (λ (e : c ≢ 1). let f : c ≡ 2 = omega arith in rw f) (equal_or c 1)

  pub fields_next : (p : ℕ) → p % 2 + 1 ≡ c → fields_to c row p + fields_of (row p) ≡ fields_to c row (p + 2)
  fields_next p e =
      let f : p + 2 ≡ suc (suc p) = omega arith in
      rw (f, eq-eqb (p % 2 + 1) c e, ne_eqb (suc p % 2 + 1) c (λ g. omega arith)) (omega arith)

  pub fields_end : (n p : ℕ) → n ≤ p → p ≤ n + 1 → p % 2 + 1 ≡ c → fields_to c row p ≡ fields_to c row n
  fields_end n p l u e = ⊎_elim (λ (f : p ≡ n). rw f) past (equal_or p n)
    where
      past : p ≢ n → fields_to c row p ≡ fields_to c row n
      past f =
          let g : p ≡ suc n = omega arith in
          rw (g, ne_eqb (n % 2 + 1) c (λ h. omega arith)) (omega arith)

-- ---- the value
-- of a row that passes
pub plan_is : (row kinds : List ℕ) (s f g : ℕ) → Ok tt ≡ plan_outcome row → kinds ≡ kinds_of row → s ≡ shared_to row (length row)
    → f ≡ fields_to 1 (at row) (length row) → g ≡ fields_to 2 (at row) (length row)
    → ◌≡◌ {A = Plan} (record { outcome = (Ok tt); kinds = kinds; shared = s; fields1 = f; fields2 = g }) (plan_of row)
unfolding plan_of passed_plan
plan_is row kinds s f g eo ek es ef eg = rw (← eo) (λ i. record { outcome = (Ok tt); kinds = ek i; shared = es i; fields1 = ef i; fields2 = eg i })

pub plan_passed : (row : List ℕ) → plan_outcome row ≡ Ok tt → plan_of row ≡ passed_plan row
unfolding plan_of
plan_passed row e = rw e

pub plan_outcome_lem : (row : List ℕ) → (plan_of row).outcome ≡ plan_outcome row
unfolding plan_of passed_plan no_plan
plan_outcome_lem row = go (plan_outcome row)
  where
    go : (o : Outcome) → (plan_at o row).outcome ≡ o
    go (Ok u) = refl
    go (Err x) = refl

-- 8 where 7 passes: refused, or passed
module _ (row : List ℕ) (held : segments row ≤ first_unheld row) where
  pub over_refuses : (o : Outcome) → first_over row < length row → o ≡ Err (OverEightFields (first_over row / 4)) → o ≡ plan_outcome row
  unfolding plan_outcome
  over_refuses o l e = rw (le-ltb (first_unheld row) (segments row) held, lt-ltb (first_over row) (length row) l) e

  pub none_passes : length row ≤ first_over row → Ok tt ≡ plan_outcome row
  unfolding plan_outcome
  none_passes l = rw (le-ltb (first_unheld row) (segments row) held, le-ltb (first_over row) (length row) l)

pub unheld_refuses : (row : List ℕ) (o : Outcome) → first_unheld row < segments row → o ≡ Err (NoPlan (first_unheld row)) → o ≡ plan_outcome row
unfolding plan_outcome
unheld_refuses row o l e = rw (lt-ltb (first_unheld row) (segments row) l) e

pub plan_laid : (row : List ℕ) (r : Plan) → r ≡ plan_of row → Laid row r.outcome
plan_laid row r e = rw (e, plan_outcome_lem row) (outcome_laid row)

-- ---- what is told of it

pub tells_plan : (row : List ℕ) (t : Rest) (kinds : List ℕ) → with_kinds t kinds ≡ plan_of row → Tells row t kinds
unfolding with_kinds
tells_plan row t kinds e = record { answers = ap (λ (p : Plan). p.outcome) e ∙ plan_outcome_lem row; plans = λ f. e }

pub told_is : (row : List ℕ) (t : Rest) (kinds : List ℕ) → Tells row t kinds → plan_from t.outcome t kinds ≡ plan_of row
unfolding plan_of no_plan
told_is row t kinds w = go t.outcome refl
  where
    go : (o : Outcome) → t.outcome ≡ o → plan_from o t kinds ≡ plan_at (plan_outcome row) row
    go (Ok u) e = w.plans e
    go (Err x) e = rw (sym w.answers ∙ e)
