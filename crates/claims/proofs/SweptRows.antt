-- Two rows of 02's T-14: one whose 28 belongs to a 484+242, and gets 7 without it; one beside whose 996+484 a pair may be swept.
use mathlib.Core.Path.{◌≡◌, refl, sym, ap, subst, ◌∙◌}
use mathlib.Core.Logic.{◌≢◌, inl, inr}
use mathlib.Core.Bool.{true}
use mathlib.Core.List.{List, [], ◌∷◌}
use Prim.Native.Nat.{ℕ, zero, suc, ◌/◌, ◌<◌}
use native.Mathlib.Omega.{arith}
use lib.ListN.{length, set}
use Rattle.answer.specs.Answer.{no}
use Rattle.answer.specs.Least.{least}
use Rattle.answer.specs.Lists.{at}
use Rattle.answer.specs.declared.Refusal.TheVariants.{NoPlan}
use Rattle.std.specs.Prelude.{Err}
use Rattle.resource.specs.Values.{carried, pieces, fields_of, smaller_at}
use Rattle.kinds.specs.Kinds.{kinds, kind_at, family, span, mask, takes, takes_block, blank_at, must_name}
use Rattle.kinds.specs.Signals.{Place, Signals}
use Rattle.kinds.specs.Fields.{gives, share, fields_in}
use Rattle.kinds.proofs.Table.{one_kind}
use Rattle.kinds.proofs.Fitting.{known, high_own}
use Rattle.segments.specs.Engine.{fitting}
use Rattle.plan.specs.Answers.{SomePlan, SomePlanOfEight, PartPlan, Held, Laid, no_plan}
use Rattle.plan.specs.Engine.{given, entirely}
use Rattle.bench_checks.proofs.ByList.{list_of_eight}
use Rattle.claims.specs.Calls.{Call, Reads}
use Rattle.claims.specs.Sweep.{swept, swept_at, Sweeps, Carries, with28, beside_wide, Not28}
use Rattle.claims.proofs.Answers.{all_channels}
use Rattle.claims.proofs.Swept.{allowed_own, own_itself}

-- ---- plans, as lists
accepted_28 : SomePlanOfEight with28 0 (length with28)
unfolding fitting entirely given least must_name blank_at takes_block takes mask span family kind_at kinds smaller_at fields_in share gives fields_of pieces
    carried
accepted_28 = list_of_eight with28 (0 ∷ 3 ∷ 3 ∷ 3 ∷ []) 4 tt tt

accepted_wide : SomePlanOfEight beside_wide 0 (length beside_wide)
unfolding fitting entirely given least must_name blank_at takes_block takes mask span family kind_at kinds smaller_at fields_in share gives fields_of pieces
    carried
accepted_wide = list_of_eight beside_wide (0 ∷ 0 ∷ 8 ∷ 8 ∷ 8 ∷ 8 ∷ 8 ∷ 8 ∷ []) 8 tt tt

-- ---- 28
family_3 : family 3 ≡ 12
unfolding family kind_at kinds
family_3 = refl

place_1 : Place 3 2 1
unfolding takes mask span kind_at kinds
place_1 = (refl, refl)

-- a plan of four positions whose third has 96 gives the second to the same 484+242
belongs : (o r : ℕ → ℕ) → r 2 ≡ 96 → Signals o r 0 4 → o 1 ≢ 0
belongs o r e s =
    let f = s.fits 2 (omega arith) (omega arith) in
    let g : o 2 ≡ 3 =
    one_kind (o 2) 3 (known (o 2) 2 (r 2) f) (omega arith) (omega (arith, e, family_3, (high_own (o 2) 2 (r 2) f (omega (arith, e))).1)) in
    let h = (s.entire 2 1 (omega arith) (omega arith) (subst (λ (c : ℕ). Place c 2 1) (sym g) place_1)).2 in
    λ z. omega (arith, z, h, g)

module _ (v : ℕ) (e : swept_at 1 v ≡ true) where
  abbrev instead : List ℕ
  instead = set with28 1 v

  none : SomePlan instead 0 4 → ⊥
  none w =
      belongs w.0 (at instead) refl w.1
      (own_itself (w.0 1) 1 v (allowed_own 1 v e) (w.1.fits 1 (omega arith) (omega arith)))

  -- its only segment is the whole width
  not_held : Held instead 0 → ⊥
  not_held (n, inl f, w) = none (subst (λ (n : ℕ). PartPlan instead n (0 / n)) f w)
  not_held (n, inr (inl f), w) = none (subst (λ (n : ℕ). PartPlan instead n (0 / n)) f w)
  not_held (n, inr (inr f), w) = none (subst (λ (n : ℕ). PartPlan instead n (0 / n)) f w)

  is_7 : Laid instead (Err (NoPlan 0))
  is_7 = no_plan 0 (omega arith) not_held (λ t l. absurd (omega arith))

  gets_7 : (c : Call) → Reads c → Carries c instead → c.answer ≡ no 7 0 0
  gets_7 c g h =
      let f = all_channels instead c g h in
      let w = f.seven (f.gets_7 0 (omega arith) not_held) in
      w.1 ∙ ap (no 7 0) (omega (arith, w.2.0))

pub not_28 : Not28 with28 1
not_28 = record {
  accepted = accepted_28;
  is_28 = refl;
  belongs = λ o s. belongs o (at with28) refl s;
  is_7 = is_7;
  gets_7 = gets_7;
}

-- ---- the pair beside a 996+484
pub left_out_pair : (p v : ℕ) → p < 2 → swept_at p v ≡ true → Sweeps beside_wide p v
left_out_pair p v l e = record { accepted = accepted_wide; inside = omega arith; old = go p l; new = e }
  where
    go : (p : ℕ) → p < 2 → swept (at beside_wide p) ≡ true
    go zero l = refl
    go (suc zero) l = refl
    go (suc (suc p)) l = absurd (omega arith)
