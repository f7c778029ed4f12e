-- All channels that carry a row and pass 1 to 6 get the row's answer.
use mathlib.Core.Path.{◌≡◌, refl, sym, ◌∙◌, ap}
use mathlib.Core.Logic.{◌≢◌, ◌⊎◌, inl, inr}
use mathlib.Core.List.{List}
use Prim.Native.Nat.{ℕ, ◌≤◌, ◌<◌}
use native.Mathlib.Omega.{arith}
use lib.ListN.{length}
use borrow.Author.Tests.{le-ltb}
use Rattle.answer.specs.Answer.{no, ◌or◌, answer_at}
use Rattle.answer.specs.declared.Answer.{Answer}
use Rattle.answer.specs.Answer.{Outcome}
use Rattle.std.specs.Prelude.{Ok, Err}
use Rattle.answer.proofs.Order.{or_refuse, or_next, or_pass, if_pass, pass_not_refuse}
use Rattle.bits.specs.Bits.{Small}
use Rattle.answer.specs.Lists.{at}
use Rattle.answer.specs.declared.Refusal.TheVariants.{NoPlan, OverEightFields}
use Rattle.answer.specs.declared.Refusal.{Refusal}
use Rattle.answer.specs.Answer.{answer_of}
use Rattle.kinds.specs.Signals.{Signals}
use Rattle.plan.specs.Answers.{segments, SomePlanOfEight, Held, Over, NarrowRow, SegmentPlan, SegmentPlanOfEight}
use Rattle.plan.specs.Answers.{Laid, LaidBySegments, accepted, no_plan, over_eight}
use Rattle.plan.specs.Engine.{plan_outcome}
use Rattle.plan.specs.Worked.{outcome7, outcome8}
use Rattle.plan.proofs.Worked.{outcome_is}
use Rattle.plan.proofs.Laid.{outcome_laid, over_same}
use Rattle.plan.proofs.Narrow.{as_before, held_segment, none_eight}
use Rattle.plan.proofs.Demand.{plan_accepted, plan_parts}
use Rattle.channel.specs.Layout.{row}
use Rattle.halves.specs.Table.{check7, check8, outcome11}
use Rattle.halves.specs.Engine.{outcome9to11}
use Rattle.halves.proofs.Stages.{outcome11_rest}
use Rattle.frame_words.specs.Words.{word_count}
use Rattle.frame_words.proofs.Counted.{word_count_le}
use Rattle.reader.specs.Table.{check12, no_room, read_outcome}
use Rattle.reader.specs.Result.{read_answer}
use Rattle.reader.proofs.Stages.{read_outcome_stages}
use Rattle.reader.proofs.Exactly.{refused_exactly}
use Rattle.claims.specs.Calls.{Call, Reads, reads}
use Rattle.claims.specs.Rows.{CarriedRow, CarryRow, Lowest, ForLayout, ReadAccepts}
use Rattle.claims.proofs.Channels.{some_channels}

-- a row with a plan of at most eight has no plan with a resource over eight
none_of_eight : (r : List ℕ) → SomePlanOfEight r 0 (length r) → (o : ℕ → ℕ) → Signals o (at r) 0 (length r) → (s : ℕ) → Over o r s → ⊥
none_of_eight r p o w s v =
    let x = over_same r o p.0 w p.1 s v in
    let l = p.2 x.0 (omega arith) x.1 in
    omega (arith, x.3)

module _ (bw : ℕ) (r a b : List ℕ) (room : ℕ) (h : CarryRow bw r a b) where
  abbrev x : Answer
  x = read_answer bw a b room

  -- what is left to ask is the layout, and then 9 to 12
  rest : read_outcome bw a b room ≡ (plan_outcome r or outcome9to11 bw a b) or check12 bw a b room
  rest =
      read_outcome_stages bw a b room
      ∙ ap (λ (o : Outcome). o or check12 bw a b room)
      (outcome11_rest bw a b h.one_to_six ∙ ap (λ (t : List ℕ). plan_outcome t or outcome9to11 bw a b) h.the_row)

  refused : (y : Refusal) → plan_outcome r ≡ Err y → x ≡ answer_of y
  unfolding read_answer
  refused y e =
      ap (λ (o : Outcome). answer_at o (word_count bw a b))
      (rest ∙ or_refuse _ (check12 bw a b room) y (or_refuse (plan_outcome r) (outcome9to11 bw a b) y e))

  its_number : (y : Refusal) → plan_outcome r ≡ Err y → x.number ≡ (answer_of y).number
  its_number y e = ap (λ (a : Answer). a.number) (refused y e)

  -- and 7 and 8 are the layout's
  of_7 : x.number ≡ 7 → (y : Refusal) × (plan_outcome r ≡ Err y)
  unfolding check7
  of_7 e =
      let p = refused_exactly bw a b room 6 (omega arith) e in
      (p.refusal, outcome_is r ∙ or_refuse (outcome7 r) (outcome8 r) p.refusal (ap outcome7 (sym h.the_row) ∙ p.applies.refuses))

  of_8 : x.number ≡ 8 → (y : Refusal) × (plan_outcome r ≡ Err y)
  unfolding check7 check8
  of_8 e =
      let p = refused_exactly bw a b room 7 (omega arith) e in (
        p.refusal,
        outcome_is r
            ∙ or_next (outcome7 r) (outcome8 r) (ap outcome7 (sym h.the_row) ∙ p.applies.nothing_earlier 6 (omega arith))
            ∙ ap outcome8 (sym h.the_row)
            ∙ p.applies.refuses,
      )

  laid : Laid r (plan_outcome r)
  laid = outcome_laid r

  -- by what the layout is
  neither_7_nor_8 : x.number ≢ 7 → x.number ≢ 8 → SomePlanOfEight r 0 (length r)
  neither_7_nor_8 p q = go (plan_outcome r) refl laid
    where
      go : (o : Outcome) → plan_outcome r ≡ o → Laid r o → SomePlanOfEight r 0 (length r)
      go o e (accepted w) = w
      go o e (no_plan s l n f) = absurd (p (its_number (NoPlan s) e))
      go o e (over_eight m w s v f) = absurd (q (its_number (OverEightFields s) e))

  signalled_neither : SomePlanOfEight r 0 (length r) → (x.number ≢ 7) × (x.number ≢ 8)
  signalled_neither w =
      (λ e. pass_not_refuse (plan_accepted r w) (of_7 e).1, λ e. pass_not_refuse (plan_accepted r w) (of_8 e).1)

  refused_otherwise : (SomePlanOfEight r 0 (length r) → ⊥) → (x.number ≡ 7) ⊎ (x.number ≡ 8)
  refused_otherwise p = go (plan_outcome r) refl laid
    where
      go : (o : Outcome) → plan_outcome r ≡ o → Laid r o → (x.number ≡ 7) ⊎ (x.number ≡ 8)
      go o e (accepted w) = absurd (p w)
      go o e (no_plan s l n f) = inl (its_number (NoPlan s) e)
      go o e (over_eight m w s v f) = inr (its_number (OverEightFields s) e)

  seven_says : x.number ≡ 7 → (s : ℕ) × (x ≡ no 7 0 s) × Lowest (Held r) (segments r) s
  seven_says g = go (plan_outcome r) refl laid
    where
      go : (o : Outcome) → plan_outcome r ≡ o → Laid r o → (s : ℕ) × (x ≡ no 7 0 s) × Lowest (Held r) (segments r) s
      go o e (accepted w) = absurd (pass_not_refuse e (of_7 g).1)
      go o e (no_plan s l n f) = (s, refused (NoPlan s) e, (l, n, f))
      go o e (over_eight m w s v f) = let z = its_number (OverEightFields s) e in absurd (omega arith)

  has_7 : (s : ℕ) → s < segments r → (Held r s → ⊥) → x.number ≡ 7
  has_7 t m k = go (plan_outcome r) refl laid
    where
      go : (o : Outcome) → plan_outcome r ≡ o → Laid r o → x.number ≡ 7
      go o e (accepted w) = absurd (k (plan_parts r (w.0, w.1) t m))
      go o e (no_plan s l n f) = its_number (NoPlan s) e
      go o e (over_eight o' w s v f) = absurd (k (plan_parts r (o', w) t m))

  eight_says : x.number ≡ 8
      → (o : ℕ → ℕ) × Signals o (at r) 0 (length r) × (s : ℕ) × (x ≡ no 8 0 s) × Over o r s × ((t : ℕ) → t < s → Over o r t → ⊥)
  eight_says g = go (plan_outcome r) refl laid
    where
      go : (o : Outcome) → plan_outcome r ≡ o → Laid r o
          → (o : ℕ → ℕ) × Signals o (at r) 0 (length r) × (s : ℕ) × (x ≡ no 8 0 s) × Over o r s × ((t : ℕ) → t < s → Over o r t → ⊥)
      go o e (accepted w) = absurd (pass_not_refuse e (of_8 g).1)
      go o e (no_plan s l n f) = let z = its_number (NoPlan s) e in absurd (omega arith)
      go o e (over_eight o' w s v f) = (o', w, s, refused (OverEightFields s) e, v, f)

  has_8 : (o : ℕ → ℕ) → Signals o (at r) 0 (length r) → (s : ℕ) → Over o r s → x.number ≡ 8
  has_8 m w t v = go (plan_outcome r) refl laid
    where
      go : (o : Outcome) → plan_outcome r ≡ o → Laid r o → x.number ≡ 8
      go o e (accepted a) = absurd (none_of_eight r a m w t v)
      go o e (no_plan s l n f) = absurd (n (plan_parts r (m, w) s l))
      go o e (over_eight o' w' s v' f) = its_number (OverEightFields s) e

  -- ---- by segments, of a row without the values that T-07 adds
  module _ (narrow : NarrowRow r) where
    laid_before : LaidBySegments r (plan_outcome r)
    laid_before = (as_before r narrow (plan_outcome r)).0 laid

    seven_before_says : x.number ≡ 7 → (s : ℕ) × (x ≡ no 7 0 s) × Lowest (SegmentPlan r) (segments r) s
    seven_before_says g = go (plan_outcome r) refl laid_before
      where
        go : (o : Outcome) → plan_outcome r ≡ o → LaidBySegments r o → (s : ℕ) × (x ≡ no 7 0 s) × Lowest (SegmentPlan r) (segments r) s
        go o e (accepted w) = absurd (pass_not_refuse e (of_7 g).1)
        go o e (no_plan s l n f) = (s, refused (NoPlan s) e, (l, n, f))
        go o e (over_eight s l w n f) = let z = its_number (OverEightFields s) e in absurd (omega arith)

    has_7_before : (s : ℕ) → s < segments r → (SegmentPlan r s → ⊥) → x.number ≡ 7
    has_7_before t m k = has_7 t m (λ w. k (held_segment r narrow t w))

    eight_before_says : x.number ≡ 8
        → ((t : ℕ) → t < segments r → SegmentPlan r t) × (s : ℕ) × (x ≡ no 8 0 s) × Lowest (SegmentPlanOfEight r) (segments r) s
    eight_before_says g = go (plan_outcome r) refl laid_before
      where
        go : (o : Outcome) → plan_outcome r ≡ o → LaidBySegments r o
            → ((t : ℕ) → t < segments r → SegmentPlan r t) × (s : ℕ) × (x ≡ no 8 0 s) × Lowest (SegmentPlanOfEight r) (segments r) s
        go o e (accepted w) = absurd (pass_not_refuse e (of_8 g).1)
        go o e (no_plan s l n f) = let z = its_number (NoPlan s) e in absurd (omega arith)
        go o e (over_eight s l w n f) = (w, s, refused (OverEightFields s) e, (l, n, f))

    has_8_before : ((t : ℕ) → t < segments r → SegmentPlan r t) → (s : ℕ) → s < segments r → (SegmentPlanOfEight r s → ⊥) → x.number ≡ 8
    has_8_before p t m k = go (plan_outcome r) refl laid_before
      where
        go : (o : Outcome) → plan_outcome r ≡ o → LaidBySegments r o → x.number ≡ 8
        go o e (accepted w) = absurd (k (none_eight r narrow w.0 w.1 t (λ v. none_of_eight r w w.0 w.1 t v)))
        go o e (no_plan s l n f) = absurd (n (p s l))
        go o e (over_eight s l w n f) = its_number (OverEightFields s) e

  -- whatever the room
  pub for_layout : ForLayout r x
  for_layout = record {
    neither = neither_7_nor_8;
    signalled = signalled_neither;
    otherwise = refused_otherwise;
    seven = seven_says;
    gets_7 = has_7;
    eight = eight_says;
    gets_8 = has_8;
    seven_before = seven_before_says;
    gets_7_before = has_7_before;
    eight_before = eight_before_says;
    gets_8_before = has_8_before;
  }

-- of any answer that the contract of `reader::read` allows, and any words lent
pub all_channels : (r : List ℕ) (c : Call) → Reads c → CarryRow c.bandwidth r c.channel_1 c.channel_2 → ForLayout r c.answer
all_channels r c (reads κs a x s p) h = rw p.0 (for_layout a.0 r a.1.0.now a.1.1.0.now (length a.1.1.1.0.now) h)

-- ---- a row that has a plan is read
accepted_answer : (bw : ℕ) (a b : List ℕ) (room : ℕ) → outcome11 bw a b ≡ Ok tt → word_count bw a b ≤ room
    → read_answer bw a b room ≡ no 0 0 (word_count bw a b)
unfolding read_answer check12 no_room
accepted_answer bw a b room e l =
    ap (λ (o : Outcome). answer_at o (word_count bw a b))
    (read_outcome_stages bw a b room ∙ or_pass (outcome11 bw a b) _ e (if_pass _ _ (le-ltb room (word_count bw a b) l)))

pub some_accepted : (bw : ℕ) (r : List ℕ) → CarriedRow bw r → SomePlanOfEight r 0 (length r)
    → (a : List ℕ) × (b : List ℕ) × CarryRow bw r a b × Small a × Small b × (outcome11 bw a b ≡ Ok tt)
some_accepted bw r w p =
    let g = some_channels bw r w in
    let a = g.0 in
    let b = g.1 in (
      a,
      b,
      g.2,
      g.3,
      g.4,
      outcome11_rest bw a b g.2.one_to_six
          ∙ or_pass (plan_outcome (row bw a b)) (outcome9to11 bw a b) (ap plan_outcome g.2.the_row ∙ plan_accepted r p) g.5,
    )

accepts : (bw : ℕ) (x y : List ℕ) → outcome11 bw x y ≡ Ok tt → ReadAccepts bw x y
accepts bw x y e c (reads κs a q s h) f g i l =
    let room = length a.1.1.1.0.now in
    let z : read_answer a.0 a.1.0.now a.1.1.0.now room ≡ no 0 0 (word_count bw x y) =
    rw (f, g, i) (accepted_answer bw x y room e (omega (arith, word_count_le bw x y))) in
    ap (λ (v : Answer). v.number) (h.0 ∙ z)

-- "A reader that always refuses falls to the third demand, as the row's plan exists.": each row that has a plan has channels that
-- `reader::read` must accept
pub no_reader_always_refuses : (bw : ℕ) (r : List ℕ) → CarriedRow bw r → SomePlanOfEight r 0 (length r)
    → (a : List ℕ) × (b : List ℕ) × CarryRow bw r a b × Small a × Small b × ReadAccepts bw a b
no_reader_always_refuses bw r w p =
    let g = some_accepted bw r w p in
    (g.0, g.1, g.2, g.3, g.4, accepts bw g.0 g.1 g.5)
