-- No list has more than 496 pairs, so that 992 bytes always do: the header's `BRACHYMEL_PAIRS_SIZE`.
use mathlib.Core.Path.{◌≡◌, sym, ◌∙◌, ap}
use mathlib.Core.Logic.{⊎_elim}
use mathlib.Core.Bool.{false}
use mathlib.Core.List.{List, [], ◌∷◌}
use Prim.Native.Nat.{ℕ, ◌*◌, ◌/◌, ◌≤◌}
use native.Mathlib.Omega.{arith}
use borrow.Author.Tests.{le-ltb}
use lib.Dec.{ltb}
use Rattle.answer.specs.Answer.{no, ◌or◌, answer_at}
use Rattle.answer.specs.declared.Answer.{Answer}
use Rattle.answer.specs.Answer.{Outcome}
use Rattle.std.specs.Prelude.{Ok, Err}
use Rattle.answer.proofs.Order.{pass_or_refuse, pass_not_refuse, pass_left, pass_right, if_pass, or_cases}
use Rattle.answer.specs.declared.Refusal.TheVariants.{TooFewPairs}
use Rattle.answer.specs.declared.Refusal.{Refusal}
use Rattle.answer.specs.Answer.{answer_of}
use Rattle.overlaps.specs.Overlaps.{entries_in}
use Rattle.overlaps.specs.Engine.{mask_at}
use Rattle.overlaps.specs.Worked.{pair_count}
use Rattle.trigger.specs.Reading.{above2}
use Rattle.overlaps.specs.Result.{not_whole, over32, entries_outcome, no_pair_room, overlaps_outcome, overlaps_answer}
use Rattle.masks.proofs.Rows.{tally_most}
use Rattle.overlaps.proofs.Judged.{Other, judged_so_far, never_before, few, list_judged}

pub pairs_most : (es : List ℕ) → entries_in es ≤ 32 → pair_count es ≤ 496
unfolding pair_count
pairs_most es h = tally_most (mask_at es) (entries_in es) (32 * entries_in es) (omega arith)

pub accepted_most : (bw : ℕ) (es : List ℕ) (m : ℕ) → (overlaps_answer bw es m).number ≡ 0 → pair_count es ≤ 496
accepted_most bw es m z = pairs_most es (few bw es m (((list_judged bw es m).accepted z).1 2))

pub always_room : (bw : ℕ) (es : List ℕ) (m : ℕ) → 992 ≤ m → (overlaps_answer bw es m).number ≡ 26 → ⊥
unfolding overlaps_answer overlaps_outcome no_pair_room
always_room bw es m h z =
    let o = judged_so_far bw es in
    let r = no_pair_room es m in
    ⊎_elim
    (λ p. let q : ◌≡◌ {A = ℕ} 0 26 = ap (λ (o : Outcome). (answer_at o (pair_count es)).number) (sym p) ∙ z in omega arith)
    (λ e. ⊎_elim
    (λ f. never_before bw es 26 others others' e.0 f (its e))
    (λ f. pass_not_refuse (if_pass (ltb (m / 2) (pair_count es)) TooFewPairs (roomy f.0)) f.1)
    (or_cases o r e.0 e.1))
    (pass_or_refuse (overlaps_outcome bw es m))
  where
    its : (e : (x : Refusal) × (overlaps_outcome bw es m ≡ Err x)) → (answer_of e.0).number ≡ 26
    its e = ap (λ (o : Outcome). (answer_at o (pair_count es)).number) (sym e.1) ∙ z

    others : Other 26 (1 ∷ 15 ∷ 25 ∷ [])
    others = (λ e. omega arith, (λ e. omega arith, (λ e. omega arith, tt)))

    others' : Other 26 (24 ∷ 16 ∷ 17 ∷ [])
    others' = (λ e. omega arith, (λ e. omega arith, (λ e. omega arith, tt)))

    roomy : judged_so_far bw es ≡ Ok tt → ltb (m / 2) (pair_count es) ≡ false
    roomy p =
        let q = pass_right (above2 bw or not_whole es) (over32 es) (pass_left (above2 bw or not_whole es or over32 es) (entries_outcome bw es
        (entries_in es)) p) in
        let l = pairs_most es (few bw es m q) in
        le-ltb (m / 2) (pair_count es) (omega arith)
