-- `common_field::first_uncarried` meets its contract.
use Rattle.std.proofs.Common.{◌≡◌, ap, ◌∙◌, rules, tests, true, false}
use Rattle.std.proofs.lemmas.Iterator.{first_from_Range, serves_from_Range}
use Rattle.answer.proofs.Least.{least_from_find}
use Rattle.answer.specs.Least.{least}
use Rattle.faults.specs.Checks.{uncarried, first_uncarried}
use Rattle.common_field.proofs.first_uncarried.Goals as goal

pub find-requires : goal.find-requires
find-requires c = record { can = tt; finite = tt; callable = serves_from_Range (λ x q k. search (rules, tests)) (λ x low high. search rules) }

pub returns-clause-value : goal.returns-clause-value
unfolding first_uncarried
returns-clause-value c = let p = uncarried c.args.bw c.args.s.now in
    c.unwrap_or.ensures
    ∙ least_from_find p c.subfields_of-n.result _ (first_from_Range _ _ _ _ (λ k. p k ≡ true) (λ k. p k ≡ false) c.find.ensures.ran
    (λ x q k. search rules)
    (λ x q k. (search rules, search rules)))
    ∙ ap (least p) c.subfields_of-n.ensures.value
