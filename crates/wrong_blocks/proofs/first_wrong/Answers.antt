-- `wrong_blocks::first_wrong` meets its contract.
use Rattle.std.proofs.Common.{◌≡◌, ◌+◌, ◌/◌, ◌∙◌, rules, tests, true, false}
use Rattle.std.proofs.lemmas.Iterator.{first_from_Range, serves_from_Range}
use Rattle.channel.specs.Layout.{blocks}
use Rattle.faults.specs.Checks.{wrong_block, first_wrong}
use Rattle.answer.proofs.Least.{least_from_find}
use Rattle.wrong_blocks.proofs.first_wrong.Goals as goal

pub find-requires : goal.find-requires
find-requires c = record { can = tt; finite = tt; callable = serves_from_Range (λ x q k. search (rules, tests)) (λ x low high. search rules) }

pub returns-clause-value : goal.returns-clause-value
unfolding first_wrong blocks
returns-clause-value c = let p = wrong_block c.args.bw c.args.s.now c.args.n in
    c.unwrap_or.ensures ∙ least_from_find p ((c.args.n + 1) / 2) _ (first_from_Range _ _ _ _ (λ i. p i ≡ true) (λ i. p i ≡ false) c.find.ensures.ran
    (λ x q k. search rules)
    (λ x q k. (search rules, search rules)))
