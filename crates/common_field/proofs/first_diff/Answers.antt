-- `common_field::first_diff` meets its contract.
use Rattle.std.proofs.Common.{ℕ, Bool, ◌≡◌, ◌+◌, ◌∙◌, rules, tests, true, false}
use Rattle.std.proofs.lemmas.Iterator.{first_from_Range, serves_from_Range}
use Rattle.answer.proofs.Least.{least_from_find}
use Rattle.bits.specs.Bits.{differs}
use Rattle.common_field.proofs.first_diff.Goals as goal

pub find-requires : goal.find-requires
find-requires c = record { can = tt; finite = tt; callable = serves_from_Range (λ x q k. search (rules, tests)) (λ x low high. search rules) }

pub returns : goal.returns
returns c = let p : ℕ → Bool = λ k. differs c.args.s.now c.args.t.now (c.args.at + k) in
    c.unwrap_or.ensures
    ∙ least_from_find p c.args.n _ (first_from_Range _ _ _ _ (λ k. p k ≡ true) (λ k. p k ≡ false) c.find.ensures.ran
    (λ x q k. search rules)
    (λ x q k. (search rules, search rules)))
