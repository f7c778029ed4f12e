-- `candidate::sealed` meets its contract.
use Rattle.std.proofs.Common.{arith, ◌∙◌}
use Rattle.candidate.proofs.Joined.{sealed_word, sealed_less}
use Rattle.candidate.proofs.sealed.Goals as goal

pub overflow_add-result : goal.overflow_add-result
overflow_add-result c =
    let e = sealed_word c.args.x c.args.n c.from.result c.requires.0 c.requires.1 (c.from.ensures ∙ c.check_of.ensures) in
    omega (arith, e.0, e.1)

pub returns : goal.returns
returns c =
    let e = sealed_word c.args.x c.args.n c.from.result c.requires.0 c.requires.1 (c.from.ensures ∙ c.check_of.ensures) in
    (rw e.0 (sealed_less c.args.x c.args.n c.requires.1), e.0)
