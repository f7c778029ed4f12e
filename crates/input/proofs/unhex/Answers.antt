-- `input::unhex` meets its contract.
use Rattle.std.proofs.Common.{arith, ◌≡◌, ap, ◌∙◌, ◌+◌, ◌*◌, get_or, set}
use Rattle.answer.proofs.Lists.{filled_start, filled_step}
use Rattle.input.specs.Engine.{byte_of, pair_of}
use Rattle.input.proofs.unhex.Goals as goal

pub loop-i-init : goal.loop-i-init
loop-i-init c = filled_start _ _

pub loop-i-preserved : goal.loop-i-preserved
loop-i-preserved c = let e : c.pair.result ≡ byte_of c.args.s.now c.args.at c.loop-i.i = c.pair.ensures ∙ unfold byte_of in
    ap (λ x. pair_of x c.byte_at-in-loop-i.result) c.byte_at.ensures ∙ unfold byte_of in
    ap (λ y. pair_of (get_or c.args.s.now (c.args.at + 2 * c.loop-i.i) 0) y) c.byte_at-in-loop-i.ensures in
    ap (λ l. set l c.loop-i.i c.pair.result) c.loop-i.invariant
    ∙ filled_step (byte_of c.args.s.now c.args.at) c.loop-i.i c.pair.result c.args.out.now (omega arith) e
