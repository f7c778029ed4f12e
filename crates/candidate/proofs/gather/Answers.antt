-- `candidate::gather` meets its contract.
use Rattle.std.proofs.Common.{ℕ, ◌+◌, ◌*◌, ◌%◌, ◌^◌, ◌≡◌, ◌∙◌, ap, arith}
use Rattle.answer.specs.Lists.{at}
use Rattle.candidate.specs.Engine.{gathered}
use Rattle.candidate.proofs.Numbers.{gathered_none, gathered_turn, gathered_below, gathered_lt}
use Rattle.candidate.proofs.gather.Goals as goal

pub loop-k-init : goal.loop-k-init
loop-k-init c = gathered_none _

pub overflow_add-x : goal.overflow_add-x
overflow_add-x c =
    let x : ℕ → ℕ = λ j. at c.args.row.now (2 * j + c.args.p) in
    let e : c.loop-k.x + c.from.result * 2 ^ (9 * c.loop-k.k) % 2 ^ 64 ≡ gathered x (c.loop-k.k + 1) =
    rw c.from.ensures (ap (λ (g : ℕ). g + x c.loop-k.k % 512 * 2 ^ (9 * c.loop-k.k) % 2 ^ 64) c.loop-k.invariant ∙ gathered_turn x c.loop-k.k (omega arith)) in
    omega (arith, gathered_below x (c.loop-k.k + 1) (omega arith))

pub loop-k-preserved : goal.loop-k-preserved
loop-k-preserved c =
    let x : ℕ → ℕ = λ j. at c.args.row.now (2 * j + c.args.p) in
    rw c.from.ensures (ap (λ (g : ℕ). g + x c.loop-k.k % 512 * 2 ^ (9 * c.loop-k.k) % 2 ^ 64) c.loop-k.invariant ∙ gathered_turn x c.loop-k.k (omega arith))

pub returns : goal.returns
returns c =
    let x : ℕ → ℕ = λ j. at c.args.row.now (2 * j + c.args.p) in
    let e : c.loop-k.k ≡ c.args.n = omega arith in
    let f : c.loop-k.x ≡ gathered x c.args.n = c.loop-k.invariant ∙ ap (gathered x) e in
    (rw f (gathered_lt x c.args.n), f)
