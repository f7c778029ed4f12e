-- `lengths::ran_out_at` meets its contract.
use mathlib.Core.Path.{refl, sym, ◌∙◌}
use native.Mathlib.Omega.{arith}
use Rattle.channel.specs.Fields.{widths, named_fields}
use Rattle.faults.proofs.RanOut.{search_stop, search_on, search_end}
use borrow.Author.Rules.{rules}
use Rattle.lengths.proofs.ran_out_at.Goals as goal

pub loop-k-init : goal.loop-k-init
unfolding named_fields
loop-k-init c = (search rules, search rules, refl)

pub returns-then-lacks_at-gt0 : goal.returns-then-lacks_at-gt0
returns-then-lacks_at-gt0 c = sym
    (search_stop c.args.s.now c.loop-k.at (widths c.args.bw c.args.n) c.loop-k.k c.named_width-w.result (omega arith) c.named_width-w.ensures.value
    (omega (arith, c.lacks_at.ensures)))
    ∙ c.loop-k.invariant.2

pub loop-k-preserved : goal.loop-k-preserved
loop-k-preserved c = (
  search rules,
  omega arith,
  search_on c.args.s.now c.loop-k.at (widths c.args.bw c.args.n) c.loop-k.k c.named_width-w.result (omega arith) c.named_width-w.ensures.value
      (omega (arith, c.lacks_at.ensures))
      ∙ c.loop-k.invariant.2,
)

pub returns : goal.returns
returns c = sym (search_end c.args.s.now c.loop-k.at (widths c.args.bw c.args.n) c.loop-k.k (omega arith)) ∙ c.loop-k.invariant.2
