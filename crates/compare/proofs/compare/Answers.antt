--
use Rattle.compare.proofs.Outcomes.{too_short, at_once, counted}
use Rattle.text.proofs.Laws.{count}
use Rattle.compare_size.proofs.Within.{comparison_within}
use Rattle.std.proofs.Common.{◌∙◌, arith}
use Rattle.compare.proofs.compare.Goals as goal

pub returns-then-longest-out-clause-value : goal.returns-then-longest-out-clause-value
returns-then-longest-out-clause-value c =
    let l = comparison_within c.args.bandwidth1 c.args.cc1.now c.args.cc2.now c.args.bandwidth2 c.args.other1.now c.args.other2.now in
    c.accepted.ensures
    ∙ (at_once _ c.args.out.now c.put_comparison-place.ensures (omega (arith, count c.put_comparison-place.ensures, l, c.longest.ensures))).0

pub returns-then-longest-out-clause-out_after : goal.returns-then-longest-out-clause-out_after
returns-then-longest-out-clause-out_after c =
    let l = comparison_within c.args.bandwidth1 c.args.cc1.now c.args.cc2.now c.args.bandwidth2 c.args.other1.now c.args.other2.now in
    (at_once _ c.args.out.now c.put_comparison-place.ensures (omega (arith, count c.put_comparison-place.ensures, l, c.longest.ensures))).1

pub returns-then-out-need-clause-value : goal.returns-then-out-need-clause-value
returns-then-out-need-clause-value c = c.into.ensures ∙ (too_short _ c.args.out.now c.put_comparison-need.ensures c.if-out-need.true).0

pub returns-then-out-need-clause-out_after : goal.returns-then-out-need-clause-out_after
returns-then-out-need-clause-out_after c = (too_short _ c.args.out.now c.put_comparison-need.ensures c.if-out-need.true).1

pub returns-clause-value : goal.returns-clause-value
returns-clause-value c = c.accepted-2.ensures ∙ (counted _ c.args.out.now c.put_comparison-need.ensures c.if-out-need.false c.put_comparison-place-2.ensures).0

pub returns-clause-out_after : goal.returns-clause-out_after
returns-clause-out_after c = (counted _ c.args.out.now c.put_comparison-need.ensures c.if-out-need.false c.put_comparison-place-2.ensures).1
