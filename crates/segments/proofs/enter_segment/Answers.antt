-- `segments::enter_segment` meets its contract.
use Rattle.segments.proofs.Entries.{entered_next, segment_kind}
use mathlib.Core.Path.{refl, ◌∙◌}
use native.Mathlib.Omega.{arith}
use Rattle.segments.proofs.enter_segment.Goals as goal

pub loop-p-preserved : goal.loop-p-preserved
loop-p-preserved c = let x = segment_kind c.args.row.now c.args.b c.loop-p.p _ _ _ _ c.requires.2 (omega arith) (omega arith)
    c.first_named-k.ensures.1 refl c.value_at.ensures c.choice.ensures.1 in
    let g = entered_next _ _ c.loop-p.p _ _ c.loop-p.kinds (omega arith) (omega (arith, c.loop-p.invariant.0)) x c.loop-p.invariant.1 in
    (g.as_long ∙ c.requires.3, g)
