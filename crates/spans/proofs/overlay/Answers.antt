-- `spans::overlay` meets its contract.
use Rattle.segments.proofs.Entries.{entered_next}
use Rattle.spans.proofs.Entries.{overlaid_next}
use Rattle.std.proofs.Common.{◌∙◌, inr, arith}
use Rattle.spans.proofs.overlay.Goals as goal

pub loop-p-preserved : goal.loop-p-preserved
loop-p-preserved c = let x = overlaid_next _ _ c.loop-p.p _ _ c.args.kinds.now (c.loop-p.invariant.1.stands c.loop-p.p (inr (omega arith))) c.over.ensures in
    let g = entered_next _ _ c.loop-p.p _ _ c.loop-p.kinds (omega arith) (omega (arith, c.loop-p.invariant.0)) x c.loop-p.invariant.1 in
    (g.as_long ∙ c.requires.0, g)
