-- `subcarriers::with_runs` meets its contract. The invariant: so many of u's runs are held after those of t.
use native.Mathlib.Omega.{arith}
use mathlib.Core.Path.{ap, ◌∙◌}
use mathlib.Core.List.{◌++◌}
use lib.ListN.{take}
use Rattle.resource.specs.Engine.{held}
use Rattle.resource.proofs.Held.{held_next, held_whole}
use Rattle.subcarriers.proofs.with_runs.Goals as goal

pub loop-k-preserved : goal.loop-k-preserved
loop-k-preserved c = (
  omega arith,
  omega (arith, c.loop-k.invariant.1, c.with_run-next.ensures.bounded.0),
  c.with_run-next.ensures.bounded.1,
  λ rs ws e f. c.with_run-next.ensures.value (rs ++ take c.loop-k.k ws) (c.loop-k.invariant.3 rs ws e f)
      ∙ ap held (held_next rs ws c.args.u c.loop-k.k f (omega arith) (omega (arith, c.requires.0))),
)

pub returns : goal.returns
returns c = λ rs ws e f. c.loop-k.invariant.3 rs ws e f ∙ ap held (held_whole rs ws c.args.u c.loop-k.k f (omega arith))
