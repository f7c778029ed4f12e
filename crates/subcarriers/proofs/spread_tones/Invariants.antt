-- What the loops of `subcarriers::spread_tones` keep.
use mathlib.Core.Path.{◌≡◌}
use mathlib.Core.List.{List, ◌++◌}
use Prim.Native.Nat.{◌+◌, ◌-◌, ◌*◌}
use Rattle.resource.specs.declared.Run.{Run}
use Rattle.resource.specs.Engine.{spread_runs, held}
use Rattle.subcarriers.proofs.spread_tones.Given as goal

abbrev pub invariant-loop-s : goal.invariant-loop-s
invariant-loop-s l = (rs : List Run) × (l.t ≡ held rs)
    × (rs ++ spread_runs (l.fn.b + 4 * l.s) l.left (l.fn.segments - l.s) ≡ spread_runs l.fn.b l.fn.mask l.fn.segments)
