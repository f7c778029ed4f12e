-- What the loops of `subcarriers::with_runs` keep.
use mathlib.Core.Path.{◌≡◌}
use mathlib.Core.List.{List, ◌++◌}
use Prim.Native.Nat.{◌+◌, ◌≤◌}
use lib.ListN.{length, take}
use Rattle.resource.specs.declared.Run.{Run}
use Rattle.resource.specs.Engine.{held}
use Rattle.subcarriers.proofs.with_runs.Given as goal

abbrev pub invariant-loop-k : goal.invariant-loop-k
invariant-loop-k l = (l.k ≤ l.fn.u.count)
    × (l.next.count ≡ l.initial.next.count + l.k)
    × (length l.next.runs ≡ 8)
    × ((rs ws : List Run) → l.initial.next ≡ held rs → l.fn.u ≡ held ws → l.next ≡ held (rs ++ take l.k ws))
