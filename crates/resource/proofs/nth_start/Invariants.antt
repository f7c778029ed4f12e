-- What the loops of `resource::nth_start` keep.
use mathlib.Core.Path.{◌≡◌}
use Prim.Native.Nat.{◌-◌, ◌/◌, ◌^◌}
use Rattle.resource.specs.Engine.{nth_from}
use Rattle.resource.proofs.nth_start.Given as goal

abbrev pub invariant-loop-s : goal.invariant-loop-s
invariant-loop-s l = nth_from (l.fn.m / 2 ^ l.s) l.left l.s (9 - l.s) ≡ nth_from l.fn.m l.fn.k 0 9
