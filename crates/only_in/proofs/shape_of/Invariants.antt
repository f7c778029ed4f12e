-- What the loop of `only_in::shape_of` keeps.
use Rattle.std.proofs.Common.{◌≡◌, ◌*◌, ◌≤◌}
use Rattle.only_in.specs.Engine.{shape_of}
use Rattle.only_in.proofs.shape_of.Given as goal

abbrev pub invariant-loop-k : goal.invariant-loop-k
invariant-loop-k l = (l.k ≤ l.here) × (l.shape ≡ shape_of l.fn.v l.k) × (l.shape ≤ 33554432 * l.k)
