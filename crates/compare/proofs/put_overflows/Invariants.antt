-- What the loop of `compare::put_overflows` keeps.
use Rattle.compare.specs.Engine.{overflow_turn}
use Rattle.std.proofs.Common.{◌*◌, ◌≤◌}
use Rattle.text.specs.Text.{Wrote, upto}
use Rattle.compare.proofs.put_overflows.Given as goal

abbrev pub invariant-loop-k : goal.invariant-loop-k
invariant-loop-k l = (l.k ≤ 7) × Wrote l.initial.out 0 (upto (overflow_turn l.fn.v l.fn.w) l.k) l.out l.e × (l.e ≤ 100 * l.k)
