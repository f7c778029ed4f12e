-- What the loop of `compare::put_values` keeps.
use Rattle.compare.specs.Engine.{value_turn}
use Rattle.answer.specs.Lists.{at as nth}
use Rattle.std.proofs.Common.{◌+◌, ◌*◌, ◌≤◌}
use Rattle.text.specs.Text.{Wrote, upto}
use Rattle.compare.proofs.put_values.Given as goal

abbrev pub invariant-loop-p : goal.invariant-loop-p
invariant-loop-p l = (l.p ≤ l.n) × Wrote l.initial.out l.fn.at (upto (λ q. value_turn q (nth l.fn.row q) (nth l.fn.row2 q)) l.p) l.out l.e ×
    (l.e ≤ l.fn.at + 140 * l.p)
