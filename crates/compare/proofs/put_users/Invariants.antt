-- What the loop of `compare::put_users` keeps.
use Rattle.compare.specs.Engine.{code_turn, code_at}
use Rattle.std.proofs.Common.{◌+◌, ◌*◌, ◌≤◌}
use Rattle.text.specs.Text.{Wrote, upto}
use Rattle.compare.proofs.put_users.Given as goal

abbrev pub invariant-loop-i : goal.invariant-loop-i
invariant-loop-i l = Wrote l.initial.out l.fn.at (upto (λ j.
    code_turn j l.fn.one.count (code_at l.fn.one.codes1 l.fn.one.codes2 l.fn.one.first j) l.fn.two.count
    (code_at l.fn.two.codes1 l.fn.two.codes2 l.fn.two.first j)) l.i) l.out l.e × (l.e ≤ l.fn.at + 300 * l.i)
