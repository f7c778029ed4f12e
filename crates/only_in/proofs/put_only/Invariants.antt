-- What the loop of `only_in::put_only` keeps.
use Rattle.std.proofs.Common.{◌+◌, ◌*◌, ◌≤◌}
use Rattle.text.specs.Text.{Wrote, upto}
use Rattle.answer.specs.Lists.{at as value}
use Rattle.plan.specs.Engine.{only_plan}
use Rattle.only_in.specs.Engine.{only_at}
use Rattle.only_in.proofs.put_only.Given as goal

abbrev pub invariant-loop-p : goal.invariant-loop-p
invariant-loop-p l = (l.p ≤ l.n)
    × Wrote l.initial.out l.fn.at (upto (λ q. only_at l.fn.side l.fn.row (only_plan (value l.fn.row) q) q (only_plan (value l.fn.other) q)
    (value l.fn.other q)) l.p) l.out l.e
    × (l.e ≤ l.fn.at + 4212 * l.p)
