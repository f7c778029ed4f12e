-- `stream_rows::rows_with` meets its contract: the closed form is computed for all users and all a.
use Prim.Native.Nat.{◌-◌}
use native.Mathlib.Omega.{arith}
use Rattle.stream_rows.proofs.Totals.{Closed, closed}
use Rattle.stream_rows.proofs.rows_with.Goals as goal

form : (c : goal.After-least_of)
    → Closed c.args.users c.args.a c.least_of-s.result
    (c.least_of-s.result - c.least_of.result)
form c =
    closed c.args.users c.args.a c.least_of-s.result c.least_of.result
    c.requires.0 c.requires.1 c.least_of-s.ensures c.least_of.ensures

pub overflow_sub-result : goal.overflow_sub-result
overflow_sub-result c = (form c).no_less

pub returns : goal.returns
returns c = ((form c).exactly, omega (arith, (form c).square_small))
