-- `stream_rows::decode` meets its contract: all rows with as many entries of at least 2 are stepped over at once.
use mathlib.Core.Path.{◌≡◌, refl}
use Prim.Native.Nat.{◌+◌, ◌-◌, ◌≤◌}
use native.Mathlib.Omega.{arith}
use lib.Dec.{leb}
use Rattle.stream_rows.specs.Engine.{before_two}
use Rattle.stream_rows.proofs.Totals.{Starts, starts}
use Rattle.stream_rows.proofs.Worked.{two_over}
use Rattle.stream_rows.proofs.decode.Goals as goal

on : (c : goal.In-loop-n)
    → (c.loop-n.a + 1 ≤ c.args.users)
    × (c.loop-n.left - c.loop-n.n + before_two c.args.users (c.loop-n.a + 1)
    ≡ c.args.number)
on c =
    two_over c.args.users c.loop-n.a c.loop-n.n c.loop-n.left c.args.number c.requires.0 c.loop-n.invariant.0 c.loop-n.invariant.1 c.loop-n.invariant.2
    c.requires.1 (omega arith)

pub loop-n-init : goal.loop-n-init
loop-n-init c = let h : Starts c.args.users c.args.number c.from-past.result = rw c.from-past.ensures
    (starts c.args.users c.args.number (leb 10 c.args.number) refl c.requires.0 c.requires.1) in (h.two_most, c.rows_with-n.ensures.0, h.stepped)

pub rows_with-n-requires-in-loop-n : goal.rows_with-n-requires-in-loop-n
rows_with-n-requires-in-loop-n c = let r = on c in (c.requires.0, omega arith)

pub loop-n-smaller : goal.loop-n-smaller
loop-n-smaller c = let r = on c.before in omega arith

pub loop-n-preserved : goal.loop-n-preserved
loop-n-preserved c = let r = on c.before in (r.0, c.rows_with-n-in-loop-n.ensures.0, r.1)
