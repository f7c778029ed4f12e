-- `stream_rows::decode_rest` meets its contract: all rows with as many entries of at least 3 are stepped over at once.
use mathlib.Core.Path.{◌≡◌}
use Prim.Native.Nat.{ℕ, ◌+◌, ◌-◌, ◌≤◌, ◌<◌}
use native.Mathlib.Omega.{arith}
use Rattle.stream_rows.specs.Engine.{gather, before_three}
use Rattle.stream_rows.proofs.Worked.{three_over}
use Rattle.stream_rows.proofs.decode_rest.Goals as goal

on : (c : goal.After-least_of-n)
    → (c.loop-n.b + 1 ≤ c.args.a)
    × (c.args.users + c.args.a + (c.loop-n.b + 1) ≤ 16)
    × (c.loop-n.left - c.loop-n.n
    + before_three c.args.users c.args.a (c.loop-n.b + 1)
    ≡ c.args.number)
on c =
    three_over c.args.users c.args.a c.loop-n.b c.loop-n.n c.loop-n.left c.args.number c.loop-n.invariant.0 c.loop-n.invariant.1 c.loop-n.invariant.2
    c.loop-n.invariant.3
    c.requires.2 (omega arith)

below : (a b : ℕ) → b + 1 ≤ a → a - (b + 1) < a - b
below a b l = omega arith

pub loop-n-init : goal.loop-n-init
unfolding gather before_three
loop-n-init c = (omega arith, omega arith, omega arith, omega arith)

pub loop-n-smaller : goal.loop-n-smaller
loop-n-smaller c = let r = on c in
    below c.args.a c.loop-n.b r.0

pub loop-n-preserved : goal.loop-n-preserved
loop-n-preserved c = let r = on c in (r.0, r.1, c.least_of-n.ensures, r.2)
