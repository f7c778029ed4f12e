-- `channel::positions_of` meets its contract.
use lib.Pow.{pow_mono}
use Prim.Native.Nat.{◌^◌, ◌≤◌}
use native.Mathlib.Omega.{arith}
use Rattle.channel.specs.Layout.{positions}
use Rattle.channel.proofs.positions_of.Goals as goal

pub returns-clause-value : goal.returns-clause-value
unfolding positions
returns-clause-value c = let h : 2 ^ c.args.bw ≤ 16 = pow_mono {i = c.args.bw} {j = 4} c.requires in
    omega arith

pub returns-clause-upper_bound : goal.returns-clause-upper_bound
unfolding positions
returns-clause-upper_bound c = let h : 2 ^ c.args.bw ≤ 16 = pow_mono {i = c.args.bw} {j = 4} c.requires in
    omega arith
