-- What the loops of `channel::put_turns` keep.
use Prim.Native.Nat.{◌≤◌}
use Rattle.channel.specs.Engine.{Turns}
use Rattle.channel.proofs.put_turns.Given as goal

abbrev pub invariant-loop-k : goal.invariant-loop-k
invariant-loop-k l = (l.k ≤ l.fn.n) × Turns l.initial.row l.fn.p l.k l.fn.x l.fn.y l.row
