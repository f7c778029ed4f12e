-- `channel::from_45` meets its contract.
use Rattle.channel.proofs.Held.{from_45}
use Rattle.channel.proofs.from_45.Goals as goal

pub returns : goal.returns
returns c = rw c.from.ensures (from_45 c.args.s.now _ _ c.four.ensures c.eight.ensures)
