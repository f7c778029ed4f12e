-- `input::line` meets its contract.
use Rattle.std.proofs.Common.{arith}
use Rattle.input.proofs.Turns.{key_room}
use Rattle.input.proofs.line.Goals as goal

pub hex_line-requires : goal.hex_line-requires
hex_line-requires c = key_room c.args.k.now c.args.s.now c.args.at (omega arith) c.key_at.ensures c.if-key_at.true
