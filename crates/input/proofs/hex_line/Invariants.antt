-- What the loops of `input::hex_line` keep.
use Rattle.std.proofs.Common.{◌≡◌, ◌+◌, ◌*◌, drop}
use Rattle.input.specs.Engine.{hex_line}
use Rattle.input.proofs.hex_line.Given as goal

abbrev pub invariant-loop-n : goal.invariant-loop-n
invariant-loop-n l = hex_line (drop (l.fn.at + 2 * l.n) l.fn.s) l.n ≡ hex_line (drop l.fn.at l.fn.s) 0
