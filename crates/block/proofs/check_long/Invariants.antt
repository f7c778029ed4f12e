-- What the loops of `block::check_long` keep.
use Prim.Native.Nat.{◌*◌}
use mathlib.Core.Path.{◌≡◌}
use Rattle.block.specs.Check.{register}
use Rattle.block.proofs.Mirror.{mirror}
use Rattle.block.proofs.check_long.Given as goal

abbrev pub invariant-loop-i : goal.invariant-loop-i
invariant-loop-i l = l.r ≡ mirror (register l.fn.s l.fn.at (8 * l.i))
