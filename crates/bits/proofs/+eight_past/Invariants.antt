-- What the loops of `bits::eight_past` keep, and what falls.
use Prim.Native.Nat.{◌-◌}
use lib.ListN.{length}
use Rattle.bits.proofs.+eight_past.Given as goal

abbrev pub decreases-eight_past : goal.decreases-eight_past
decreases-eight_past l = length l.s.now - l.i
