-- What the loops of `text::put_whole` keep.
use Prim.Native.Nat.{◌+◌}
use lib.ListN.{length, take}
use Rattle.text.specs.Text.{Wrote}
use Rattle.text.proofs.put_whole.Given as goal

abbrev pub invariant-loop-j : goal.invariant-loop-j
invariant-loop-j l = Wrote l.initial.out l.fn.at (take l.j l.fn.s) l.out (l.fn.at + l.j)
