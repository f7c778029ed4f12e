-- What the loops of `text::put_each` keep.
use Prim.Native.Nat.{◌≤◌}
use lib.ListN.{length, take}
use Rattle.text.specs.Text.{Wrote}
use Rattle.text.proofs.put_each.Given as goal

abbrev pub invariant-loop-b : goal.invariant-loop-b
invariant-loop-b l = Wrote l.initial.out l.fn.at (take l.b-index l.fn.s) l.out l.o
