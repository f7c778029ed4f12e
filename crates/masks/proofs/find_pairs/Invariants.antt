-- What the loops of `masks::find_pairs` keep.
use mathlib.Core.Path.{◌≡◌}
use Prim.Native.Nat.{◌*◌, ◌≤◌}
use lib.ListN.{length, take}
use Rattle.answer.specs.Lists.{at}
use Rattle.answer.specs.Tally.{tally}
use Rattle.masks.specs.Engine.{hit, pairs_to}
use Rattle.masks.proofs.find_pairs.Given as goal

abbrev pub invariant-loop-i : goal.invariant-loop-i
invariant-loop-i l = (l.i ≤ l.fn.n) × (l.end ≡ 2 * tally (hit (at l.fn.masks) l.fn.n) (32 * l.i)) ×
    (take l.end l.found ≡ pairs_to (at l.fn.masks) l.fn.n (32 * l.i)) × (length l.found ≡ 1024)
