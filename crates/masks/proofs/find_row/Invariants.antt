-- What the loops of `masks::find_row` keep.
use mathlib.Core.Path.{◌≡◌}
use Prim.Native.Nat.{◌+◌, ◌*◌, ◌≤◌, ◌<◌}
use lib.ListN.{length, take}
use Rattle.answer.specs.Lists.{at}
use Rattle.answer.specs.Tally.{tally}
use Rattle.masks.specs.Engine.{hit, pairs_to}
use Rattle.masks.proofs.find_row.Given as goal

abbrev pub invariant-loop-j : goal.invariant-loop-j
invariant-loop-j l = (l.fn.i < l.j) × (l.j ≤ l.fn.n) × (l.end ≤ 992) × (l.end ≡ 2 * tally (hit (at l.fn.masks) l.fn.n) (32 * l.fn.i + l.j)) ×
    (take l.end l.found ≡ pairs_to (at l.fn.masks) l.fn.n (32 * l.fn.i + l.j))
    × (length l.found ≡ 1024)
