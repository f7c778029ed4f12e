-- What the loops of `lengths::ran_out_at` keep.
use Prim.Native.Nat.{◌*◌, ◌≤◌}
use mathlib.Core.Path.{◌≡◌}
use lib.ListN.{drop}
use Rattle.channel.specs.Fields.{fields_from, widths, named_fields}
use Rattle.faults.specs.RanOut.{ran_out_at}
use Rattle.lengths.proofs.ran_out_at.Given as goal

abbrev pub invariant-loop-k : goal.invariant-loop-k
invariant-loop-k l = (l.k ≤ l.m) × (l.at ≤ 22 * l.k) × (ran_out_at l.fn.s (fields_from l.at (drop l.k (widths l.fn.bw l.fn.n))) ≡ ran_out_at l.fn.s
    (named_fields l.fn.bw l.fn.n))
