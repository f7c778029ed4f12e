-- What the loop of `only_in::put_only_pieces` keeps.
use Rattle.std.proofs.Common.{◌+◌, ◌*◌, ◌≤◌}
use Rattle.text.specs.Text.{Wrote, upto}
use Rattle.only_in.specs.Engine.{only_piece}
use Rattle.only_in.proofs.put_only_pieces.Given as goal

abbrev pub invariant-loop-k : goal.invariant-loop-k
invariant-loop-k l = (l.k ≤ l.here) × Wrote l.initial.out l.fn.at (upto (only_piece l.fn.side l.fn.n l.fn.v l.fn.p l.fn.others) l.k) l.out l.e ×
    (l.e ≤ l.fn.at + 468 * l.k)
