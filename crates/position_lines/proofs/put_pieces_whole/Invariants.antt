-- What the loop of `position_lines::put_pieces_whole` keeps.
use Rattle.std.proofs.Common.{◌≡◌, ◌+◌, ◌*◌, ◌≤◌, drop, get_or}
use Rattle.text.specs.Text.{Wrote, upto}
use Rattle.resource.specs.Values.{own_pieces}
use Rattle.records.specs.Records.{blank, list_at}
use Rattle.piece_codes.specs.Engine.{packed}
use Rattle.position_lines.specs.Engine.{runs_line}
use Rattle.position_lines.proofs.put_pieces_whole.Given as goal

abbrev pub invariant-loop-k : goal.invariant-loop-k
invariant-loop-k l = (l.left ≡ packed (drop l.k (own_pieces l.fn.v)))
    × Wrote l.initial.out l.fn.at (upto (λ i. runs_line l.fn.n (get_or (list_at 0 (λ q. l.fn.v) l.fn.p) i blank)) l.k) l.out l.e
    × (l.e ≤ l.fn.at + 70 * l.k)
