-- `position_lines::put_pieces` meets its contract.
use Rattle.std.proofs.Common.{arith, ◌≡◌, length}
use Rattle.text.proofs.Laws.{no_item}
use Rattle.records.specs.Records.{list_at}
use Rattle.records.specs.Engine.{listed}
use Rattle.records.proofs.Listing.{list_length}
use Rattle.position_lines.specs.Engine.{runs_lines}
use Rattle.position_lines.proofs.put_pieces.Goals as goal

pub returns-then-pieces_of-eq0-clause-wrote : goal.returns-then-pieces_of-eq0-clause-wrote
unfolding runs_lines listed
returns-then-pieces_of-eq0-clause-wrote c =
    let none : length (list_at 0 (λ q. c.args.v) c.args.p) ≡ 0 =
    omega (arith, c.pieces_of.ensures, list_length 0 (λ q. c.args.v) c.args.p) in
    rw none (no_item _ _ _)
