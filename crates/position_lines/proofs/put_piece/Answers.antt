-- `position_lines::put_piece` meets its contract.
use Rattle.std.proofs.Common.{arith}
use Rattle.resource.proofs.Starts.{place_most}
use Rattle.resource.proofs.Pieces.{own_piece}
use Rattle.position_lines.proofs.put_piece.Goals as goal

pub piece_tones-tones-requires : goal.piece_tones-tones-requires
piece_tones-tones-requires c =
    let w = own_piece c.args.v c.args.k c.requires.2 in
    rw c.piece_at-x.ensures w

pub piece_record-requires : goal.piece_record-requires
piece_record-requires c = (omega (arith, c.requires.1), rw c.piece_at-x.ensures (place_most c.args.v c.args.k))
