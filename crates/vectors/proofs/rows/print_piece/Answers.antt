-- `vectors::rows::print_piece` is safe: a piece of a value is there, and has at most eight runs.
use Rattle.std.proofs.Common.{arith}
use Rattle.resource.proofs.Starts.{place_most}
use Rattle.resource.proofs.Pieces.{own_piece}
use Rattle.resource.proofs.Held.{runs_few, held_few}
use Rattle.vectors.proofs.rows.print_piece.Goals as goal

pub piece_tones-t-requires : goal.piece_tones-t-requires
piece_tones-t-requires g c = rw c.piece_at-x.ensures (own_piece c.args.v c.args.k c.requires.1)

pub piece_record-requires : goal.piece_record-requires
piece_record-requires g c = (omega (arith, c.requires.0), rw c.piece_at-x.ensures (place_most c.args.v c.args.k))

pub print_record-requires : goal.print_record-requires
print_record-requires g c = held_few _ _ c.piece_tones-t.ensures (runs_few _ _ _)
