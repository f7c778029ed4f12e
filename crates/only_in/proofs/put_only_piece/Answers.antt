-- `only_in::put_only_piece` meets its contract.
use Rattle.std.proofs.Common.{◌≡◌, ap, ◌∙◌, eq-eqb, ne_eqb}
use Rattle.text.proofs.Laws.{nothing, after}
use Rattle.resource.specs.Engine.{piece_at}
use Rattle.resource.proofs.Starts.{place_most}
use Rattle.records.specs.Records.{piece_record}
use Rattle.position_lines.specs.Engine.{runs_line}
use Rattle.only_in.specs.Engine.{piece_number, only_piece}
use Rattle.only_in.proofs.put_only_piece.Goals as goal

pub piece_number-requires : goal.piece_number-requires
piece_number-requires c = rw c.piece_at.ensures (place_most _ _)

pub returns-then-others-piece_number-eq1-clause-wrote : goal.returns-then-others-piece_number-eq1-clause-wrote
unfolding only_piece
returns-then-others-piece_number-eq1-clause-wrote c =
    let e : c.piece_number.result ≡ piece_number (piece_at c.args.v c.args.k) =
    c.piece_number.ensures.0 ∙ ap piece_number c.piece_at.ensures in
    let t = rw e at c.if-others-piece_number-eq1.true in
    rw (eq-eqb _ 1 t) (nothing _ _)

pub returns-clause-wrote : goal.returns-clause-wrote
unfolding only_piece
returns-clause-wrote c =
    let e : c.piece_number.result ≡ piece_number (piece_at c.args.v c.args.k) =
    c.piece_number.ensures.0 ∙ ap piece_number c.piece_at.ensures in
    let t = rw e at c.if-others-piece_number-eq1.false in
    let u = runs_line c.args.n (piece_record (λ q. c.args.v) c.args.p (piece_at c.args.v c.args.k)) in
    rw (ne_eqb _ 1 t) (after {u = u} c.put_side-a.ensures.wrote c.put_piece.ensures.wrote)
