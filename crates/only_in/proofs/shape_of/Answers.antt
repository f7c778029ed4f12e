-- `only_in::shape_of` meets its contract.
use Rattle.std.proofs.Common.{arith, add-one, ◌≡◌, ap, ◌∙◌, ℕ, ◌*◌, ◌%◌, ◌^◌}
use Rattle.resource.specs.Engine.{piece_at}
use Rattle.resource.proofs.Starts.{own_most, place_most}
use Rattle.only_in.specs.Engine.{piece_number}
use Rattle.only_in.proofs.Sets.{one_bit, bit_most}
use Rattle.only_in.proofs.shape_of.Goals as goal

pub piece_number-requires : goal.piece_number-requires
piece_number-requires c = rw c.piece_at.ensures (place_most _ _)

pub overflow_add-shape : goal.overflow_add-shape
overflow_add-shape c =
    let m = bit_most c.piece_number.result c.piece_number.ensures.1 in
    let l = own_most c.args.v in
    omega (arith, m, l, c.pieces_of-here.ensures)

pub loop-k-preserved : goal.loop-k-preserved
loop-k-preserved c =
    let m = bit_most c.piece_number.result c.piece_number.ensures.1 in
    let e : c.piece_number.result ≡ piece_number (piece_at c.args.v c.loop-k.k) = c.piece_number.ensures.0 ∙ ap piece_number c.piece_at.ensures in
    let f : 1 * 2 ^ c.piece_number.result % 4294967296 ≡ 2 ^ piece_number (piece_at c.args.v c.loop-k.k) =
    one_bit c.piece_number.result c.piece_number.ensures.1 ∙ ap (λ (x : ℕ). 2 ^ x) e in
    (omega arith, rw (add-one c.loop-k.k, f, c.loop-k.invariant.1), omega (arith, m))
