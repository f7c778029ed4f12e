-- `only_in::put_only_pieces` meets its contract.
use Rattle.std.proofs.Common.{arith, ◌≡◌, length, rules}
use Rattle.text.proofs.Laws.{no_item, item}
use Rattle.resource.specs.Values.{own_pieces}
use Rattle.resource.proofs.Starts.{own_most}
use Rattle.only_in.proofs.put_only_pieces.Goals as goal

pub loop-k-init : goal.loop-k-init
loop-k-init c = (search rules, no_item _ _ _, omega arith)

pub put_only_piece-e-requires : goal.put_only_piece-e-requires
put_only_piece-e-requires c = (omega (arith, own_most c.args.v), c.requires.1, c.requires.2, omega (arith, c.pieces_of-here.ensures))

pub loop-k-preserved : goal.loop-k-preserved
loop-k-preserved c = (omega arith, item _ _ c.loop-k.invariant.1 c.put_only_piece-e.ensures.wrote, omega (arith, c.put_only_piece-e.ensures.bounded))

pub returns-clause-bounded : goal.returns-clause-bounded
returns-clause-bounded c =
    let e : c.loop-k.k ≡ length (own_pieces c.args.v) = omega (arith, c.pieces_of-here.ensures) in
    omega (arith, own_most c.args.v)
