-- `position_lines::put_pieces_whole` meets its contract.
use Rattle.std.proofs.Common.{arith, ◌≡◌, refl, sym, ap, ◌∙◌, ℕ, ◌+◌, ◌/◌, ◌%◌, ◌<◌, length, drop, get_or}
use Rattle.text.proofs.Laws.{no_item, item, kept}
use Rattle.resource.specs.Values.{own_pieces}
use Rattle.resource.specs.Engine.{piece_at}
use Rattle.resource.proofs.Starts.{own_most}
use Rattle.resource.proofs.Pieces.{own_piece}
use Rattle.records.specs.Records.{blank, piece_record, list_at}
use Rattle.records.specs.Engine.{listed}
use Rattle.records.proofs.Listing.{list_length, list_at_lem, own_record}
use Rattle.piece_codes.specs.Engine.{code_of, packed, codes_of}
use Rattle.piece_codes.proofs.Codes.{code_back, unpack, code_is}
use Rattle.position_lines.specs.Engine.{runs_line, runs_lines}
use Rattle.position_lines.proofs.Coded.{piece_few, code_line_lem}
use Rattle.position_lines.proofs.put_pieces_whole.Goals as goal

-- the k-th code, and those after it
next : (v k : ℕ) → k < length (own_pieces v)
    → (packed (drop k (own_pieces v)) % 128 ≡ code_of (piece_at v k)) × (packed (drop k (own_pieces v)) / 128 ≡ packed (drop (k + 1) (own_pieces v)))
next v k l = let o = own_piece v k l in unpack (own_pieces v) k l (code_back (piece_at v k) o.0 o.1).1

pub loop-k-init : goal.loop-k-init
unfolding codes_of
loop-k-init c = (c.codes_of-left.ensures, no_item _ _ _, omega arith)

pub put_coded_piece-e-requires : goal.put_coded_piece-e-requires
put_coded_piece-e-requires c =
    let h : c.loop-k.k < length (own_pieces c.args.v) = omega (arith, c.pieces_of-here.ensures, c.loop-k-test.true) in
    let x = next c.args.v c.loop-k.k h in
    let q = piece_at c.args.v c.loop-k.k in
    let g = own_piece c.args.v c.loop-k.k h in
    let code : c.loop-k.left % 128 ≡ code_of q = rw c.loop-k.invariant.0 x.0 in
    let room = kept c.loop-k.invariant.1 in (
      c.requires.1,
      c.requires.2,
      rw code (code_back q g.0 g.1).1,
      rw code (code_is q g.0 g.1),
      rw c.piece_fields-users.ensures (piece_few c.args.v),
      omega (arith, own_most c.args.v, c.requires.0, c.loop-k.invariant.2, h),
      omega (arith, own_most c.args.v, c.requires.3, c.loop-k.invariant.2, h, room),
    )

pub loop-k-preserved : goal.loop-k-preserved
unfolding listed
loop-k-preserved c =
    let m = list_length 0 (λ q. c.args.v) c.args.p in
    let h : c.loop-k.k < length (own_pieces c.args.v) = omega (arith, c.pieces_of-here.ensures, c.loop-k-test.true) in
    let x = next c.args.v c.loop-k.k h in
    let e : get_or (list_at 0 (λ q. c.args.v) c.args.p) c.loop-k.k blank ≡ piece_record (λ q. c.args.v) c.args.p (piece_at c.args.v c.loop-k.k) =
    list_at_lem 0 (λ q. c.args.v) c.args.p c.loop-k.k (omega (arith, m, c.pieces_of-here.ensures, c.loop-k-test.true)) ∙ own_record 0 (λ q. c.args.v) c.args.p
    c.loop-k.k refl in
    let w = rw (
      ap (λ (z : ℕ). z % 128) c.loop-k.invariant.0 ∙ x.0,
      c.piece_fields-users.ensures,
      code_line_lem c.args.n c.args.p c.args.v c.loop-k.k h,
      ap
          (runs_line c.args.n) (sym e),
    ) at c.put_coded_piece-e.ensures.wrote in (
      rw c.loop-k.invariant.0 x.1,
      item _ _ c.loop-k.invariant.1 w,
      omega
          (arith, c.put_coded_piece-e.ensures.bounded, c.loop-k.invariant.2),
    )

pub returns-clause-wrote : goal.returns-clause-wrote
unfolding runs_lines listed
returns-clause-wrote c =
    let e : c.loop-k.k ≡ length (list_at 0 (λ q. c.args.v) c.args.p) =
    omega (arith, c.pieces_of-here.ensures, list_length 0 (λ q. c.args.v) c.args.p, c.loop-k-test.false) in
    rw e at c.loop-k.invariant.1

pub returns-clause-bounded : goal.returns-clause-bounded
unfolding runs_lines listed
returns-clause-bounded c =
    let e : c.loop-k.k ≡ length (list_at 0 (λ q. c.args.v) c.args.p) =
    omega (arith, c.pieces_of-here.ensures, list_length 0 (λ q. c.args.v) c.args.p, c.loop-k-test.false) in
    (omega (arith, e, c.loop-k.invariant.2), omega (arith, e, c.loop-k.invariant.2, own_most c.args.v, c.pieces_of-here.ensures, c.loop-k-test.false))
