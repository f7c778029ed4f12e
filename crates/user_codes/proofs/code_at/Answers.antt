-- `user_codes::code_at` meets its contract.
use Rattle.std.proofs.Common.{◌%◌, arith, ◌∙◌}
use Rattle.resource.specs.Engine.{piece_at}
use Rattle.resource.proofs.Starts.{place_most}
use Rattle.answer.specs.Lists.{at}
use Rattle.user_codes.proofs.Codes.{piece_index, larger_index, own_code, larger_code}
use Rattle.user_codes.proofs.code_at.Goals as goal

pub piece_record-x-requires : goal.piece_record-x-requires
piece_record-x-requires c = (omega (arith, c.requires.0, c.requires.1), rw c.piece_at.ensures (place_most (at c.args.row.now c.args.p) c.args.k))

pub code_of-requires : goal.code_of-requires
code_of-requires c =
    let x = piece_at (at c.args.row.now c.args.p) c.args.k in (
      rw (c.piece_record-x.ensures, c.piece_at.ensures) (piece_index (c.args.p % 4) x (omega arith) (place_most (at c.args.row.now c.args.p) c.args.k)),
      rw c.piece_record-x.ensures (omega (arith, c.requires.0, c.requires.1)),
    )

pub returns-then-kind-eq0 : goal.returns-then-kind-eq0
returns-then-kind-eq0 c =
    let e = own_code c.args.kind (at c.args.row.now) c.args.p c.args.k c.if-kind-eq0.true in
    c.code_of.ensures ∙ rw (c.piece_record-x.ensures, c.piece_at.ensures) e

pub code_of-requires-2 : goal.code_of-requires-2
code_of-requires-2 c = (
  rw c.larger_record-x.ensures (larger_index c.args.kind (c.args.p % 4) c.requires.2 (omega arith)),
  rw c.larger_record-x.ensures (omega (arith, c.requires.0, c.requires.1)),
)

pub returns : goal.returns
returns c =
    let e = larger_code c.args.kind (at c.args.row.now) c.args.p c.args.k c.if-kind-eq0.false in
    c.code_of-2.ensures ∙ rw c.larger_record-x.ensures e
