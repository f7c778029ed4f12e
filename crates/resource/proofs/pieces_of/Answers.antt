-- `resource::pieces_of` meets its contract.
use Rattle.resource.proofs.Starts.{own_fields, own_whole}
use Rattle.resource.proofs.Apart.{no_pieces}
use Rattle.resource.specs.Values.{own_pieces, pieces}
use native.Mathlib.Omega.{arith}
use mathlib.Core.Path.{sym, ◌∙◌}
use Rattle.resource.proofs.pieces_of.Goals as goal

pub returns-in-0-to-63 : goal.returns-in-0-to-63
returns-in-0-to-63 c = c.fields_of.ensures ∙ sym (own_fields _ (omega arith) (λ e. c.in-0-to-63.in_default-own.rest.1 e))

pub returns-in_default : goal.returns-in_default
returns-in_default c = rw (no_pieces c.args.v (omega arith))

pub returns-in-28 : goal.returns-in-28
unfolding own_pieces pieces
returns-in-28 c = rw c.in-28.in-28-own.keys1

pub returns-in-28-2 : goal.returns-in-28-2
returns-in-28-2 c = sym (own_whole _ (omega arith) (omega arith))
