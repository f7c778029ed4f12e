-- `piece_codes::entry_at` meets its contract.
use Rattle.std.proofs.Common.{ap, ◌∙◌}
use Rattle.piece_codes.specs.Engine.{entry_of, entry_at}
use Rattle.piece_codes.proofs.entry_at.Goals as goal

pub returns : goal.returns
unfolding entry_at
returns c = c.entry_of.ensures ∙ ap entry_of c.place_of.ensures.0
