-- `subcarriers::piece_tones` meets its contract.
use mathlib.Core.Path.{sym, ap, ◌∙◌}
use Rattle.resource.specs.Engine.{held}
use Rattle.resource.proofs.Pieces.{piece_from_one, piece_runs}
use Rattle.subcarriers.proofs.piece_tones.Goals as goal

pub overflow_sub-i : goal.overflow_sub-i
overflow_sub-i c = piece_from_one _ (rw c.in-Part.is at c.requires.0)

pub overflow_sub-i-in-With26 : goal.overflow_sub-i-in-With26
overflow_sub-i-in-With26 c = piece_from_one _ (rw c.in-With26.is at c.requires.0)

pub returns-in-Part : goal.returns-in-Part
returns-in-Part c = c.part_tones.ensures
    ∙ ap held (sym (piece_runs c.args.n c.args.p c.args.x c.requires.0 c.requires.1 ∙ rw c.in-Part.is))

pub returns-in-With26 : goal.returns-in-With26
returns-in-With26 c = c.with_26_tones.ensures
    ∙ ap held (sym (piece_runs c.args.n c.args.p c.args.x c.requires.0 c.requires.1 ∙ rw c.in-With26.is))
