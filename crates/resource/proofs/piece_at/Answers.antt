-- `resource::piece_at` meets its contract.
use Rattle.resource.proofs.Starts.{found_right}
use mathlib.Core.Path.{◌∙◌}
use Rattle.resource.proofs.piece_at.Goals as goal

pub returns : goal.returns
returns c = c.piece_from.ensures
    ∙ rw (c.nth_start-s.ensures, c.nth_start-e.ensures, c.starts_of-m.ensures, c.from-k.ensures) (found_right _ _)
