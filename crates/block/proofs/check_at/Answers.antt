-- `block::check_at` meets its contract.
use mathlib.Core.Path.{◌∙◌}
use native.Mathlib.Omega.{arith}
use Rattle.bits.proofs.Windows.{window_low}
use Rattle.block.proofs.Word.{check_whole}
use Rattle.block.proofs.check_at.Goals as goal

pub returns-then-n-le57 : goal.returns-then-n-le57
returns-then-n-le57 c = c.check_of.ensures
    ∙ check_whole c.args.s.now c.args.at c.args.n c.wide_from.result (window_low c.args.s.now c.args.at c.wide_from.result c.args.n c.wide_from.ensures
    (omega arith))
