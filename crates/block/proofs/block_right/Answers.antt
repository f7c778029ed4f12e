-- `block::block_right` meets its contract.
use Prim.Native.Nat.{◌+◌}
use mathlib.Core.Path.{◌∙◌}
use native.Mathlib.Omega.{arith}
use Rattle.bits.proofs.Windows.{window_low}
use Rattle.block.proofs.Checks.{right_ten}
use Rattle.block.proofs.Word.{right_whole}
use Rattle.block.proofs.block_right.Goals as goal

pub returns-then-n-le47 : goal.returns-then-n-le47
returns-then-n-le47 c = c.right_of.ensures
    ∙ right_whole c.args.s.now c.args.at c.args.n c.wide_from.result (window_low c.args.s.now c.args.at c.wide_from.result (c.args.n + 10) c.wide_from.ensures
    (omega arith))

pub returns : goal.returns
returns c = rw (c.field_at.ensures, c.check_at.ensures) (right_ten c.args.s.now c.args.at c.args.n)
