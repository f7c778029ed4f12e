-- `wrong_blocks::is_first_right` meets its contract.
use Rattle.wrong_blocks.proofs.Held.{first_narrow, first_wide}
use Rattle.wrong_blocks.proofs.is_first_right.Goals as goal

pub returns-then-bw-lt2 : goal.returns-then-bw-lt2
returns-then-bw-lt2 c = rw (first_narrow _ c.if-bw-lt2.true) c.right_of.ensures

pub returns-else-bw-lt2 : goal.returns-else-bw-lt2
returns-else-bw-lt2 c = rw (first_wide _ c.if-bw-lt2.false) c.right_of-else-bw-lt2.ensures
