-- `wrong_blocks::is_second_right` meets its contract.
use mathlib.Core.Path.{◌≡◌, ◌∙◌}
use native.Mathlib.Omega.{arith}
use Rattle.wrong_blocks.proofs.Held.{tested_none, tested_160, tested_320}
use Rattle.wrong_blocks.proofs.is_second_right.Goals as goal

pub returns-then-bw-lt3 : goal.returns-then-bw-lt3
returns-then-bw-lt3 c = tested_none c.args.bw c.args.x c.if-bw-lt3.true

pub returns-then-bw-eq3 : goal.returns-then-bw-eq3
returns-then-bw-eq3 c = c.right_of.ensures ∙ tested_160 c.args.bw c.args.x c.if-bw-eq3.true

pub returns-else-bw-eq3 : goal.returns-else-bw-eq3
returns-else-bw-eq3 c = let e : c.args.bw ≡ 4 = omega (arith, c.if-bw-eq3.false) in
    c.right_of-else-bw-eq3.ensures ∙ tested_320 c.args.bw c.args.x e
