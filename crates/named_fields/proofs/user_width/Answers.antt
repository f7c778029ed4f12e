-- `named_fields::user_width` meets its contract.
use mathlib.Core.Path.{sym, ◌∙◌}
use native.Mathlib.Omega.{arith}
use Rattle.channel.proofs.Widths.{users_none, users_two, users_one}
use Rattle.named_fields.proofs.user_width.Goals as goal

pub returns-then-n-first : goal.returns-then-n-first
returns-then-n-first c = sym (users_none c.args.n c.args.k (omega arith))

pub returns-then-first-n : goal.returns-then-first-n
returns-then-first-n c = c.checked_width.ensures ∙ sym (users_two c.args.n c.args.k (omega arith))

pub returns-else-first-n : goal.returns-else-first-n
returns-else-first-n c = c.checked_width-else-first-n.ensures ∙ sym (users_one c.args.n c.args.k (omega arith))
