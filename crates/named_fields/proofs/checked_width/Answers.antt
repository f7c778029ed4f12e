-- `named_fields::checked_width` meets its contract.
use native.Mathlib.Omega.{arith}
use mathlib.Core.Path.{sym}
use Rattle.channel.proofs.Widths.{checked_fields, checked_at_check, checked_at_tail, checked_past}
use Rattle.named_fields.proofs.checked_width.Goals as goal

pub returns-then-k-n : goal.returns-then-k-n
returns-then-k-n c = sym (checked_fields c.args.w c.args.n c.args.k (omega arith))

pub returns-then-k-n-2 : goal.returns-then-k-n-2
returns-then-k-n-2 c = sym (checked_at_check c.args.w c.args.n c.args.k (omega arith))

pub returns-then-k-n-3 : goal.returns-then-k-n-3
returns-then-k-n-3 c = sym (checked_at_tail c.args.w c.args.n c.args.k (omega arith))

pub returns-else-k-n-3 : goal.returns-else-k-n-3
returns-else-k-n-3 c = sym (checked_past c.args.w c.args.n c.args.k (omega arith))
