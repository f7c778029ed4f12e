-- `named_fields::named_fields` meets its contract.
use native.Mathlib.Omega.{arith}
use Rattle.channel.proofs.Widths.{widths_length}
use Rattle.named_fields.proofs.named_fields.Goals as goal

pub returns-clause-value : goal.returns-clause-value
returns-clause-value c = omega (arith, widths_length c.args.bw c.args.n)
