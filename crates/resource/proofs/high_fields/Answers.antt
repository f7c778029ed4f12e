-- `resource::high_fields` meets its contract.
use native.Mathlib.Omega.{arith}
use mathlib.Core.Path.{sym}
use Rattle.resource.proofs.Fields.{fields_family, fields_high}
use Rattle.resource.proofs.high_fields.Goals as goal

pub returns-then-v-lt304 : goal.returns-then-v-lt304
returns-then-v-lt304 c = sym (fields_family _ (omega arith) (omega arith))

pub returns-else-v-lt304 : goal.returns-else-v-lt304
returns-else-v-lt304 c = sym (fields_high _ (omega arith))
