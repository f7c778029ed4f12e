-- `user_fields::window_to` meets its contract.
use Prim.Native.Nat.{◌+◌, ◌/◌}
use native.Mathlib.Omega.{arith}
use Rattle.user_fields.proofs.Fields.{window_to}
use Rattle.user_fields.proofs.window_to.Goals as goal

pub returns : goal.returns
returns c = window_to c.args.s.now c.args.at ((c.args.end + 7) / 8) c.eight.result (omega arith) (omega arith) (omega arith) c.eight.ensures
