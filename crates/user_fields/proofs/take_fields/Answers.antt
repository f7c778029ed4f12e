-- `user_fields::take_fields` meets its contract.
use Prim.Native.Nat.{◌*◌, ◌/◌}
use mathlib.Core.Path.{◌≡◌, ◌∙◌, ap₂}
use mathlib.Core.Bool.{◌&&◌}
use native.Mathlib.Omega.{arith}
use Rattle.channel.specs.Layout.{user}
use Rattle.user_fields.proofs.Fields.{even_right, odd_right, odd_filled}
use Rattle.user_fields.proofs.take_fields.Goals as goal

pub returns-then-n-eq0-clause-value : goal.returns-then-n-eq0-clause-value
returns-then-n-eq0-clause-value c = let e : 2 * (c.args.n / 2) ≡ c.args.n = omega arith in
    c.take_pairs-right.ensures.value ∙ even_right c.args.bw c.args.s.now c.args.n (omega arith)

pub returns-clause-value : goal.returns-clause-value
returns-clause-value c = ap₂ ◌&&◌ c.take_pairs-right.ensures.value c.take_last.ensures.value ∙ odd_right c.args.bw c.args.s.now c.args.n (omega arith)

pub returns-clause-fields_after : goal.returns-clause-fields_after
returns-clause-fields_after c = c.take_last.ensures.fields_after ∙ odd_filled (user c.args.bw c.args.s.now) c.args.n c.take_pairs-right.new.fields
    c.args.fields.now (omega arith) (omega arith) c.take_pairs-right.ensures.fields_after
