-- `register::right_of` meets its contract.
use Prim.Native.Nat.{ℕ}
use mathlib.Core.Path.{◌∙◌, ap}
use native.Mathlib.Omega.{arith}
use Rattle.register.specs.Engine.{all_right}
use Rattle.register.proofs.Word.{right_leaving}
use Rattle.register.proofs.right_of.Goals as goal

pub returns : goal.returns
returns c = c.all_right.ensures ∙ ap (λ (q : ℕ). all_right q c.args.w c.args.n) c.leaving.ensures ∙ right_leaving c.args.w c.args.n (omega arith) (omega arith)
