-- `bits::wide_from` meets its contract.
use Prim.Native.Nat.{ℕ, ◌%◌, ◌/◌, ◌^◌}
use mathlib.Core.Path.{ap, ◌∙◌}
use Rattle.bits.proofs.Windows.{field_from}
use Rattle.bits.proofs.wide_from.Goals as goal

pub returns-then-i-s : goal.returns-then-i-s
returns-then-i-s c = ap (λ (x : ℕ). x / 2 ^ (c.args.at % 8)) c.eight.ensures ∙ field_from c.args.s.now c.args.at

pub returns : goal.returns
returns c = ap (λ (x : ℕ). x / 2 ^ (c.args.at % 8)) c.eight_past.ensures ∙ field_from c.args.s.now c.args.at
