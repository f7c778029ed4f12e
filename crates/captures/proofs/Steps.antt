-- What the steps of the reading come to.
use mathlib.Core.Path.{◌≡◌, sym, ◌∙◌}
use mathlib.Core.List.{List}
use Prim.Native.Nat.{ℕ, zero, suc, ◌≤◌}
use native.Mathlib.Omega.{arith}
use Rattle.std.specs.Prelude.{Err}
use Rattle.input.specs.declared.WrongLine.{WrongLine}
use Rattle.input.specs.Form.{IsWrongLine}
use Rattle.input.specs.Engine.{Parsed, three_lines}
use Rattle.input.proofs.Wrong.{wrong_line}

-- the second capture
no_fifth : (k : ℕ) (s : List ℕ) → IsWrongLine k s → k ≤ 4
no_fifth zero s w = absurd w
no_fifth (suc zero) s w = omega arith
no_fifth (suc (suc zero)) s w = omega arith
no_fifth (suc (suc (suc zero))) s w = omega arith
no_fifth (suc (suc (suc (suc zero)))) s w = omega arith
no_fifth (suc (suc (suc (suc (suc k))))) s w = absurd w

pub at_most_4 : (s : List ℕ) {r : Parsed} {w : WrongLine} → r ≡ three_lines s → r ≡ Err w → w.line ≤ 4
at_most_4 s {r} {w} e h = no_fifth w.line s (wrong_line s w.line (sym e ∙ h))
