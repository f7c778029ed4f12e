-- `timed::right_in` meets its contract.
use Prim.Native.Nat.{◌≤◌}
use mathlib.Core.Path.{◌≡◌, refl, ◌∙◌}
use mathlib.Core.Bool.{Bool, true, false, cond}
use native.Mathlib.Omega.{arith}
use mir.Val.{bool_byte}
use Rattle.timed.specs.Sums.{right_in}
use Rattle.timed.proofs.right_in.Goals as goal

one : (b : Bool) → (bool_byte b ≡ cond b 1 0) × (bool_byte b ≤ 15)
one true = (refl, omega arith)
one false = (refl, omega arith)

pub returns : goal.returns
unfolding right_in
returns c = let b = one c.block_right.result in (
  c.from-2.ensures ∙ b.0 ∙ rw (c.block_right.ensures, c.from.ensures, c.place.ensures.0) refl,
  omega (arith, c.from-2.ensures, b.1),
)
