-- `common_field::overflow_differs` meets its contract.
use mathlib.Core.Path.{refl, ◌∙◌}
use Prim.Native.Nat.{◌/◌, ◌%◌, ◌^◌}
use native.Mathlib.Omega.{arith}
use borrow.Author.Tests.{lt-ltb, le-ltb, eq-eqb, ne_eqb}
use Rattle.answer.specs.Answer.{◌or◌}
use Rattle.common_field.specs.Engine.{overflow_in}
use Rattle.common_field.proofs.overflow_differs.Goals as goal

pub returns-then-parts-gt4 : goal.returns-then-parts-gt4
unfolding overflow_in
returns-then-parts-gt4 c = rw (lt-ltb 4 _ c.if-parts-gt4.true) refl

pub returns-then-bw-eq0 : goal.returns-then-bw-eq0
unfolding overflow_in
returns-then-bw-eq0 c = let few = le-ltb 4 (c.args.parts.first1 / 2 ^ 6 % 8) (omega arith) in
    rw (few, eq-eqb _ 0 c.if-bw-eq0.true) refl

pub returns : goal.returns
unfolding overflow_in
returns c = let few = le-ltb 4 (c.args.parts.first1 / 2 ^ 6 % 8) (omega arith) in
    c.refuse_diff.ensures ∙ rw (few, ne_eqb _ 0 c.if-bw-eq0.false) refl
