-- `segments::place_of` meets its contract.
use native.Mathlib.Omega.{arith}
use Rattle.kinds.specs.Kinds.{span, kind_at, kinds}
use Rattle.kinds.proofs.Table.{span_four}
use Prim.Native.Nat.{ℕ, ◌%◌}
use mathlib.Core.Path.{sym, ap}
use borrow.Author.Rules.{rules}
use Rattle.segments.proofs.place_of.Goals as goal

pub returns-in-0 : goal.returns-in-0
unfolding span kind_at kinds
returns-in-0 c = (omega arith, rw c.in-0.is (omega arith))

pub returns-in-1 : goal.returns-in-1
unfolding span kind_at kinds
returns-in-1 c = (omega arith, rw c.in-1.is)

pub returns-in_default : goal.returns-in_default
returns-in_default c = (omega arith, sym (ap (λ (n : ℕ). c.args.p % n) (span_four _ (search rules) (search rules))))
