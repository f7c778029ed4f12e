-- `stores::apart_of` meets its contract.
use native.Mathlib.Omega.{arith}
use borrow.Author.Tests.{lt-ltb, le-ltb}
use Rattle.stores.specs.Engine.{apart}
use Rattle.stores.proofs.apart_of.Goals as goal

pub returns-then-u-zero : goal.returns-then-u-zero
unfolding apart
returns-then-u-zero c = (rw (lt-ltb _ _ c.if-u-zero.true), omega arith)

pub returns : goal.returns
unfolding apart
returns c = (rw (le-ltb _ _ c.if-u-zero.false), omega arith)
