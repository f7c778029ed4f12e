-- `wrong_blocks::wrong_users` meets its contract.
use Rattle.faults.specs.Checks.{first_wrong, wrong_users, wrong_users_of}
use Rattle.channel.specs.Layout.{count, blocks}
use mathlib.Core.Path.{◌≡◌, sym, ◌∙◌}
use mathlib.Core.List.{List}
use Prim.Native.Nat.{ℕ, ◌+◌, ◌/◌}
use native.Mathlib.Omega.{arith}
use borrow.Author.Tests.{le-ltb}
use Rattle.std.specs.Prelude.{Ok}
use Rattle.wrong_blocks.proofs.wrong_users.Goals as goal

no_blocks : (bw c : ℕ) (s : List ℕ) → Ok tt ≡ wrong_users_of bw c s 0
unfolding wrong_users_of blocks
no_blocks bw c s = rw (le-ltb (first_wrong bw s 0) ((0 + 1) / 2) (omega arith))

pub returns-then-n-eq0 : goal.returns-then-n-eq0
unfolding wrong_users wrong_users_of blocks
returns-then-n-eq0 c = let e : count c.args.bw c.args.channel c.args.s.now ≡ 0 = sym c.requires.1 ∙ c.if-n-eq0.true in
    rw e (no_blocks c.args.bw c.args.channel c.args.s.now)

pub returns : goal.returns
unfolding wrong_users wrong_users_of blocks
returns c = cc
