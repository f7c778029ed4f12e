-- `position::users_at` meets its contract.
use Prim.Native.Nat.{ℕ, ◌+◌, ◌*◌, ◌/◌, ◌%◌, ◌<◌}
use mathlib.Core.Path.{◌≡◌, ◌∙◌, ap}
use mathlib.Core.List.{List}
use lib.ListN.{replicate, set}
use native.Mathlib.Omega.{arith}
use Rattle.answer.specs.Lists.{filled}
use Rattle.answer.proofs.Lists.{filled_start, filled_step}
use Rattle.bits.specs.Bits.{field}
use Rattle.position.specs.Walk.{user_from, end_from, users_at}
use Rattle.position.specs.Engine.{past_user}
use Rattle.position.proofs.Steps.{stands, stands_first, stands_user, stands_next, stands_last, stands_le}
use borrow.Author.Rules.{rules}
use Rattle.position.proofs.users_at.Goals as goal

pub loop-i-init : goal.loop-i-init
loop-i-init c = (search rules, filled_start _ _, stands_first _ _)

pub past_user-next-requires : goal.past_user-next-requires
past_user-next-requires c = (omega (arith, c.loop-i.invariant.2, stands_le c.args.at c.args.n c.loop-i.i (omega arith)), omega arith)

pub loop-i-preserved : goal.loop-i-preserved
unfolding user_from
loop-i-preserved c = let h : c.loop-i.i < c.args.n = omega arith in
    let e : c.field_at.result ≡ user_from c.args.s.now c.args.at c.loop-i.i =
    c.field_at.ensures ∙ ap (λ (x : ℕ). field c.args.s.now x 22) (c.loop-i.invariant.2 ∙ stands_user c.args.at c.args.n c.loop-i.i h) in (
      omega arith,
      ap (λ (r : List ℕ). set r c.loop-i.i c.field_at.result) c.loop-i.invariant.1
          ∙ filled_step (user_from c.args.s.now c.args.at) c.loop-i.i c.field_at.result (replicate 72 0) (omega arith) e,
      c.past_user-next.ensures ∙ ap (λ (x : ℕ). past_user x c.loop-i.i c.args.n) c.loop-i.invariant.2 ∙ stands_next c.args.at c.args.n c.loop-i.i h,
    )

pub returns : goal.returns
unfolding users_at end_from
returns c = let e : c.loop-i.i ≡ c.args.n = omega arith in
    let u : c.loop-i.users ≡ filled (user_from c.args.s.now c.args.at) c.args.n (replicate 72 0) =
    c.loop-i.invariant.1 ∙ ap (λ (k : ℕ). filled (user_from c.args.s.now c.args.at) k (replicate 72 0)) e in
    let n : c.loop-i.next ≡ c.args.at + 54 * (c.args.n / 2) + 32 * (c.args.n % 2) = c.loop-i.invariant.2 ∙ ap (stands c.args.at c.args.n) e ∙ stands_last
    c.args.at c.args.n in
    rw (u, n)
