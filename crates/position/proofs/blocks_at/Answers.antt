-- `position::blocks_at` meets its contract.
use Prim.Native.Nat.{ℕ}
use mathlib.Core.Path.{◌≡◌, ◌∙◌, ap}
use lib.ListN.{replicate}
use Rattle.answer.specs.Lists.{filled}
use Rattle.bits.specs.Bits.{lacks}
use Rattle.position.specs.declared.Users.{Users}
use Rattle.position.specs.Walk.{user_from, end_from, users_at, first_lacking, blocks_at}
use Rattle.position.proofs.blocks_at.Goals as goal

pub returns : goal.returns
unfolding blocks_at users_at
returns c = let e : c.users_at-u.result.next ≡ end_from c.args.at c.args.c.count = ap (λ (x : Users). x.next) c.users_at-u.ensures in
    let us : c.users_at-u.result.users ≡ filled (user_from c.args.s.now c.args.at) c.args.c.count (replicate 72 0) = ap (λ (x : Users). x.users)
    c.users_at-u.ensures in
    let h : c.first_lacking-lacking.result ≡ first_lacking (lacks c.args.s.now 0 c.args.at) (lacks c.args.s.now 0 (end_from c.args.at c.args.c.count)) =
    c.first_lacking-lacking.ensures
    ∙ ap (λ (x : ℕ). first_lacking x c.lacks_at-2.result) c.lacks_at.ensures
    ∙ ap (first_lacking (lacks c.args.s.now 0 c.args.at)) (c.lacks_at-2.ensures ∙ ap (lacks c.args.s.now 0) e) in
    rw (us, e, h)
