-- `turns::add_users` meets its contract.
use Rattle.std.proofs.Common.{List, ◌≡◌, refl, ℕ, ◌+◌, ◌*◌, ◌<◌, arith}
use Rattle.answer.specs.Lists.{at, filled}
use Rattle.answer.proofs.Lists.{filled_start, filled_step, get_d_kept}
use Rattle.turns.specs.Engine.{among}
use Rattle.turns.proofs.add_users.Goals as goal

-- the number that is read is still the one that was lent
as_lent : (f : ℕ → ℕ) (x : ℕ) (old now : List ℕ) → now ≡ filled f x old → at now x ≡ at old x
as_lent f x old now e = rw e (get_d_kept f x old x 0 (omega arith))

pub loop-x-init : goal.loop-x-init
loop-x-init c = filled_start _ _

pub overflow_add-turns : goal.overflow_add-turns
overflow_add-turns c =
    let k = c.requires.m_bound.2.low _ c.loop-x-test.true in
    let h : c.owner_in-i.result < 144 = rw c.owner_in-i.ensures k in
    omega (
      arith,
      c.requires.turns_len.2.few c.owner_in-i.result h,
      as_lent _ c.loop-x.x c.args.turns.now c.loop-x.turns c.loop-x.invariant,
      c.requires.turns_len.1.few c.loop-x.x c.loop-x-test.true,
    )

pub loop-x-preserved : goal.loop-x-preserved
loop-x-preserved c =
    let w = among c.args.first.now c.args.second.now c.args.m in
    let f : ℕ → ℕ = λ y. at c.args.turns.now y + 256 * at c.args.met.now (w y) in
    let e = as_lent f c.loop-x.x c.args.turns.now c.loop-x.turns c.loop-x.invariant in
    rw (e, c.owner_in-i.ensures, c.loop-x.invariant) (filled_step f c.loop-x.x _ c.args.turns.now (omega (arith, c.requires.turns_len)) refl)
