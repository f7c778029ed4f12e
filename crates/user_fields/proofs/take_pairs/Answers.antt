-- `user_fields::take_pairs` meets its contract.
use Prim.Native.Nat.{ℕ, ◌+◌, ◌-◌, ◌*◌, ◌/◌}
use mathlib.Core.Path.{◌≡◌, refl, ◌∙◌, ap}
use native.Mathlib.Omega.{arith}
use lib.Bits.{bit_and, bit_or}
use lib.ListN.{length-set}
use Rattle.answer.proofs.Lists.{filled_start}
use Rattle.bits.specs.Bits.{field}
use Rattle.register.specs.Engine.{all_right}
use Rattle.channel.specs.Layout.{user, block_at}
use Rattle.user_fields.proofs.Fields.{two_high, two_inside, first_is, second_is, right_next, two_more}
use borrow.Author.Rules.{rules}
use Rattle.user_fields.proofs.take_pairs.Goals as goal

pub loop-b-init : goal.loop-b-init
unfolding all_right
loop-b-init c = (search rules, refl, filled_start _ _, refl)

pub window_to-w-requires : goal.window_to-w-requires
window_to-w-requires c = let h = two_high c.args.bw c.loop-b.b in
    let i = two_inside c.args.bw c.args.n c.loop-b.b (omega arith) in
    let r = c.requires.2 (omega arith) in
    (omega arith, omega arith, omega arith, omega arith, omega arith)

pub loop-b-preserved : goal.loop-b-preserved
loop-b-preserved c = let p = block_at c.args.bw c.loop-b.b in
    let k = 8 * ((p + 54 + 7) / 8) - p in
    let at : c.block_bit-at.result ≡ p = c.block_bit-at.ensures.value in
    let e : c.window_to-w.result ≡ field c.args.s.now p k = rw (← at) c.window_to-w.ensures in (
      search rules,
      ap (λ (u : ℕ). all_right (bit_and c.loop-b.q u) (bit_or c.loop-b.x c.window_to-w.result) 44) c.leaving-q.ensures
          ∙ right_next c.args.bw c.loop-b.b c.args.s.now c.args.n c.loop-b.q c.loop-b.x k c.window_to-w.result (omega arith) e (omega arith) (omega arith)
          c.loop-b.invariant.1,
      two_more (user c.args.bw c.args.s.now) c.loop-b.b c.first_in.result c.second_in.result c.loop-b.fields c.args.fields.now (omega arith)
          c.loop-b.invariant.2
          (c.first_in.ensures ∙ first_is c.args.bw c.loop-b.b c.args.s.now k c.window_to-w.result e (omega arith))
          (c.second_in.ensures ∙ second_is c.args.bw c.loop-b.b c.args.s.now k c.window_to-w.result e (omega arith)),
      simp length-set c.loop-b.invariant.3,
    )
