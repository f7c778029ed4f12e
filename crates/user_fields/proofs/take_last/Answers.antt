-- `user_fields::take_last` meets its contract.
use Prim.Native.Nat.{ℕ, ◌+◌, ◌-◌, ◌*◌, ◌/◌}
use mathlib.Core.Path.{◌≡◌, ◌∙◌, ap}
use native.Mathlib.Omega.{arith}
use lib.ListN.{set}
use Rattle.bits.specs.Bits.{field}
use Rattle.channel.specs.Layout.{user, block_at}
use Rattle.channel.proofs.Blocks.{covered_one}
use Rattle.user_fields.proofs.Fields.{one_high, one_inside, first_is, test_is}
use Rattle.user_fields.proofs.take_last.Goals as goal

pub window_to-w-requires : goal.window_to-w-requires
window_to-w-requires c = let h = one_high c.args.bw (c.args.n / 2) in
    let l = one_inside c.args.bw c.args.n c.requires.2 in
    (omega arith, omega arith, omega arith, omega arith, omega arith)

pub returns-clause-value : goal.returns-clause-value
returns-clause-value c = let b = c.args.n / 2 in
    let p = block_at c.args.bw b in
    let k = 8 * ((p + 32 + 7) / 8) - p in
    let at : c.block_bit-at.result ≡ p = c.block_bit-at.ensures.value in
    let e : c.window_to-w.result ≡ field c.args.s.now p k = rw (← at) c.window_to-w.ensures in
    let i : 2 * b ≡ c.args.n - 1 = omega arith in
    c.right_of.ensures ∙ test_is c.args.bw b c.args.s.now c.args.n 22 k c.window_to-w.result e (covered_one c.args.n b (omega arith)) (omega arith)

pub returns-clause-fields_after : goal.returns-clause-fields_after
returns-clause-fields_after c = let b = c.args.n / 2 in
    let p = block_at c.args.bw b in
    let k = 8 * ((p + 32 + 7) / 8) - p in
    let at : c.block_bit-at.result ≡ p = c.block_bit-at.ensures.value in
    let e : c.window_to-w.result ≡ field c.args.s.now p k = rw (← at) c.window_to-w.ensures in
    let i : 2 * b ≡ c.args.n - 1 = omega arith in
    ap (λ (x : ℕ). set c.args.fields.now (c.args.n - 1) x)
    (c.first_in.ensures ∙ first_is c.args.bw b c.args.s.now k c.window_to-w.result e (omega arith) ∙ ap (user c.args.bw c.args.s.now) i)
