-- `bits::eight_past` meets its contract.
use Prim.Native.Nat.{◌+◌, ◌-◌, ◌*◌, ◌/◌, ◌^◌, ℕ}
use mathlib.Core.Path.{◌≡◌, sym, ◌∙◌, ap}
use native.Mathlib.Omega.{arith}
use lib.ListN.{length}
use Rattle.bits.specs.Bits.{field}
use Rattle.bits.proofs.Windows.{field_past, field_end, field_few, field_first}
use Rattle.bits.proofs.+eight_past.Goals as goal

pub returns-then-n-i : goal.returns-then-n-i
returns-then-n-i t c = sym (field_past _ _ 64 (omega arith))

pub overflow_mul-result : goal.overflow_mul-result
overflow_mul-result t c = record { fits = omega (arith, c.eight_past.ensures, field_few c.args.s.now (c.args.i + 1) (omega arith)) }

pub overflow_add-result : goal.overflow_add-result
overflow_add-result t c = record { fits = omega (arith, c.wide.ensures.0, c.eight_past.ensures, field_few c.args.s.now (c.args.i + 1) (omega arith)) }

pub returns-then-n-lt8 : goal.returns-then-n-lt8
returns-then-n-lt8 t c = ap (λ (x : ℕ). c.wide.result + x * 256) c.eight_past.ensures
    ∙ field_first c.args.s.now c.args.i c.wide.result c.wide.ensures.0 c.wide.ensures.1 (omega arith)

pub returns : goal.returns
returns t c = let n = length c.args.s.now in
    let k = 8 * (c.args.i - (n - 8)) in
    let f : 8 * (n - 8) + k ≡ 8 * c.args.i = omega arith in
    ap (λ (x : ℕ). x / 2 ^ k) c.eight.ensures
    ∙ field_end c.args.s.now (8 * (n - 8)) 64 k (omega arith) (omega arith)
    ∙ ap (λ (x : ℕ). field c.args.s.now x 64) f
