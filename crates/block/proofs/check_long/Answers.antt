-- `block::check_long` meets its contract.
use Prim.Native.Nat.{ℕ, ◌+◌, ◌-◌, ◌*◌}
use mathlib.Core.Path.{◌≡◌, ◌∙◌, ap, ap₂}
use native.Mathlib.Omega.{arith}
use lib.Bits.{bit_xor, xor_lt}
use Rattle.bits.proofs.Fields.{field_lt}
use Rattle.bits.proofs.Windows.{window_low}
use Rattle.block.specs.Check.{check, register}
use Rattle.register.specs.Engine.{shifts, check_from}
use Rattle.block.proofs.Mirror.{mirror, mirror_lt, mirror_start, mirror_part}
use Rattle.block.proofs.Word.{check_from_lem}
use Rattle.block.proofs.check_long.Goals as goal

pub loop-i-init : goal.loop-i-init
loop-i-init c = mirror_start _ _

pub byte_step-r-requires : goal.byte_step-r-requires
byte_step-r-requires c = xor_lt 8 c.loop-i.r c.from.result (rw c.loop-i.invariant (mirror_lt _))
    (rw (c.from.ensures, c.field_at.ensures) (field_lt _ _ 8))

pub loop-i-preserved : goal.loop-i-preserved
loop-i-preserved c =
    let e : 8 * c.loop-i.i + 8 ≡ 8 * (c.loop-i.i + 1) = omega arith in
    c.byte_step-r.ensures
    ∙ ap₂ (λ (x y : ℕ). shifts (bit_xor x y) 8) c.loop-i.invariant (c.from.ensures ∙ c.field_at.ensures)
    ∙ mirror_part c.args.s.now c.args.at (8 * c.loop-i.i) 8
    ∙ ap (λ (k : ℕ). mirror (register c.args.s.now c.args.at k)) e

pub returns : goal.returns
returns c = let bytes = c.div_ceil-bytes.result in let k = 8 * bytes in let m = c.args.n - k in
    let e : c.loop-i.i ≡ bytes = omega arith in
    let f : k + m ≡ c.args.n = omega (arith, c.div_ceil-bytes.ensures) in
    c.check_of.ensures
    ∙ ap (λ (r : ℕ). check_from r c.wide_from.result m) (c.loop-i.invariant ∙ ap (λ (i : ℕ). mirror (register c.args.s.now c.args.at (8 * i))) e)
    ∙ check_from_lem c.args.s.now c.args.at k m c.wide_from.result
    (window_low c.args.s.now (c.args.at + k) c.wide_from.result m c.wide_from.ensures (omega (arith, c.div_ceil-bytes.ensures)))
    ∙ ap (λ (k : ℕ). check c.args.s.now c.args.at k) f
