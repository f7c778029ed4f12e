-- `user_codes::fields_with` meets its contract.
use Rattle.std.proofs.Common.{◌≡◌, ap, ◌∙◌, List, ℕ, ◌+◌, ◌*◌, arith, set, replicate}
use lib.ListN.{length-replicate}
use Rattle.answer.proofs.Lists.{filled_start, filled_step}
use Rattle.user_codes.specs.Engine.{user_code, field_code}
use Rattle.user_codes.proofs.fields_with.Goals as goal

pub loop-i-init : goal.loop-i-init
loop-i-init c = filled_start _ _

pub loop-i-preserved : goal.loop-i-preserved
unfolding field_code user_code
loop-i-preserved c =
    let x = c.from-bits.result + 4194304 * c.from.result in
    let e : x ≡ field_code c.args.bw c.args.s.now c.args.owners.now c.args.codes.now c.loop-i.i =
    rw (c.from-bits.ensures, c.from.ensures, c.field_at.ensures, c.user_bit.ensures, c.code_in.ensures) in
    ap (λ (w : List ℕ). set w c.loop-i.i x) c.loop-i.invariant
    ∙ filled_step _ c.loop-i.i x (replicate 72 0) (omega (arith, c.requires, length-replicate {A = ℕ} 72 0)) e
