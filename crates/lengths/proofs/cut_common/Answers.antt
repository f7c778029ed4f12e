-- `lengths::cut_common` meets its contract.
use Prim.Native.Nat.{ℕ}
use mathlib.Core.Path.{sym, ◌∙◌, ap}
use mathlib.Core.Bool.{true, false}
use Rattle.answer.specs.Answer.{no}
use Rattle.answer.specs.declared.Refusal.TheVariants.{CommonFieldCut}
use Rattle.std.specs.Prelude.{Err}
use Rattle.faults.proofs.Passing.{cut_common_tested}
use Rattle.lengths.proofs.cut_common.Goals as goal

pub returns-then-not-is_short_common : goal.returns-then-not-is_short_common
returns-then-not-is_short_common c = sym (cut_common_tested c.args.bw c.args.channel c.args.s.now false
    (sym c.is_short_common.ensures ∙ c.if-not-is_short_common.true))

pub returns : goal.returns
returns c = ap (λ (p : ℕ). Err (CommonFieldCut c.args.channel p)) c.ran_out_at-place.ensures
    ∙ sym (cut_common_tested c.args.bw c.args.channel c.args.s.now true (sym c.is_short_common.ensures ∙ c.if-not-is_short_common.false))
