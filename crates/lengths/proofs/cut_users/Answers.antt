-- `lengths::cut_users` meets its contract.
use Prim.Native.Nat.{ℕ}
use mathlib.Core.Path.{sym, ◌∙◌, ap}
use mathlib.Core.Bool.{true, false}
use Rattle.answer.specs.Answer.{no}
use Rattle.answer.specs.declared.Refusal.TheVariants.{UserBlocksCut}
use Rattle.std.specs.Prelude.{Err}
use Rattle.faults.proofs.Passing.{cut_users_tested}
use Rattle.lengths.proofs.cut_users.Goals as goal

pub returns-then-not-is_short_users : goal.returns-then-not-is_short_users
returns-then-not-is_short_users c = sym (cut_users_tested c.args.bw c.args.channel c.args.s.now c.args.n false c.requires.2
    (sym c.is_short_users.ensures ∙ c.if-not-is_short_users.true))

pub returns-then-s-common_bits : goal.returns-then-s-common_bits
returns-then-s-common_bits c = ap (λ (p : ℕ). Err (UserBlocksCut c.args.channel p)) c.ran_out_at-place.ensures
    ∙ sym (cut_users_tested c.args.bw c.args.channel c.args.s.now c.args.n true c.requires.2 (sym c.is_short_users.ensures ∙ c.if-not-is_short_users.false))

pub returns-else-s-common_bits : goal.returns-else-s-common_bits
returns-else-s-common_bits c = ap (λ (p : ℕ). Err (UserBlocksCut c.args.channel p)) c.users_ran_out_at-place.ensures
    ∙ sym (cut_users_tested c.args.bw c.args.channel c.args.s.now c.args.n true c.requires.2 (sym c.is_short_users.ensures ∙ c.if-not-is_short_users.false))
