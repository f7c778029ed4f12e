-- `named_fields::named_width` meets its contract.
use mathlib.Core.Path.{◌≡◌, sym, ◌∙◌, ap}
use Prim.Native.Nat.{ℕ, ◌+◌, ◌-◌}
use native.Mathlib.Omega.{arith}
use lib.ListN.{length}
use Rattle.answer.specs.Lists.{at}
use Rattle.channel.specs.Layout.{firsts}
use Rattle.channel.specs.Fields.{checked_widths, second_widths, user_widths}
use Rattle.channel.proofs.Widths.{whole_overflow, whole_first, whole_second, whole_users, as_wide}
use Rattle.named_fields.proofs.named_width.Goals as goal

pub returns-then-k-lt7-clause-value : goal.returns-then-k-lt7-clause-value
returns-then-k-lt7-clause-value c = (as_wide _ c.args.bw c.args.n c.args.k (c.overflow_width.ensures ∙ sym
    (whole_overflow c.args.bw c.args.n c.args.k (omega arith)))).0

pub returns-then-k-second-clause-value : goal.returns-then-k-second-clause-value
returns-then-k-second-clause-value c = (as_wide _ c.args.bw c.args.n c.args.k
    (c.checked_width.ensures
    ∙ ap (λ (m : ℕ). at (checked_widths 9 m) (c.args.k - 7)) c.firsts_of-firsts.ensures.value
    ∙ sym (whole_first c.args.bw c.args.n c.args.k (omega arith) (omega arith)))).0

pub returns-then-k-second-clause-upper_bound : goal.returns-then-k-second-clause-upper_bound
returns-then-k-second-clause-upper_bound c = (as_wide _ c.args.bw c.args.n c.args.k
    (c.checked_width.ensures
    ∙ ap (λ (m : ℕ). at (checked_widths 9 m) (c.args.k - 7)) c.firsts_of-firsts.ensures.value
    ∙ sym (whole_first c.args.bw c.args.n c.args.k (omega arith) (omega arith)))).1

pub returns-then-k-users-clause-value : goal.returns-then-k-users-clause-value
returns-then-k-users-clause-value c = (as_wide _ c.args.bw c.args.n c.args.k
    (c.second_width.ensures
    ∙ ap (λ (m : ℕ). at (second_widths c.args.bw) (c.args.k - (m + 9))) c.firsts_of-firsts.ensures.value
    ∙ sym (whole_second c.args.bw c.args.n c.args.k (omega arith) (omega arith)))).0

pub returns-then-k-users-clause-upper_bound : goal.returns-then-k-users-clause-upper_bound
returns-then-k-users-clause-upper_bound c = (as_wide _ c.args.bw c.args.n c.args.k
    (c.second_width.ensures
    ∙ ap (λ (m : ℕ). at (second_widths c.args.bw) (c.args.k - (m + 9))) c.firsts_of-firsts.ensures.value
    ∙ sym (whole_second c.args.bw c.args.n c.args.k (omega arith) (omega arith)))).1

pub returns-else-k-users-clause-value : goal.returns-else-k-users-clause-value
returns-else-k-users-clause-value c = let e : c.args.k - (c.firsts_of-firsts.result + 9 + c.second_fields.result) ≡ c.args.k -
    (firsts c.args.bw + 9 + length (second_widths c.args.bw)) =
    omega arith in
    (as_wide _ c.args.bw c.args.n c.args.k
    (c.user_width.ensures ∙ ap (at (user_widths c.args.n)) e ∙ sym (whole_users c.args.bw c.args.n c.args.k (omega arith)))).0

pub returns-else-k-users-clause-upper_bound : goal.returns-else-k-users-clause-upper_bound
returns-else-k-users-clause-upper_bound c = let e : c.args.k - (c.firsts_of-firsts.result + 9 + c.second_fields.result) ≡ c.args.k -
    (firsts c.args.bw + 9 + length (second_widths c.args.bw)) =
    omega arith in
    (as_wide _ c.args.bw c.args.n c.args.k
    (c.user_width.ensures ∙ ap (at (user_widths c.args.n)) e ∙ sym (whole_users c.args.bw c.args.n c.args.k (omega arith)))).1
