-- What the loop of `compare::first_changed` keeps.
use Rattle.channel.specs.Layout.{user_at}
use Rattle.bits.specs.Bits.{field}
use Rattle.std.proofs.Common.{◌≤◌, eqb, not, ◌≡◌}
use Rattle.answer.specs.Least.{least}
use Rattle.compare.proofs.first_changed.Given as goal

abbrev pub invariant-loop-i : goal.invariant-loop-i
invariant-loop-i l = (l.i ≤ l.fn.n) × (least (λ j. not (eqb (field l.fn.s (user_at l.fn.bw j) 22) (field l.fn.t (user_at l.fn.bw j) 22))) l.i ≡ l.i)
