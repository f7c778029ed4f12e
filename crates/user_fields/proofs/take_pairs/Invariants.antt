-- What the loops of `user_fields::take_pairs` keep.
use Prim.Native.Nat.{◌*◌, ◌≤◌}
use mathlib.Core.Path.{◌≡◌}
use lib.ListN.{length}
use Rattle.answer.specs.Every.{every}
use Rattle.answer.specs.Lists.{filled}
use Rattle.register.specs.Engine.{all_right}
use Rattle.channel.specs.Layout.{user}
use Rattle.user_fields.specs.Engine.{block_right}
use Rattle.user_fields.proofs.take_pairs.Given as goal

abbrev pub invariant-loop-b : goal.invariant-loop-b
invariant-loop-b l = (l.b ≤ l.m) × (all_right l.q l.x 44 ≡ every (block_right l.fn.bw l.fn.s l.fn.n) l.b) ×
    (l.fields ≡ filled (user l.fn.bw l.fn.s) (2 * l.b) l.initial.fields) × (length l.fields ≡ length l.initial.fields)
