-- What the loops of `candidate::put_pairs` keep.
use Rattle.std.proofs.Common.{ℕ, ◌^◌, ◌<◌, ◌≡◌, List, length}
use Rattle.channel.specs.Layout.{common, block_at}
use Rattle.candidate.specs.Engine.{Ends, Blocks}
use Rattle.candidate.proofs.put_pairs.Given as goal

abbrev pub invariant-loop-b : goal.invariant-loop-b
invariant-loop-b l = (l.h < 2 ^ 10) × (length l.d ≡ length l.initial.d) ×
    ((s : List ℕ) → Ends s (common l.fn.bw) l.fn.ten l.initial.d → Blocks l.fn.bw l.fn.fields s → Ends s (block_at l.fn.bw l.b) l.h l.d)
