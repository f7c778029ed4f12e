-- What the loops of `judge::channel_formatted` keep.
use Rattle.std.proofs.Common.{◌+◌, ◌≡◌}
use Rattle.answer.specs.Every.{every}
use Rattle.answer.specs.Lists.{at}
use Rattle.frame_words.specs.Words.{before}
use Rattle.candidate.specs.Engine.{candidate}
use Rattle.judge.specs.Engine.{formatted, format_in}
use Rattle.judge.proofs.channel_formatted.Given as goal

abbrev pub invariant-loop-k : goal.invariant-loop-k
invariant-loop-k l = (l.j ≡ before l.fn.bw (candidate l.fn.bw l.fn.words l.fn.c) l.k) ×
    (l.all ≡ every (λ q. formatted (format_in l.fn.bw l.fn.words l.fn.c q) (at l.fn.words (l.fn.first + q))) l.j)
