-- What the loop of `frame_words::turn_formats` keeps.
use Rattle.std.proofs.Common.{◌≡◌}
use Rattle.answer.specs.Lists.{filled}
use Rattle.frame_words.specs.Words.{before, user_word_at}
use Rattle.frame_words.proofs.turn_formats.Given as goal

abbrev pub invariant-loop-k : goal.invariant-loop-k
invariant-loop-k l = (l.j ≡ before l.bw l.s l.k) × (l.fields ≡ filled (user_word_at l.bw l.row l.c l.s) l.j l.initial.fields)
