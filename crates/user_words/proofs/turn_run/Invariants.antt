-- What the loop of `user_words::turn_run` keeps.
use Rattle.std.proofs.Common.{◌≡◌}
use Rattle.answer.specs.Lists.{filled}
use Rattle.user_words.specs.Engine.{run_word}
use Rattle.user_words.proofs.turn_run.Given as goal

abbrev pub invariant-loop-i : goal.invariant-loop-i
invariant-loop-i l = l.fields ≡ filled (run_word l.initial.fields l.shared) l.i l.initial.fields
