-- What the loop of `word_bytes::get_words` keeps.
use Rattle.word_bytes.specs.Bytes.{word_at}
use Rattle.answer.specs.Lists.{filled}
use mathlib.Core.Path.{◌≡◌}
use Rattle.word_bytes.proofs.get_words.Given as goal

abbrev pub invariant-loop-i : goal.invariant-loop-i
invariant-loop-i l = l.local ≡ filled (word_at l.bytes) l.i l.initial.local
