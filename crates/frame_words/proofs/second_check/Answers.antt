-- `frame_words::second_check` meets its contract.
use Rattle.std.proofs.Common.{refl, arith, lt-ltb}
use Rattle.words.specs.Words.{second_word}
use Rattle.frame_words.proofs.second_check.Goals as goal

pub returns-then-bw-lt3 : goal.returns-then-bw-lt3
unfolding second_word
returns-then-bw-lt3 c = rw (lt-ltb c.args.bw 3 (omega arith)) refl
