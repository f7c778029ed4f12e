-- `candidate::first_of` meets its contract.
use Rattle.answer.specs.Lists.{at}
use Rattle.frame_words.specs.Words.{position_in}
use Rattle.candidate.proofs.Numbers.{first_is}
use Rattle.candidate.proofs.first_of.Goals as goal

pub returns : goal.returns
returns c = rw c.from.ensures (first_is c.args.v c.gather.result (λ k. at c.args.row.now (position_in c.args.c k)) c.args.n c.requires.2 c.gather.ensures.1)
