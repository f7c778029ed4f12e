-- `piece_codes::word_at` meets its contract.
use Rattle.std.proofs.Common.{eq-eqb, ne_eqb}
use Rattle.piece_codes.specs.Engine.{word_at}
use Rattle.piece_codes.proofs.word_at.Goals as goal

pub returns-then-n-eq1 : goal.returns-then-n-eq1
unfolding word_at
returns-then-n-eq1 c = rw (eq-eqb c.args.n 1 c.if-n-eq1.true) c.narrow_at.ensures

pub returns : goal.returns
unfolding word_at
returns c = rw (ne_eqb c.args.n 1 c.if-n-eq1.false) c.wide_at.ensures
