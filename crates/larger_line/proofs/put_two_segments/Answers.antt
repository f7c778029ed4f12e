-- `larger_line::put_two_segments` meets its contract.
use Rattle.text.proofs.Laws.{after}
use Rattle.larger_line.proofs.Larger.{comma_append, two_segments}
use Rattle.larger_line.proofs.put_two_segments.Goals as goal

pub returns-clause-wrote : goal.returns-clause-wrote
returns-clause-wrote c = rw (two_segments c.args.b c.args.mask, comma_append) (after c.put_places-a.ensures.wrote c.put_places.ensures.wrote)
