-- `first_half::next_two` meets its contract.
use Rattle.first_half.proofs.Screens.{put_is}
use Rattle.first_half.proofs.next_two.Goals as goal

pub returns-clause-row_after : goal.returns-clause-row_after
returns-clause-row_after c = λ e. put_is c.args.bw c.args.a.now c.args.b.now _ _ _ c.requires.0.known c.put_row.ensures c.parts_of-parts.ensures c.requires.1
