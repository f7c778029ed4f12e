--
use Rattle.compared.specs.Text.{side_text}
use Rattle.text.specs.Text.{dec}
use Rattle.text.proofs.Laws.{after, digit_alone}
use Rattle.difference_lines.proofs.put_side.Goals as goal

pub returns-clause-wrote : goal.returns-clause-wrote
unfolding side_text dec
returns-clause-wrote c =
    let digit = digit_alone 19 c.args.side c.requires.1 c.put-b.ensures in
    after (after c.put_all-a.ensures digit) c.put.ensures
