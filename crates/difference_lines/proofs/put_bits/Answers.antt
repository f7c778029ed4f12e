--
use Rattle.compared.specs.Text.{bits_text}
use Rattle.text.proofs.Laws.{after}
use Rattle.difference_lines.proofs.put_bits.Goals as goal

pub returns-clause-wrote : goal.returns-clause-wrote
unfolding bits_text
returns-clause-wrote c = after (after (after (after (after c.put_hex-a.ensures c.put_hex-b.ensures) c.put_hex-c.ensures) c.put_hex-d.ensures)
    c.put_hex-e.ensures) c.put_hex.ensures
