-- `lines::put_refusal` meets its contract.
use Rattle.text.proofs.Laws.{after}
use Rattle.lines.specs.Lines.{refusal_text}
use Rattle.lines.proofs.put_refusal.Goals as goal

pub returns-clause-wrote : goal.returns-clause-wrote
unfolding refusal_text
returns-clause-wrote c = after (after c.put_line-a.ensures.wrote c.put_line-b.ensures.wrote) c.put_line.ensures.wrote
