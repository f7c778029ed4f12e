--
use Rattle.compare.specs.Engine.{bandwidth_text}
use Rattle.text.proofs.Laws.{after}
use Rattle.compare.proofs.put_bandwidths.Goals as goal

pub returns : goal.returns
unfolding bandwidth_text
returns c = after c.put_bandwidth-a.ensures.wrote c.put_bandwidth.ensures.wrote
