-- `stores::put_spaced` meets its contract.
use Rattle.stores.specs.Engine.{spaced_of}
use Rattle.stores.proofs.Laws.{spaced_bytes}
use Rattle.stores.proofs.put_spaced.Goals as goal

pub returns-clause-wrote : goal.returns-clause-wrote
unfolding spaced_of
returns-clause-wrote c = rw (c.one_if-lead.ensures.value, spaced_bytes c.args.n c.requires.0) at c.put_by_twos.ensures.wrote
