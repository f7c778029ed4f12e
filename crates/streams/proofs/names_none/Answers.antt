-- `streams::names_none` meets its contract.
use Rattle.streams.specs.Streams.{none_by}
use Rattle.streams.specs.Engine.{word_none}
use Rattle.streams.proofs.names_none.Goals as goal

pub returns : goal.returns
unfolding word_none none_by
returns c = rw (c.rows_of.ensures, c.from-users.ensures)
