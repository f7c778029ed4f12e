-- `streams::alone_streams` meets its contract.
use Rattle.std.proofs.Common.{lt-ltb, le-ltb}
use Rattle.streams.specs.Streams.{alone_streams}
use Rattle.streams.proofs.alone_streams.Goals as goal

pub returns-then-nss-lt8 : goal.returns-then-nss-lt8
unfolding alone_streams
returns-then-nss-lt8 c = rw (lt-ltb _ 8 c.if-nss-lt8.true)

pub returns-else-nss-lt8 : goal.returns-else-nss-lt8
unfolding alone_streams
returns-else-nss-lt8 c = rw (le-ltb _ 8 c.if-nss-lt8.false)
