-- `streams::field_streams` meets its contract.
use Rattle.std.proofs.Common.{lt-ltb, le-ltb, eq-eqb, ne_eqb}
use Rattle.streams.specs.Streams.{shared_streams, streams_by}
use Rattle.streams.specs.Engine.{word_streams}
use Rattle.streams.proofs.Fields.{word_row}
use Rattle.streams.proofs.field_streams.Goals as goal

pub returns-then-w-eq2046 : goal.returns-then-w-eq2046
unfolding word_streams streams_by shared_streams
returns-then-w-eq2046 c = rw (eq-eqb _ 2046 c.if-w-eq2046.true)

pub returns-then-code-lt2 : goal.returns-then-code-lt2
unfolding word_streams streams_by shared_streams
returns-then-code-lt2 c = rw (ne_eqb _ 2046 c.if-w-eq2046.false, lt-ltb _ 2 c.if-code-lt2.true) c.alone_streams.ensures

pub entry_at-requires : goal.entry_at-requires
entry_at-requires c =
    rw (c.from.ensures, c.from-2.ensures) (c.requires.1, word_row _ _ c.requires.2 c.if-w-eq2046.false c.if-code-lt2.false, c.requires.0)

pub returns : goal.returns
unfolding word_streams streams_by shared_streams
returns c = rw (ne_eqb _ 2046 c.if-w-eq2046.false, le-ltb _ 2 c.if-code-lt2.false)
    (rw (c.from.ensures, c.from-2.ensures) at c.entry_at.ensures.0)
