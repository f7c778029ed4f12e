-- `resource::index_of` meets its contract.
use Rattle.resource.specs.Index.{index_of}
use borrow.Author.Tests.{lt-ltb, le-ltb}
use Rattle.resource.proofs.index_of.Goals as goal

pub returns-then-p-lt2 : goal.returns-then-p-lt2
unfolding index_of
returns-then-p-lt2 c = rw (c.in-S26.is, lt-ltb _ 2 c.if-p-lt2.true)

pub returns-else-p-lt2 : goal.returns-else-p-lt2
unfolding index_of
returns-else-p-lt2 c = rw (c.in-S26.is, le-ltb _ 2 c.if-p-lt2.false)

pub returns-in-S52 : goal.returns-in-S52
unfolding index_of
returns-in-S52 c = rw c.in-S52.is

pub returns-in-S106 : goal.returns-in-S106
unfolding index_of
returns-in-S106 c = rw c.in-S106.is

pub returns-in-S242 : goal.returns-in-S242
unfolding index_of
returns-in-S242 c = rw c.in-S242.is

pub returns-in-S484 : goal.returns-in-S484
unfolding index_of
returns-in-S484 c = rw c.in-S484.is

pub returns-in-S996 : goal.returns-in-S996
unfolding index_of
returns-in-S996 c = rw c.in-S996.is

pub returns-in-S2x996 : goal.returns-in-S2x996
unfolding index_of
returns-in-S2x996 c = rw c.in-S2x996.is
