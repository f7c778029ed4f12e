-- `reader::then_room` meets its contract.
use borrow.Author.Rules.{rules}
use Rattle.reader.specs.Table.{no_room}
use Rattle.reader.proofs.then_room.Goals as goal

pub returns-in_err-refuse_if-clause-passed : goal.returns-in_err-refuse_if-clause-passed
unfolding no_room
returns-in_err-refuse_if-clause-passed c = search rules

pub returns-in_err-refuse_if-clause-refused : goal.returns-in_err-refuse_if-clause-refused
unfolding no_room
returns-in_err-refuse_if-clause-refused c = search rules

pub returns-clause-refused : goal.returns-clause-refused
unfolding no_room
returns-clause-refused c = search rules
