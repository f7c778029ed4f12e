-- `writer::no_channel_room` meets its contract.
use borrow.Author.Rules.{rules}
use Rattle.writer.specs.Room.{no_channel_room}
use Rattle.writer.proofs.no_channel_room.Goals as goal

pub returns-in_err-refuse_if : goal.returns-in_err-refuse_if
unfolding no_channel_room
returns-in_err-refuse_if c = search rules

pub returns : goal.returns
unfolding no_channel_room
returns c = search rules
