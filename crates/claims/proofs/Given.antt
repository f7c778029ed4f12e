-- What the calls of spatial streams give, from Rattle or from C.
use mathlib.Core.Path.{◌≡◌}
use lib.ListN.{length}
use Rattle.stream_rows.specs.Result.{row_answer, row_after, number_answer}
use Rattle.streams.specs.Result.{streams_answer, streams_after}
use Rattle.claims.specs.Calls.{Call, RowCall, NumberCall, PutsRow, puts_row, c_puts_row, GivesNumber, gives_number, c_gives_number}
use Rattle.claims.specs.Calls.{GivesStreams, gives_streams, c_gives_streams}

pub row_gives : (c : RowCall) → PutsRow c
    → (c.answer ≡ row_answer c.users c.number (length c.lent)) × (c.after ≡ row_after c.users c.number c.lent)
row_gives c (puts_row κs a r s p) = p
row_gives c (c_puts_row κs a r s p) = p

pub number_gives : (c : NumberCall) → GivesNumber c → c.answer ≡ number_answer c.row
number_gives c (gives_number κs a r s p) = p
number_gives c (c_gives_number κs a r s p) = p

pub streams_give : (c : Call) → GivesStreams c
    → (c.answer ≡ streams_answer c.bandwidth c.channel_1 c.channel_2 (length c.lent))
    × (c.after ≡ streams_after c.bandwidth c.channel_1 c.channel_2 c.lent)
streams_give c (gives_streams κs a r s p) = p
streams_give c (c_gives_streams κs a r s p) = p
