-- What the writer answers for the room that it is lent.
use Rattle.std.specs.Prelude.{◌&&◌, ℕ, ltb}
use Rattle.answer.specs.Answer.{refuse_if, ◌or◌}
use Rattle.answer.specs.Answer.{Outcome}
use Rattle.answer.specs.declared.Refusal.TheVariants.{TooFewBytes}
use Rattle.channel.specs.Layout.{present}

-- 14: "a channel buffer is too short | channel, bytes needed"; "at 20 MHz it neither measures nor touches channel 2".
-- n and m are the bytes lent.
unfoldable pub no_channel_room : ℕ → ℕ → ℕ → ℕ → Outcome
no_channel_room bw need n m = refuse_if (ltb n need) (TooFewBytes 1 need) or refuse_if (present bw 2 && ltb m need) (TooFewBytes 2 need)
