-- `stream_rows::entry` meets its contract.
use native.Mathlib.Omega.{arith}
use lib.Dec.{ltb}
use Rattle.stream_rows.specs.Engine.{over, entry_of}
use Rattle.stream_rows.proofs.Count.{byte_cond, byte_le}
use Rattle.stream_rows.proofs.entry.Goals as goal

pub returns : goal.returns
unfolding over entry_of
returns c = let two = ltb c.args.place c.args.shape.two in
    let three = ltb c.args.place c.args.shape.three in
    let four = ltb c.args.place c.args.shape.four in (
      rw (c.from.ensures, c.from-2.ensures, c.from-3.ensures, byte_cond two, byte_cond three, byte_cond four),
      omega (arith, byte_le two, byte_le three, byte_le four),
    )
