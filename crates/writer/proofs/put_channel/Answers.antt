-- `writer::put_channel` meets its contract.
use Rattle.std.proofs.Common.{sym, ◌∙◌, length-take-le}
use Rattle.writer.proofs.Steps.{front_is}
use Rattle.writer.proofs.put_channel.Goals as goal

pub returns : goal.returns
returns c =
    λ z e m.
    front_is z c.args.need c.args.d.now _ e
    (c.build.ensures z (e ∙ sym (length-take-le c.args.need c.args.d.now c.requires.2)) m)
