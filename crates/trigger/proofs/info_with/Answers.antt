-- `trigger::info_with` meets its contract.
use Rattle.std.proofs.Common.{sym, refl, ◌∙◌}
use Rattle.trigger.specs.Engine.{info_with}
use Rattle.trigger.proofs.Stages.{bounds}
use Rattle.trigger.proofs.info_with.Goals as goal

pub packed-requires : goal.packed-requires
packed-requires c =
    let b = bounds c.args.numbers.now c.requires.3 in
    rw (c.from.ensures, c.from-2.ensures, c.from-3.ensures, c.from-4.ensures, c.from-5.ensures, c.from-6.ensures, c.from-7.ensures)
    (b.aid, c.requires.2, b.coding, b.mcs, b.reserved, b.spatial, b.power)

pub returns : goal.returns
unfolding info_with
returns c =
    c.packed.ensures
    ∙ rw
    (c.from.ensures, c.from-2.ensures, c.from-3.ensures, c.from-4.ensures, c.from-5.ensures, c.from-6.ensures, c.from-7.ensures, sym c.requires.1)
    refl
