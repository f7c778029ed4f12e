-- `position_lines::put_record` meets its contract.
use Rattle.resource.specs.Engine.{runs_of}
use Rattle.resource.proofs.Held.{runs_few, held_few}
use Rattle.resource_line.proofs.Held.{held_spans_lem}
use Rattle.position_lines.proofs.put_record.Goals as goal

pub put_ru-requires : goal.put_ru-requires
put_ru-requires c =
    let rs = runs_of c.args.n c.args.x.segment c.args.x.resource in
    let few = held_few c.args.tones rs c.requires.1 (runs_few c.args.n c.args.x.segment c.args.x.resource) in
    (c.requires.0, few.0, few.1)

pub returns-clause-wrote : goal.returns-clause-wrote
returns-clause-wrote c = rw (held_spans_lem c.args.n c.args.x.segment c.args.x.resource c.args.tones c.requires.1) at c.put_ru.ensures.wrote
