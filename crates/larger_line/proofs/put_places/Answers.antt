-- `larger_line::put_places` meets its contract.
use Rattle.std.proofs.Common.{append-nil}
use Rattle.text.proofs.Laws.{after}
use Rattle.resource.proofs.Places.{all_places, each_place}
use Rattle.larger_line.specs.Engine.{comma_text}
use Rattle.larger_line.proofs.Larger.{comma_append}
use Rattle.larger_line.proofs.put_places.Goals as goal

pub returns-then-mask-eq15-clause-wrote : goal.returns-then-mask-eq15-clause-wrote
unfolding comma_text
returns-then-mask-eq15-clause-wrote c = rw (all_places c.args.b c.args.mask c.if-mask-eq15.true, append-nil)
    (after c.put_span-a.ensures.wrote c.put_span.ensures.wrote)

pub returns-clause-wrote : goal.returns-clause-wrote
returns-clause-wrote c =
    let w = after c.put_place_if-a.ensures.wrote (after c.put_place_if-c.ensures.wrote (after c.put_place_if-d.ensures.wrote c.put_place_if.ensures.wrote)) in
    let e = each_place c.args.b c.args.mask c.if-mask-eq15.false in
    rw (e, comma_append, comma_append, comma_append, append-nil) w
