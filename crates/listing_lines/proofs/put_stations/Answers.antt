-- `listing_lines::put_stations` meets its contract.
use Rattle.std.proofs.Common.{arith, ◌≡◌}
use Rattle.text.specs.Text.{upto}
use Rattle.text.proofs.Laws.{after, no_item}
use Rattle.station_lines.specs.Engine.{owned_line}
use Rattle.listing_lines.proofs.Channels.{both_channels}
use Rattle.listing_lines.proofs.Held.{counted_few}
use Rattle.listing_lines.proofs.put_stations.Goals as goal

pub returns-then-k-eq0 : goal.returns-then-k-eq0
returns-then-k-eq0 c =
    let e : c.args.k ≡ 0 = omega arith in
    rw (e, ← both_channels c.args.row.now c.args.fields.now c.args.m 0)
    (after c.put_channel-o.ensures.wrote (no_item (owned_line c.args.fields.now c.args.m c.args.row.now 2) _ _))

pub put_channel-requires-clause-at_bound : goal.put_channel-requires-clause-at_bound
put_channel-requires-clause-at_bound c =
    let few = counted_few c.requires.at_bound.2 c.requires.row_len_bound.0 in
    (omega (arith, few, c.put_channel-o.ensures.bounded), few.0, c.requires.at_bound.1, omega arith, omega arith)

pub returns : goal.returns
returns c =
    rw (← both_channels c.args.row.now c.args.fields.now c.args.m c.args.k)
    (after
    {t = upto (owned_line c.args.fields.now 0 c.args.row.now 1) c.args.m}
    {u = upto (owned_line c.args.fields.now c.args.m c.args.row.now 2) c.args.k}
    c.put_channel-o.ensures.wrote c.put_channel.ensures.wrote)
