-- `listing_lines::put_tabled` meets its contract.
use Rattle.std.proofs.Common.{arith}
use Rattle.text.proofs.Laws.{after}
use Rattle.listing_lines.specs.Engine.{fields_listing}
use Rattle.listing_lines.proofs.Held.{resources_few, counted_few}
use Rattle.listing_lines.proofs.put_tabled.Goals as goal

pub put_head-o-requires : goal.put_head-o-requires
put_head-o-requires c =
    let few = counted_few c.requires.bw_bound.2 c.requires.row_len_bound.0 in
    let most = resources_few c.args.row.now c.requires.row_len_bound.0 in (
      omega arith,
      omega (arith, most, c.count_in-resources.ensures),
      omega (arith, few),
      omega (arith, few),
      omega
          (arith, few, c.stations_in-stations.ensures.bounded),
    )

pub put_stations-requires-clause-at_bound : goal.put_stations-requires-clause-at_bound
put_stations-requires-clause-at_bound c =
    let l = resources_few c.args.row.now c.requires.row_len_bound.0 in
    (omega arith, c.requires.bw_bound.1, c.requires.bw_bound.2)

pub returns : goal.returns
unfolding fields_listing
returns c =
    after
    (after (rw (c.count_in-resources.ensures, c.stations_in-stations.ensures.value) at c.put_head-o.ensures.wrote) c.put_records-p.ensures.wrote)
    c.put_stations.ensures
