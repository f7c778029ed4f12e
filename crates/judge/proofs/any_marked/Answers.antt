-- `judge::any_marked` meets its contract.
use Rattle.std.proofs.Common.{refl, arith, length-set}
use Rattle.stations.proofs.Gathered.{again_none, again_more}
use Rattle.judge.specs.Engine.{station_on}
use Rattle.judge.proofs.Marks.{noted_none, noted_more, noted_seen}
use Rattle.judge.proofs.any_marked.Goals as goal

pub loop-j-init : goal.loop-j-init
loop-j-init c = (refl, again_none _, noted_none _ 2048)

pub loop-j-preserved : goal.loop-j-preserved
loop-j-preserved c = (
  simp length-set c.loop-j.invariant.0,
  again_more (station_on c.args.words.now) c.loop-j.j c.loop-j.again _ c.loop-j.invariant.1
      (noted_seen (station_on c.args.words.now) c.loop-j.marks c.loop-j.j _ c.station_on-id.ensures.1 c.station_on-id.ensures.0 c.loop-j.invariant.2),
  rw c.is_once.ensures (noted_more (station_on c.args.words.now) c.loop-j.marks c.loop-j.j _ c.station_on-id.ensures.1 (omega arith) c.loop-j.invariant.2),
)
