-- `stations::any_again` meets its contract.
use borrow.Author.Rules.{rules}
use mathlib.Core.Path.{refl}
use lib.ListN.{length-set}
use Rattle.stations.specs.Engine.{station_in}
use Rattle.stations.proofs.Gathered.{station_lt, marked_none, marked_more, again_none, again_more, seen}
use Rattle.stations.proofs.any_again.Goals as goal

pub loop-j-init : goal.loop-j-init
loop-j-init c = (search rules, refl, again_none _, marked_none _ 32)

pub loop-j-preserved : goal.loop-j-preserved
unfolding station_in
loop-j-preserved c = let x = station_in c.args.ids.now c.loop-j.j in (
  search rules,
  simp length-set c.loop-j.invariant.1,
  again_more (station_in c.args.ids.now) c.loop-j.j c.loop-j.again c.is_marked-again.result c.loop-j.invariant.2
      (seen (station_in c.args.ids.now) c.loop-j.marks c.loop-j.j x _ refl (station_lt c.args.ids.now c.loop-j.j) c.loop-j.invariant.3
      c.is_marked-again.ensures),
  rw c.with_mark.ensures (marked_more (station_in c.args.ids.now) c.loop-j.marks c.loop-j.j x refl (station_lt c.args.ids.now c.loop-j.j) c.loop-j.invariant.1
      c.loop-j.invariant.3),
)
