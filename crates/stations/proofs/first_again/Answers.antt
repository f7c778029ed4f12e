-- `stations::first_again` meets its contract.
use Rattle.stations.proofs.Gathered.{station_lt, marked_none, marked_more, seen}
use Rattle.stations.specs.Engine.{station_in}
use Rattle.stations.specs.Stations.{repeated, first_repeated}
use Rattle.answer.proofs.Least.{least_start, least_step, least_stop}
use lib.ListN.{length, length-set}
use mathlib.Core.Path.{◌≡◌, refl, sym, ◌∙◌}
use borrow.Author.Rules.{rules}
use native.Mathlib.Omega.{arith}
use Rattle.stations.proofs.first_again.Goals as goal

pub loop-j-init : goal.loop-j-init
loop-j-init c = (search rules, refl, least_start _, marked_none _ 32)

pub returns-then-is_marked : goal.returns-then-is_marked
unfolding station_in first_repeated
returns-then-is_marked c = (
  omega arith,
  sym (least_stop (repeated (station_in c.args.ids.now)) c.loop-j.j (length c.args.ids.now) (omega arith) c.loop-j.invariant.2
      (sym
      (seen (station_in c.args.ids.now) c.loop-j.marks c.loop-j.j (station_in c.args.ids.now c.loop-j.j) _ refl (station_lt c.args.ids.now c.loop-j.j)
      c.loop-j.invariant.3
      c.is_marked.ensures)
      ∙ c.if-is_marked.true)),
)

pub loop-j-preserved : goal.loop-j-preserved
unfolding station_in
loop-j-preserved c = let x = station_in c.args.ids.now c.loop-j.j in (
  search rules,
  simp length-set c.loop-j.invariant.1,
  least_step (repeated (station_in c.args.ids.now)) c.loop-j.j c.loop-j.invariant.2
      (sym
      (seen (station_in c.args.ids.now) c.loop-j.marks c.loop-j.j x _ refl (station_lt c.args.ids.now c.loop-j.j) c.loop-j.invariant.3
      c.is_marked.ensures)
      ∙ c.if-is_marked.false),
  rw c.with_mark.ensures (marked_more (station_in c.args.ids.now) c.loop-j.marks c.loop-j.j x refl (station_lt c.args.ids.now c.loop-j.j) c.loop-j.invariant.1
      c.loop-j.invariant.3),
)

pub returns : goal.returns
unfolding first_repeated
returns c = (omega arith, let e : c.loop-j.j ≡ (length c.args.ids.now) = omega arith in rw (← e) (sym c.loop-j.invariant.2))
