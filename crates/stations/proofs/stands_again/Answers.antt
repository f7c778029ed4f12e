-- `stations::stands_again` meets its contract.
use Prim.Native.Nat.{ℕ}
use mathlib.Core.Bool.{Bool, ◌&&◌}
use mathlib.Core.Path.{◌≡◌, refl, ◌∙◌, ap}
use native.Mathlib.Omega.{arith}
use lib.Dec.{ltb, leb}
use Rattle.stations.specs.Engine.{station_from}
use Rattle.stations.proofs.Kept.{among}
use Rattle.stations.proofs.Gathered.{met_more}
use Rattle.stations.proofs.stands_again.Goals as goal

pub loop-i-preserved : goal.loop-i-preserved
unfolding station_from
loop-i-preserved g c = (
  omega arith,
  met_more (station_from g.row.AT c.args.numbers.now) c.loop-i.i (station_from g.row.AT c.args.numbers.now c.args.j) c.loop-i.met _
      c.loop-i.invariant.1 refl,
)

pub returns : goal.returns
unfolding station_from
returns g c = let id = station_from g.row.AT c.args.numbers.now in
    let x = id c.args.j in
    let e : c.loop-i.i ≡ c.args.j = omega arith in
    ap (λ (m : Bool). (ltb 0 x && leb x 2006) && m) (c.loop-i.invariant.1 ∙ ap (λ (i : ℕ). among id i x) e)
