-- `stations::stations_of` meets its contract.
use Prim.Native.Nat.{ℕ}
use mathlib.Core.Path.{refl, ◌∙◌, ap}
use mathlib.Core.List.{List}
use native.Mathlib.Omega.{arith}
use lib.ListN.{set, replicate}
use Rattle.answer.proofs.Lists.{filled_start, filled_step}
use Rattle.stations.specs.Engine.{station_in}
use borrow.Author.Rules.{rules}
use Rattle.stations.proofs.stations_of.Goals as goal

pub loop-j-init : goal.loop-j-init
loop-j-init c = (search rules, filled_start _ _)

pub loop-j-preserved : goal.loop-j-preserved
unfolding station_in
loop-j-preserved c = let x = station_in c.args.fields.now c.loop-j.j in (
  search rules,
  ap (λ (z : List ℕ). set z c.loop-j.j x) c.loop-j.invariant.1 ∙ filled_step (station_in c.args.fields.now) c.loop-j.j x (replicate 144 0)
      (omega arith) refl,
)
