-- `stores::put_low` meets its contract.
use mathlib.Core.Path.{◌≡◌, ap, ◌∙◌, refl}
use Prim.Native.Nat.{◌+◌, ◌-◌}
use native.Mathlib.Omega.{arith}
use lib.ListN.{set}
use Rattle.stores.specs.Engine.{four_of, lead_of, zeros_in, Under}
use Rattle.stores.proofs.Laws.{values, halves, lead_most, one_under, four_under, minus_under, run_under}
use Rattle.stores.proofs.put_low.Goals as goal

pub zeros_of-requires : goal.zeros_of-requires
zeros_of-requires c = let v = halves c.values_of_two-v.result c.args.m c.args.n c.requires.0 c.values_of_two-v.ensures in
    let m = values c.args.m c.requires.0 in
    let n = values c.args.n c.requires.1 in
    omega (arith, v.0, m.most)

pub zeros_of-requires-2 : goal.zeros_of-requires-2
zeros_of-requires-2 c = let v = halves c.values_of_two-v.result c.args.m c.args.n c.requires.0 c.values_of_two-v.ensures in
    let m = values c.args.m c.requires.0 in
    let n = values c.args.n c.requires.1 in
    omega (arith, v.1, n.most)

pub returns-clause-under : goal.returns-clause-under
unfolding four_of
returns-clause-under c = let v = halves c.values_of_two-v.result c.args.m c.args.n c.requires.0 c.values_of_two-v.ensures in
    let m = values c.args.m c.requires.0 in
    let n = values c.args.n c.requires.1 in
    let x : c.zeros_of.result ≡ lead_of c.args.m = c.zeros_of.ensures.value ∙ ap zeros_in v.0 ∙ m.zeros in
    let y : c.zeros_of-2.result ≡ lead_of c.args.n = c.zeros_of-2.ensures.value ∙ ap zeros_in v.1 ∙ n.zeros in
    let a = c.args.at + 1 + (4 - c.zeros_of.result) in
    let e = a + 2 + (4 - c.zeros_of-2.result) in
    let x1 = lead_most c.args.m in
    let y1 = lead_most c.args.n in
    let first = one_under c.args.out.now e c.args.c in
    let right : Under 3 _ (a + 1 + 1) _ c.put_four.new.out e =
    four_under c.args.n c.requires.1 (omega (arith, y1, y, c.requires.2)) (omega (arith, y)) (rw v.1 at c.put_four.ensures) in
    let colon = one_under (set c.put_four.new.out (a + 1) 45) a 58 in
    let left : Under 3 _ (c.args.at + 1) _ c.put_four-2.new.out a =
    four_under c.args.m c.requires.0 (omega (arith, x1, x, c.requires.2)) (omega (arith, x)) (rw v.0 at c.put_four-2.ensures) in
    let w = run_under _ _ c.args.c refl first (minus_under right) colon (minus_under left) in
    w
