--
use Rattle.std.proofs.Common.{◌≤◌, length, take, arith}
use Rattle.both_halves.proofs.Accepted.{known_code}
use Rattle.both_halves.proofs.Halves.{outcome, code, given, row_few}
use Rattle.compare.proofs.Coded.{few_1, few_2}
use Rattle.compare.proofs.Accepted.new.Goals as goal

pub positions_of-n-requires : goal.positions_of-n-requires
positions_of-n-requires c = code _ _ _ c.requires.read c.requires.passes

pub invariant_of-result : goal.invariant_of-result
invariant_of-result c =
    let bw = c.args.bandwidth in
    let a = c.args.cc1.now in
    let b = c.args.cc2.now in
    let p = outcome bw a b c.requires.read c.requires.passes in
    let g = given bw a b c.requires.read c.requires.passes c.positions_of-n.ensures.value in
    let few : length (take c.positions_of-n.result c.args.read.now.row) ≤ 16 = row_few (known_code bw a b p) g in
    record {
      passes = p;
      given = g;
      few = (few, omega (arith, g.count1, few_1 bw a b p), omega (arith, g.count2, few_2 bw a b p));
    }
