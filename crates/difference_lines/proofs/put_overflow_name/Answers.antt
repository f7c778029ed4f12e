--
use Rattle.compared.specs.Text.{overflow_name}
use Rattle.std.proofs.Common.{◌≡◌, arith}
use Rattle.difference_lines.proofs.put_overflow_name.Goals as goal

pub returns-in-0-clause-wrote : goal.returns-in-0-clause-wrote
unfolding overflow_name
returns-in-0-clause-wrote c = rw c.in-0.is c.put_all.ensures

pub returns-in-1-clause-wrote : goal.returns-in-1-clause-wrote
unfolding overflow_name
returns-in-1-clause-wrote c = rw c.in-1.is c.put_all-in-1.ensures

pub returns-in-2-clause-wrote : goal.returns-in-2-clause-wrote
unfolding overflow_name
returns-in-2-clause-wrote c = rw c.in-2.is c.put_all-in-2.ensures

pub returns-in-3-clause-wrote : goal.returns-in-3-clause-wrote
unfolding overflow_name
returns-in-3-clause-wrote c = rw c.in-3.is c.put_all-in-3.ensures

pub returns-in-4-clause-wrote : goal.returns-in-4-clause-wrote
unfolding overflow_name
returns-in-4-clause-wrote c = rw c.in-4.is c.put_all-in-4.ensures

pub returns-in-5-clause-wrote : goal.returns-in-5-clause-wrote
unfolding overflow_name
returns-in-5-clause-wrote c = rw c.in-5.is c.put_all-in-5.ensures

pub returns-in_default-clause-wrote : goal.returns-in_default-clause-wrote
unfolding overflow_name
returns-in_default-clause-wrote c =
    let last : c.args.k ≡ 6 =
    omega (arith, c.requires.1, c.in_default.in_default-own.rest) in
    rw last c.put_all-in_default.ensures
