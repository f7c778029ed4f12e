-- `stores::values_of_two` meets its contract.
use native.Mathlib.Omega.{arith}
use Rattle.stores.proofs.Laws.{side_by_side}
use Rattle.stores.proofs.values_of_two.Goals as goal

pub overflow_sub-pair : goal.overflow_sub-pair
overflow_sub-pair c = let t = side_by_side c.args.m c.args.n c.requires.0 c.requires.1 in
    rw t.hundreds t.less

pub overflow_mul-tens : goal.overflow_mul-tens
overflow_mul-tens c = let t = side_by_side c.args.m c.args.n c.requires.0 c.requires.1 in
    rw (t.hundreds, t.pair) (omega (arith, t.most))

pub overflow_mul-result : goal.overflow_mul-result
overflow_mul-result c = let t = side_by_side c.args.m c.args.n c.requires.0 c.requires.1 in
    rw (t.hundreds, t.pair) (omega (arith, t.most))

pub overflow_sub-result : goal.overflow_sub-result
overflow_sub-result c = let t = side_by_side c.args.m c.args.n c.requires.0 c.requires.1 in
    rw (t.hundreds, t.pair, t.tens) t.within

pub returns : goal.returns
returns c = let t = side_by_side c.args.m c.args.n c.requires.0 c.requires.1 in
    rw (t.hundreds, t.pair, t.tens) t.result
