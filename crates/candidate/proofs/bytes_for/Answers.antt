-- `candidate::bytes_for` meets its contract.
use Rattle.candidate.specs.Length.{bytes_for, longer}
use Rattle.std.proofs.Common.{lt-ltb, le-ltb, arith}
use Rattle.candidate.proofs.bytes_for.Goals as goal

pub returns-then-x-y : goal.returns-then-x-y
unfolding bytes_for longer
returns-then-x-y c = record {
  value = rw (← c.end_bit-x.ensures.value, ← c.end_bit-y.ensures.value, lt-ltb c.end_bit-x.result c.end_bit-y.result c.if-x-y.true);
  upper_bound = omega arith;
}

pub returns-else-x-y : goal.returns-else-x-y
unfolding bytes_for longer
returns-else-x-y c = record {
  value = rw (← c.end_bit-x.ensures.value, ← c.end_bit-y.ensures.value, le-ltb c.end_bit-x.result c.end_bit-y.result c.if-x-y.false);
  upper_bound = omega arith;
}
