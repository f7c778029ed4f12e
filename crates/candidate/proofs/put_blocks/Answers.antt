-- `candidate::put_blocks` meets its contract.
use Rattle.std.proofs.Common.{◌%◌, ◌≡◌, arith, length, rules}
use Rattle.channel.proofs.Laws.{common_ge}
use Rattle.channel.specs.Layout.{block_at}
use Rattle.candidate.proofs.Parts.{end_even, end_odd}
use Rattle.candidate.proofs.put_blocks.Goals as goal

pub returns-then-n-eq0 : goal.returns-then-n-eq0
returns-then-n-eq0 c =
    λ z e f.
    rw (end_even c.args.bw (length c.args.fields.now) c.if-n-eq0.true) at
    (c.put_pairs-h.ensures.ends z e f).built

pub push-requires : goal.push-requires
push-requires c =
    let n = length c.args.fields.now in
    let e = end_odd c.args.bw n (omega arith) in (
      omega arith,
      omega arith,
      unfold block_at in omega (arith, c.block_bit.ensures.value, common_ge c.args.bw),
      search rules,
      search rules,
      c.put_pairs-h.ensures.upper_bound,
      omega (arith, c.sealed-x.ensures.0),
    )

pub returns : goal.returns
returns c =
    let n = length c.args.fields.now in
    let o : n % 2 ≡ 1 = omega arith in
    λ z e f. rw (c.block_bit.ensures.value, end_odd c.args.bw n o) at (c.push.ensures.ends z
    (rw c.block_bit.ensures.value (c.put_pairs-h.ensures.ends z e f)) (rw (c.block_bit.ensures.value, c.sealed-x.ensures.1, c.from.ensures) (f.last o))).built
