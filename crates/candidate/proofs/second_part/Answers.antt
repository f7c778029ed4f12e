-- `candidate::second_part` meets its contract.
use Rattle.std.proofs.Common.{arith}
use Rattle.channel.specs.Layout.{subfields}
use Rattle.answer.specs.Lists.{at}
use Rattle.frame_words.specs.Words.{position_in}
use Rattle.candidate.proofs.Numbers.{second_three, second_four, second_part_is, second_none}
use Rattle.candidate.proofs.second_part.Goals as goal

pub gather-requires : goal.gather-requires
gather-requires c =
    let n = second_three c.args.bw c.if-bw-eq3.true in
    (omega arith, omega (arith, c.requires.1), unfold subfields in omega (arith, c.requires.2, n.0, n.1))

pub returns-then-bw-eq3 : goal.returns-then-bw-eq3
returns-then-bw-eq3 c =
    let n = second_three c.args.bw c.if-bw-eq3.true in record {
      upper_bound = (second_part_is c.args.bw c.args.row.now c.args.c 2 18 _ _ n (omega (arith, c.requires.0)) c.gather.ensures.1 c.sealed.ensures.0
          c.sealed.ensures.1).0;
      value = (second_part_is c.args.bw c.args.row.now c.args.c 2 18 _ _ n (omega (arith, c.requires.0)) c.gather.ensures.1 c.sealed.ensures.0
          c.sealed.ensures.1).1;
    }

pub gather-requires-then-bw-eq4 : goal.gather-requires-then-bw-eq4
gather-requires-then-bw-eq4 c =
    let n = second_four c.args.bw c.if-bw-eq4.true in
    (omega arith, omega (arith, c.requires.1), unfold subfields in omega (arith, c.requires.2, n.0, n.1))

pub returns-then-bw-eq4 : goal.returns-then-bw-eq4
returns-then-bw-eq4 c =
    let n = second_four c.args.bw c.if-bw-eq4.true in record {
      upper_bound = (second_part_is c.args.bw c.args.row.now c.args.c 6 54 _ _ n (omega (arith, c.requires.0)) c.gather-then-bw-eq4.ensures.1
          c.sealed-then-bw-eq4.ensures.0
          c.sealed-then-bw-eq4.ensures.1).0;
      value = (second_part_is c.args.bw c.args.row.now c.args.c 6 54 _ _ n (omega (arith, c.requires.0)) c.gather-then-bw-eq4.ensures.1
          c.sealed-then-bw-eq4.ensures.0
          c.sealed-then-bw-eq4.ensures.1).1;
    }

pub returns : goal.returns
returns c = record {
  upper_bound = (second_none c.args.bw (λ k. at c.args.row.now (position_in c.args.c k)) c.if-bw-eq3.false c.if-bw-eq4.false).0;
  value = (second_none c.args.bw (λ k. at c.args.row.now (position_in c.args.c k)) c.if-bw-eq3.false c.if-bw-eq4.false).1;
}
