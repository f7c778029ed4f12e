-- `candidate::first_part` meets its contract.
use Rattle.std.proofs.Common.{arith}
use Rattle.answer.specs.Lists.{at}
use Rattle.frame_words.specs.Words.{position_in}
use Rattle.candidate.proofs.Numbers.{first_narrow, first_wide, first_of_is}
use Rattle.candidate.proofs.first_part.Goals as goal

pub first_of-requires : goal.first_of-requires
first_of-requires c = (c.requires.0, c.requires.1, omega arith, omega (arith, c.requires.2, (first_narrow c.args.bw c.if-bw-lt2.true).0))

pub returns-then-bw-lt2 : goal.returns-then-bw-lt2
returns-then-bw-lt2 c =
    let n = first_narrow c.args.bw c.if-bw-lt2.true in record {
      upper_bound = (first_of_is c.args.bw c.args.v (λ k. at c.args.row.now (position_in c.args.c k)) 1 26 _ _ n.0 n.1 c.first_of.ensures.1 c.sealed.ensures.0
          c.sealed.ensures.1).0;
      value = (first_of_is c.args.bw c.args.v (λ k. at c.args.row.now (position_in c.args.c k)) 1 26 _ _ n.0 n.1 c.first_of.ensures.1 c.sealed.ensures.0
          c.sealed.ensures.1).1;
    }

pub first_of-requires-2 : goal.first_of-requires-2
first_of-requires-2 c = (c.requires.0, c.requires.1, omega arith, omega (arith, c.requires.2, (first_wide c.args.bw (omega (arith, c.if-bw-lt2.false))).0))

pub returns : goal.returns
returns c =
    let n = first_wide c.args.bw (omega (arith, c.if-bw-lt2.false)) in record {
      upper_bound = (first_of_is c.args.bw c.args.v (λ k. at c.args.row.now (position_in c.args.c k)) 2 35 _ _ n.0 n.1 c.first_of-2.ensures.1
          c.sealed-2.ensures.0
          c.sealed-2.ensures.1).0;
      value = (first_of_is c.args.bw c.args.v (λ k. at c.args.row.now (position_in c.args.c k)) 2 35 _ _ n.0 n.1 c.first_of-2.ensures.1 c.sealed-2.ensures.0
          c.sealed-2.ensures.1).1;
    }
