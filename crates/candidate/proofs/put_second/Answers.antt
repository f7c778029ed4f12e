-- `candidate::put_second` meets its contract.
use Rattle.std.proofs.Common.{◌^◌, ◌<◌, arith, rules}
use Rattle.candidate.proofs.Parts.{second_160, second_320, no_second, low_320, high_320}
use Rattle.candidate.proofs.put_second.Goals as goal

pub push-requires : goal.push-requires
push-requires c =
    let t = second_160 c.args.bw c.if-bw-eq3.true in
    (omega arith, omega arith, omega arith, omega (arith, c.requires.0, t.2, t.3), c.requires.1, c.requires.2, rw t.0 at c.requires.3)

pub returns-then-bw-eq3 : goal.returns-then-bw-eq3
returns-then-bw-eq3 c =
    let t = second_160 c.args.bw c.if-bw-eq3.true in
    record {
      upper_bound = c.push.ensures.upper_bound;
      ends = λ z e f. rw t.3 (c.push.ensures.ends z (rw t.2 at e) (rw (t.2, t.0) at (f t.1)));
    }

pub push-half-requires : goal.push-half-requires
push-half-requires c =
    let t = second_320 c.args.bw c.if-bw-eq4.true in
    (omega arith, omega arith, omega arith, omega (arith, c.requires.0, t.2, t.3), c.requires.1, c.requires.2, omega arith)

pub push-requires-then-bw-eq4 : goal.push-requires-then-bw-eq4
push-requires-then-bw-eq4 c =
    let t = second_320 c.args.bw c.if-bw-eq4.true in
    let x : c.args.x < 2 ^ 64 = rw t.0 at c.requires.3 in (
      omega arith,
      omega arith,
      omega arith,
      search rules,
      search rules,
      c.push-half.ensures.upper_bound,
      omega arith,
    )

pub returns-then-bw-eq4 : goal.returns-then-bw-eq4
returns-then-bw-eq4 c =
    let t = second_320 c.args.bw c.if-bw-eq4.true in
    record {
      upper_bound = c.push-then-bw-eq4.ensures.upper_bound;
      ends = λ z e f.
          let g = rw (t.2, t.0) at (f t.1) in
          rw t.3 (c.push-then-bw-eq4.ensures.ends z (c.push-half.ensures.ends z (rw t.2 at e) (low_320 z _ g)) (high_320 z _ g));
    }

pub returns : goal.returns
returns c =
    let n = no_second c.args.bw c.if-bw-eq3.false c.if-bw-eq4.false in record {
      upper_bound = c.requires.2;
      ends = λ z e f. rw n at e;
    }
