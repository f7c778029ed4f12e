--
use Rattle.std.proofs.Common.{refl}
use Rattle.compare.proofs.Outcomes.{first_refused, second_refused, bandwidths_differ}
use Rattle.both_halves.proofs.Halves.{outcome, code, given}
use Rattle.compare.proofs.put_comparison.Goals as goal

pub returns-in-Err : goal.returns-in-Err
returns-in-Err c =
    let e = outcome c.args.bw c.args.a.now c.args.b.now c.plan_accepted-x.ensures c.in-Err.is in
    let f = outcome c.args.bw2 c.args.c.now c.args.d.now c.plan_accepted-y.ensures refl in
    rw (← (first_refused c.args.bw c.args.a.now c.args.b.now c.args.bw2 c.args.c.now c.args.d.now _ _ e f)) (rw c.into.ensures at c.put_refusals.ensures)

pub returns-in-Err-second : goal.returns-in-Err-second
returns-in-Err-second c =
    let e = outcome c.args.bw c.args.a.now c.args.b.now c.plan_accepted-x.ensures c.in_default.is in
    let f = outcome c.args.bw2 c.args.c.now c.args.d.now c.plan_accepted-y.ensures c.in-Err-second.is in
    rw (← (second_refused c.args.bw c.args.a.now c.args.b.now c.args.bw2 c.args.c.now c.args.d.now _ e f)) (rw c.from-r.ensures at c.put_refused.ensures.wrote)

pub returns-then-bw-bw2 : goal.returns-then-bw-bw2
returns-then-bw-bw2 c =
    let e = outcome c.args.bw c.args.a.now c.args.b.now c.plan_accepted-x.ensures c.in_default.is in
    let f = outcome c.args.bw2 c.args.c.now c.args.d.now c.plan_accepted-y.ensures c.in_default-second.is in
    let z = bandwidths_differ c.args.bw c.args.a.now c.args.b.now c.args.bw2 c.args.c.now c.args.d.now e f c.if-bw-bw2.true in
    rw (← z) c.put_bandwidths.ensures

pub returns : goal.returns
returns c =
    let one = c.new-one.ensures.frame in
    let two = c.new-two.ensures.frame in
    rw (← one.0, ← one.1, ← one.2, ← two.0, ← two.1, ← two.2) c.put_differences.ensures
