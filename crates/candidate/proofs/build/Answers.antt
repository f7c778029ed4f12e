-- `candidate::build` meets its contract.
use Rattle.std.proofs.Common.{ℕ, ◌+◌, ◌*◌, ◌/◌, ◌≤◌, ◌≡◌, ap, arith, length, rules}
use Rattle.channel.specs.Layout.{common, end_of}
use Rattle.channel.proofs.Blocks.{end_after}
use Rattle.candidate.proofs.Joined.{built_all}
use Rattle.candidate.proofs.Parts.{before_common}
use Rattle.candidate.proofs.build.Goals as goal

pub put_first-one-requires : goal.put_first-one-requires
put_first-one-requires c = (omega (arith, c.requires.0, end_after c.args.bw (length c.args.fields.now), before_common c.args.bw), c.requires.1, c.requires.2)

pub put_second-two-requires : goal.put_second-two-requires
put_second-two-requires c =
    let r : common c.args.bw ≤ 8 * length c.args.d.now = omega (arith, c.requires.0, end_after c.args.bw (length c.args.fields.now)) in
    (search rules, search rules, c.put_first-one.ensures.upper_bound, c.requires.3)

pub returns : goal.returns
returns c =
    let n = length c.args.fields.now in
    let e : (c.end_bit.result + 7) / 8 ≡ (end_of c.args.bw n + 7) / 8 =
    ap (λ (k : ℕ). (k + 7) / 8) c.end_bit.ensures.value in
    λ z l m.
    let one = c.put_first-one.ensures.ends z l m.the_first in
    let two = c.put_second-two.ensures.ends z one m.the_second in
    let three = c.put_blocks.ensures z two m.the_blocks in
    built_all z _ _ (end_of c.args.bw n) three (rw e at c.clear_from.ensures) m.past m.bytes
    (record { small = λ j. (c.type_inv.d j).fits })
