-- `writer::put_other` meets its contract.
use Rattle.std.proofs.Common.{sym, ◌∙◌, arith}
use Rattle.channel.specs.Layout.{subfields}
use Rattle.candidate.specs.Engine.{candidate}
use Rattle.candidate.proofs.Held.{absent_length, present_length}
use Rattle.candidate.proofs.Parts.{first_on, second_on, candidate_made}
use Rattle.judge.proofs.Steps.{lent}
use Rattle.writer.proofs.Steps.{front_none}
use Rattle.writer.proofs.put_other.Goals as goal

pub first_part-first-requires : goal.first_part-first-requires
unfolding subfields
first_part-first-requires c =
    let h = sym c.is_present.ensures ∙ c.if-is_present.true in
    (omega arith, omega arith, omega (arith, (c.requires.5 h).1))

pub returns-then-is_present : goal.returns-then-is_present
returns-then-is_present c =
    let h = sym c.is_present.ensures ∙ c.if-is_present.true in
    λ w r v f e.
    let l = lent c.args.bw w c.args.row.now 2 c.requires.0 (omega arith) (omega arith) h r in
    c.put_channel.ensures (candidate c.args.bw w 2) (present_length c.args.bw w 2 h ∙ sym e)
    (candidate_made c.args.bw w c.args.row.now 2 l c.args.fields.now f _ _
    (first_on c.args.bw w c.args.row.now 2 l _ _ v c.first_part-first.ensures.value)
    (second_on c.args.bw w c.args.row.now 2 l _ c.second_part-second.ensures.value))

pub returns-else-is_present : goal.returns-else-is_present
returns-else-is_present c =
    let h = sym c.is_present.ensures ∙ c.if-is_present.false in
    λ w r v f e. front_none (candidate c.args.bw w 2) c.args.d.now (absent_length c.args.bw w 2 h)
