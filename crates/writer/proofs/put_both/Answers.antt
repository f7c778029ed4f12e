-- `writer::put_both` meets its contract.
use Rattle.std.proofs.Common.{sym, ◌∙◌, arith, take}
use Rattle.channel.proofs.Laws.{present_1}
use Rattle.candidate.specs.Engine.{candidate}
use Rattle.candidate.proofs.Held.{count_in_le, needed_le, present_length}
use Rattle.candidate.proofs.Parts.{candidate_made}
use Rattle.judge.proofs.Steps.{lent_1}
use Rattle.writer.proofs.Steps.{narrow_in, first_fields, other_fields, first_reach, other_reach, row_reach}
use Rattle.writer.proofs.put_both.Goals as goal

pub put_channel-requires : goal.put_channel-requires
put_channel-requires c =
    let u = first_fields c.args.bw c.requires.0.0 c.args.row.now c.args.fields.now c.args.told.fields1 c.args.need
    c.args.told.overflow c.args.told.first c.args.told.second
    c.requires.0.1 in (
      first_reach c.args.bw c.requires.0.0 c.args.row.now c.args.fields.now c.args.told.fields1 c.args.need
          c.args.told.overflow c.args.told.first c.args.told.second c.requires.0.1,
      omega (arith, c.requires.0.1.enough, needed_le c.args.bw c.requires.0.0),
      c.requires.1,
      c.requires.0.1.begun.the_first.0,
      c.requires.0.1.begun.the_second.0,
      omega (arith, u.counted, count_in_le c.args.bw c.requires.0.0 1),
      narrow_in c.args.bw c.requires.0.0 1 _ u,
    )

pub put_other-requires : goal.put_other-requires
put_other-requires c =
    let u = other_fields c.args.bw c.requires.0.0 c.args.row.now c.args.fields.now c.args.told.fields1 c.args.need
    c.args.told.overflow c.args.told.first c.args.told.second
    c.requires.0.1 in (
      c.requires.0.1.known,
      other_reach c.args.bw c.requires.0.0 c.args.row.now c.args.fields.now c.args.told.fields1 c.args.need
          c.args.told.overflow c.args.told.first c.args.told.second c.requires.0.1,
      omega (arith, c.requires.0.1.enough, needed_le c.args.bw c.requires.0.0),
      omega (arith, u.counted, count_in_le c.args.bw c.requires.0.0 2),
      narrow_in c.args.bw c.requires.0.0 2 _ u,
      λ h. (
        c.requires.2 h,
        row_reach c.args.bw c.requires.0.0 c.args.row.now c.args.fields.now c.args.told.fields1 c.args.need
            c.args.told.overflow c.args.told.first c.args.told.second
            c.requires.0.1 h,
      ),
    )

pub returns : goal.returns
returns c = record {
  cc1_after = λ w g.
      c.put_channel.ensures (candidate c.args.bw w 1) (present_length c.args.bw w 1 (present_1 c.args.bw) ∙ sym g.enough)
      (candidate_made c.args.bw w c.args.row.now 1 (lent_1 c.args.bw w c.args.row.now g.known g.the_row) (take c.args.told.fields1 c.args.fields.now)
      (first_fields c.args.bw w c.args.row.now c.args.fields.now c.args.told.fields1 c.args.need
      c.args.told.overflow c.args.told.first c.args.told.second g) _ _
      g.begun.the_first.1 g.begun.the_second.1);
  cc2_after = λ w g.
      c.put_other.ensures w g.the_row g.begun.the_overflow
      (other_fields c.args.bw w c.args.row.now c.args.fields.now c.args.told.fields1 c.args.need
      c.args.told.overflow c.args.told.first c.args.told.second g) g.enough;
}
