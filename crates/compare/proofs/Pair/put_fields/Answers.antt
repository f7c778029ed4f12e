--
use Rattle.compare.specs.Engine.{frame_code, fields_text}
use Rattle.compare.proofs.Pair.put_fields.Goals as goal

pub returns : goal.returns
unfolding fields_text frame_code
returns c =
    let one = c.codes.ensures in
    let two = c.codes-2.ensures in
    rw (← one.codes1, ← one.codes2, ← (rw c.args.self.now.same_bandwidth at two.codes1), ← (rw c.args.self.now.same_bandwidth at two.codes2))
    (rw (one.counts.0, one.counts.1, two.counts.0, two.counts.1) at c.put_users.ensures)
