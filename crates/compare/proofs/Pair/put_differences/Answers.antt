--
use Rattle.std.proofs.Common.{sym, ◌∙◌}
use Rattle.text.proofs.Laws.{after, nothing}
use Rattle.compare.proofs.Equal.{no_text}
use Rattle.compare.proofs.Groups.{given_text}
use Rattle.compare.proofs.Pair.put_differences.Goals as goal

pub returns-then-is_equal : goal.returns-then-is_equal
returns-then-is_equal c =
    let one = c.args.self.now.one in
    let two = c.args.self.now.two in
    let e = c.args.self.now.same_bandwidth in
    let z = no_text one.bandwidth one.cc1.now one.cc2.now two.cc1.now two.cc2.now one.passes (rw e at two.passes) one.given (rw e at two.given)
    (sym c.is_equal.ensures ∙ c.if-is_equal.true) in
    rw (e, z) (nothing _ _)

pub returns : goal.returns
returns c =
    let one = c.args.self.now.one in
    let two = c.args.self.now.two in
    let e = c.args.self.now.same_bandwidth in
    let z = given_text one.bandwidth one.cc1.now one.cc2.now two.cc1.now two.cc2.now one.passes (rw e at two.passes) one.given (rw e at two.given) in
    rw (e, ← z) (after c.put_common-at.ensures.wrote c.put_fields.ensures)
