--
use Rattle.compare.specs.Engine.{code_turn, code_at, code_turns}
use Rattle.compare.proofs.Groups.{longer_most}
use Rattle.compared.specs.Differences.{longer}
use Rattle.text.proofs.Laws.{no_item, item}
use Rattle.std.proofs.Common.{◌≡◌, arith}
use Rattle.compare.proofs.put_users.Goals as goal

pub loop-i-init : goal.loop-i-init
loop-i-init c = (no_item _ _ _, omega arith)

pub put_user_turn-e-requires : goal.put_user_turn-e-requires
put_user_turn-e-requires c =
    let most = longer_most {m = c.args.one.now.count} c.requires.1 c.requires.2 in
    (omega (arith, most, c.longer_of-all.ensures), omega (arith, most, c.longer_of-all.ensures))

pub loop-i-preserved : goal.loop-i-preserved
loop-i-preserved c = (
  item (λ j.
      code_turn j c.args.one.now.count (code_at c.args.one.now.codes1 c.args.one.now.codes2 c.args.one.now.first j) c.args.two.now.count
      (code_at c.args.two.now.codes1 c.args.two.now.codes2 c.args.two.now.first j)) c.loop-i.i c.loop-i.invariant.0
      c.put_user_turn-e.ensures.wrote,
  omega (arith, c.put_user_turn-e.ensures.bounded),
)

pub returns : goal.returns
unfolding code_turns
returns c =
    let e : c.loop-i.i ≡ longer c.args.one.now.count c.args.two.now.count = omega (arith, c.longer_of-all.ensures) in
    rw e at c.loop-i.invariant.0
