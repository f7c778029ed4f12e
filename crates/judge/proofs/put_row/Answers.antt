-- `judge::put_row` meets its contract.
use Rattle.std.proofs.Common.{refl, arith, length-set}
use Rattle.judge.proofs.Steps.{front_first, front_three}
use Rattle.judge.proofs.put_row.Goals as goal

pub loop-k-init : goal.loop-k-init
loop-k-init c =
    let a =
    c.args in (simp length-set c.requires.0, front_first a.words.now a.row.now _ (omega (arith, c.requires.0)) refl)

pub loop-k-preserved : goal.loop-k-preserved
loop-k-preserved c = (
  simp length-set c.loop-k.invariant.0,
  front_three c.args.words.now c.loop-k.k _ c.loop-k.row c.loop-k.invariant.1
      c.loop-k.invariant.0 (omega arith) refl,
)
