-- `segments::kinds_of` meets its contract.
use Rattle.segments.proofs.Entries.{entered_filled}
use Rattle.segments.specs.Engine.{segment_kinds}
use Rattle.answer.proofs.Lists.{filled_start}
use lib.ListN.{length, replicate, length-replicate}
use Prim.Native.Nat.{ℕ, ◌+◌, ◌*◌, min}
use mathlib.Core.Path.{◌≡◌, refl, ◌∙◌}
use native.Mathlib.Omega.{arith}
use Rattle.segments.proofs.kinds_of.Goals as goal

pub loop-s-init : goal.loop-s-init
loop-s-init c = let e : min 0 (length c.args.row.now) ≡ 0 = omega arith in (refl, rw e (filled_start _ _))

pub loop-s-preserved : goal.loop-s-preserved
loop-s-preserved c =
    let b : min (4 * c.loop-s.s) (length c.args.row.now) ≡ 4 * c.loop-s.s = omega arith in
    let e : c.enter_segment.result ≡ min (4 * (c.loop-s.s + 1)) (length c.args.row.now) = grind (arith, c.enter_segment.ensures.ends) in (
      c.enter_segment.ensures.entered.as_long ∙ c.loop-s.invariant.0,
      entered_filled _ (4 * c.loop-s.s) _ (replicate 16 0) _ _ (omega arith) (omega (arith, length-replicate {A = ℕ} 16 0)) (rw b at c.loop-s.invariant.1)
          (rw e at c.enter_segment.ensures.entered),
    )

pub returns : goal.returns
unfolding segment_kinds
returns c =
    let e : min (4 * c.loop-s.s) (length c.args.row.now) ≡ length c.args.row.now = omega arith in
    rw e at c.loop-s.invariant.1
