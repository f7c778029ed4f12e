-- `kinds::total_of` meets its contract.
use native.Mathlib.Omega.{arith}
use Rattle.kinds.specs.Fields.{fields_in, shares}
use Prim.Native.Nat.{ℕ, ◌+◌}
use Rattle.answer.specs.Lists.{at}
use Rattle.kinds.specs.Kinds.{span}
use mathlib.Core.Path.{◌≡◌, ◌∙◌, ap₂}
use Rattle.kinds.proofs.Steps.{share_here, shares_next}
use Rattle.kinds.proofs.total_of.Goals as goal

pub loop-place-preserved : goal.loop-place-preserved
loop-place-preserved c = let share = share_here c.args.kind c.args.p c.loop-place.place _ _ _ _ _ _ c.requires.0 (omega arith) c.mask_of-places.ensures
    c.family_of-own.ensures
    c.start_of-b.ensures.1 c.value_at.ensures c.place_share-sum.ensures.1 in
    (omega arith, omega arith, shares_next _ (at c.args.row.now) _ c.loop-place.place _ _ c.loop-place.invariant.2 share)

pub returns : goal.returns
unfolding fields_in
returns c = let e : c.loop-place.place ≡ span c.args.kind = omega arith in (
  omega arith,
  c.loop-place.invariant.2
      ∙ ap₂ (λ (b n : ℕ). shares 1 c.args.kind (at c.args.row.now) b n + shares 2 c.args.kind (at c.args.row.now) b n) c.start_of-b.ensures.1 e,
)
