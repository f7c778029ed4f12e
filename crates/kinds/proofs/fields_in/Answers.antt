-- `kinds::fields_in` meets its contract.
use native.Mathlib.Omega.{arith}
use Rattle.kinds.specs.Fields.{fields_in}
use Rattle.kinds.specs.Kinds.{span}
use mathlib.Core.Path.{◌≡◌, ◌∙◌}
use Rattle.kinds.proofs.Steps.{share_here}
use native.Mathlib.Numerals.{add-one}
use Rattle.kinds.proofs.fields_in.Goals as goal

pub loop-i-preserved : goal.loop-i-preserved
loop-i-preserved c = let share = share_here c.args.kind c.args.p c.loop-i.i _ _ _ _ _ _ c.requires.0 (omega arith) c.mask_of-places.ensures
    c.family_of-own.ensures
    c.start_of-b.ensures.1 c.value_at.ensures c.place_share-f.ensures.1 in
    (omega arith, omega arith, rw (add-one c.loop-i.i) (cc (c.channel_share-sum.ensures.1, share, c.loop-i.invariant.2)))

pub returns : goal.returns
unfolding fields_in
returns c = let e : c.loop-i.i ≡ span c.args.kind = omega arith in
    (omega arith, c.loop-i.invariant.2 ∙ cc (e, c.start_of-b.ensures.1))
