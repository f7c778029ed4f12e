-- `kinds::place_share` meets its contract.
use native.Mathlib.Omega.{arith}
use Rattle.kinds.proofs.Steps.{share_yes, share_no}
use Rattle.resource.proofs.Fields.{fields_most}
use Rattle.kinds.proofs.place_share.Goals as goal

pub returns-then-mask-j : goal.returns-then-mask-j
returns-then-mask-j c = (
  omega (arith, c.fields_of.ensures, fields_most c.args.v),
  share_yes _ _ _ _ _ (rw (← c.family_of.ensures) c.if-mask-j.true) c.fields_of.ensures,
)

pub returns-else-mask-j : goal.returns-else-mask-j
returns-else-mask-j c = (omega arith, share_no _ _ _ _ (rw (← c.family_of.ensures) c.if-mask-j.false))
