-- `stores::lead_of` meets its contract.
use mathlib.Core.Path.{◌≡◌, ◌∙◌, ap}
use native.Mathlib.Omega.{arith}
use Rattle.stores.specs.Engine.{zeros_in, lead_of}
use Rattle.stores.proofs.Laws.{values, lead_most}
use Rattle.stores.proofs.lead_of.Goals as goal

pub returns : goal.returns
returns c = let e : c.zeros_of.result ≡ lead_of c.args.n =
    c.zeros_of.ensures.value ∙ ap zeros_in c.values_of.ensures.0 ∙ (values c.args.n c.requires).zeros in
    (e, omega (arith, e, lead_most c.args.n))
