-- `register::quotient` meets its contract.
use Prim.Native.Nat.{ℕ}
use mathlib.Core.Path.{◌∙◌, ap}
use Rattle.register.specs.Engine.{times, quotient}
use Rattle.register.proofs.quotient.Goals as goal

pub returns : goal.returns
unfolding quotient
returns c = c.times-4.ensures
    ∙ ap (λ (q : ℕ). times q 8)
    (c.times-3.ensures
    ∙ ap (λ (q : ℕ). times q 4) (c.times-2.ensures ∙ ap (λ (q : ℕ). times q 2) c.times.ensures))
