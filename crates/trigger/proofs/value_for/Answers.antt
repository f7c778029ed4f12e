-- `trigger::value_for` meets its contract.
use Rattle.std.proofs.Common.{◌≡◌, [], ◌∷◌, ℕ, ne_eqb}
use Rattle.resource.proofs.Test.{Missed}
use Rattle.trigger_values.specs.Engine.{value_for}
use Rattle.trigger.proofs.value_for.Goals as goal

-- what is no size
no_size : (s i : ℕ) → Missed ((726 ∷ []) ∷ (132 ∷ []) ∷ (996 ∷ []) ∷ (484 ∷ []) ∷ (242 ∷ []) ∷ (106 ∷ []) ∷ (52 ∷ []) ∷ (26 ∷ []) ∷ []) s → 128 ≡ value_for s i
unfolding value_for
no_size s i m =
    rw (
      ne_eqb s 726 m.1,
      ne_eqb s 132 m.0.1,
      ne_eqb s 996 m.0.0.1,
      ne_eqb s 484 m.0.0.0.1,
      ne_eqb s 242 m.0.0.0.0.1,
      ne_eqb s 106 m.0.0.0.0.0.1,
      ne_eqb s 52 m.0.0.0.0.0.0.1,
      ne_eqb s 26 m.0.0.0.0.0.0.0.1,
    )

pub returns-in_default : goal.returns-in_default
returns-in_default c = no_size _ _ c.in_default.in_default-own.rest
