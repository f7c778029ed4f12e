-- Two values of a bandwidth have one mask exactly where they name one resource.
use mathlib.Core.Path.{◌≡◌, sym, ◌∙◌, ap}
use mathlib.Core.Bool.{Bool}
use Prim.Native.Nat.{ℕ}
use lib.Dec.{T, eqb, eqb→eq, eqb_refl}
use Rattle.resource.specs.declared.Resource.{Resource}
use Rattle.resource.specs.Names.{name_of, number_of}
use Rattle.resource.proofs.Test.{wherever, met, below, every_below}
use Rattle.trigger_values.specs.Values.{named, resource_of, taken}
use Rattle.trigger_values.specs.Engine.{value_for}
use Rattle.trigger_values.proofs.Back.{named_low, taken_named, value_back}
use Rattle.masks.specs.Engine.{mask_of}

abbrev both_named : ℕ → ℕ → Bool
both_named v w = wherever (named v) (wherever (named w) (eqb v w))

abbrev apart : ℕ → ℕ → Bool
apart v w = wherever (eqb (mask_of v) (mask_of w)) (both_named v w)

all_apart : T (below (λ v. below (apart v) 94) 94)
unfolding named mask_of
all_apart = tt

module _ (bw v w : ℕ) (t : T (taken bw v)) (u : T (taken bw w)) where
  pub same_mask : mask_of v ≡ mask_of w → resource_of v ≡ resource_of w
  same_mask e =
      let n = taken_named bw v t in
      let m = taken_named bw w u in
      let a = every_below (apart v) 94 (every_below (λ v. below (apart v) 94) 94 all_apart v (named_low v n)) w (named_low w m) in
      let s = met (eqb (mask_of v) (mask_of w)) (both_named v w) a (rw e (eqb_refl (mask_of w))) in
      ap resource_of (eqb→eq v w (met (named w) (eqb v w) (met (named v) (wherever (named w) (eqb v w)) s n) m))

  pub one_mask : resource_of v ≡ resource_of w → mask_of v ≡ mask_of w
  one_mask e =
      ap mask_of (sym (value_back bw v t) ∙ ap (λ (r : Resource). value_for (name_of r) (number_of r)) e ∙ value_back bw w u)
