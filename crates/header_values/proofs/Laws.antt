-- What the code works out is what 01's lists say.
use mathlib.Core.Path.{◌≡◌, refl}
use Prim.Native.Nat.{ℕ, zero, suc, ◌+◌, ◌/◌, ◌%◌, ◌<◌}
use native.Mathlib.Omega.{arith}
use Rattle.header_values.specs.Header.{ltf_size_of, gi_of}

pub size_is : (g : ℕ) → g < 4 → 2 + g / 2 ≡ ltf_size_of g
size_is zero l = refl
size_is (suc zero) l = refl
size_is (suc (suc zero)) l = refl
size_is (suc (suc (suc zero))) l = refl
size_is (suc (suc (suc (suc g)))) l = absurd (omega arith)

pub gi_is : (g : ℕ) → g < 4 → g % 2 + g / 3 ≡ gi_of g
gi_is zero l = refl
gi_is (suc zero) l = refl
gi_is (suc (suc zero)) l = refl
gi_is (suc (suc (suc zero))) l = refl
gi_is (suc (suc (suc (suc g)))) l = absurd (omega arith)
