-- The words of a frame laid out: a header of ten, and the User words after it.
use mathlib.Core.Path.{◌≡◌, ◌∙◌, ap}
use mathlib.Core.List.{List, ◌++◌}
use Prim.Native.Nat.{ℕ, ◌+◌, ◌<◌}
use native.Mathlib.Omega.{arith}
use lib.ListN.{length, take}
use Rattle.answer.specs.Lists.{build, filled}
use Rattle.answer.proofs.Lists.{build_cong, build_append, take_filled}
use Rattle.word_bytes.specs.Lent.{puts}
use Rattle.word_bytes.proofs.Fronts.{puts_append}

-- a header of ten, then the front of the run v, which is n of f and m of g
pub laid : (put : List ℕ → ℕ → ℕ → List ℕ) (h : List ℕ) (k f g : ℕ → ℕ) (n m : ℕ) (u v w w₁ w₂ : List ℕ) → length h ≡ 10
    → ((i : ℕ) → i < n → f i ≡ k i) → ((i : ℕ) → i < m → g i ≡ k (n + i))
    → v ≡ filled k (n + m) u → w₁ ≡ puts put w 0 h → w₂ ≡ puts put w₁ 10 (take (n + m) v)
    → w₂ ≡ puts put w 0 (h ++ (build f n ++ build g m))
laid put h k f g n m u v w w₁ w₂ eh ef eg ev e₁ e₂ =
    let run : take (n + m) v ≡ build f n ++ build g m =
    rw (ev, take_filled k (n + m) u, build_append k n m, build_cong f k n ef, build_cong g (λ i. k (n + i)) m eg) in
    let e : 10 ≡ 0 + length h = omega (arith, eh) in
    e₂ ∙ rw (e₁, run) (ap (λ (i : ℕ). puts put (puts put w 0 h) i (build f n ++ build g m)) e ∙ puts_append put w 0 h (build f n ++ build g m))
