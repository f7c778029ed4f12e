-- A lent buffer whose tail is filled by a call.
use mathlib.Core.Path.{◌≡◌, sym, ◌∙◌, ap}
use mathlib.Core.List.{List, ◌++◌, append_assoc, append-nil}
use Prim.Native.Nat.{ℕ, ◌+◌, ◌-◌, ◌≤◌, ◌<◌}
use native.Mathlib.Omega.{arith}
use lib.ListN.{length, take, drop, length-drop}
use lib.Seq.{take_all, drop-length, drop-drop, take_at, drop_at}
use borrow.Rule.Slice.PartMut.{put_mid, Post-is}
use Rattle.answer.specs.Lists.{build, filled}
use Rattle.answer.proofs.Lists.{build_cong, build_append, length_build}

module _ (xs : List ℕ) (j : ℕ) (l : j ≤ length xs) where
  -- the part from j on, and the list with another in its place
  pub part_tail : take (length xs - j) (drop j xs) ≡ drop j xs
  part_tail = take_all (length xs - j) (drop j xs) (omega (arith, length-drop j xs))

  pub put_tail : (ys : List ℕ) → put_mid j (length xs - j) xs ys ≡ take j xs ++ ys
  put_tail ys = ap (λ (z : List ℕ). take j xs ++ (ys ++ z)) (Post-is j (length xs) xs l ∙ drop-length xs) ∙ ap (λ (z : List ℕ). take j xs ++ z) (append-nil ys)

-- a buffer whose first j are f's, with the next m made g's, which are f's too
pub grown : (f g : ℕ → ℕ) (w out ys : List ℕ) (j m : ℕ) → j ≤ length out → out ≡ filled f j w → ((i : ℕ) → i < m → g i ≡ f (j + i))
    → ys ≡ filled g m (take (length out - j) (drop j out)) → put_mid j (length out - j) out ys ≡ filled f (j + m) w
unfolding filled
grown f g w out ys j m l e h q =
    put_tail out j l ys
    ∙ ap (λ (z : List ℕ). take j out ++ z) (q ∙ ap (λ (z : List ℕ). build g m ++ drop m z) (part_tail out j l))
    ∙ ap (λ (z : List ℕ). take j z ++ (build g m ++ drop m (drop j z))) e
    ∙ rw (
      take_at (build f j) (drop j w) j (length_build f j),
      drop_at (build f j) (drop j w) j (length_build f j),
      build_cong g (λ i. f (j + i)) m h,
      drop-drop m j w,
    )
    (sym (append_assoc (build f j) (build (λ i. f (j + i)) m) (drop (j + m) w)) ∙ ap (λ (z : List ℕ). z ++ drop (j + m) w) (sym (build_append f j m)))
