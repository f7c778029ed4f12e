-- What each way through `list` comes to.
use mathlib.Core.Path.{◌≡◌, ap}
use mathlib.Core.List.{List, [], ◌++◌}
use Prim.Native.Nat.{ℕ, ◌≤◌, ◌<◌}
use native.Mathlib.Omega.{arith}
use borrow.Author.Tests.{lt-ltb, le-ltb}
use lib.ListN.{length}
use Rattle.answer.specs.Answer.{no, ◌or◌}
use Rattle.answer.specs.declared.Answer.{Answer}
use Rattle.answer.specs.declared.Refusal.{Refusal}
use Rattle.answer.specs.Answer.{answer_of}
use Rattle.std.specs.Prelude.{Ok, Err}
use Rattle.text.specs.Text.{Wrote}
use Rattle.text.proofs.Laws.{dry, count, front}
use Rattle.halves.specs.Table.{outcome11}
use Rattle.listed.specs.Listing.{listing, check23, list_outcome, list_answer, list_after}

module _ (bw : ℕ) (a b d : List ℕ) where
  pub refused_by : (x : Refusal) → outcome11 bw a b ≡ Err x → (answer_of x ≡ list_answer bw a b (length d)) × (d ≡ list_after bw a b d)
  unfolding list_answer list_after list_outcome
  refused_by x e = (rw e, rw e)

  pub too_short : {e : List ℕ} {n : ℕ} → outcome11 bw a b ≡ Ok tt → Wrote [] 0 (listing bw a b) e n → length (e ++ d) < n
      → (no 23 0 n ≡ list_answer bw a b (length d)) × (e ++ d ≡ list_after bw a b d)
  unfolding list_answer list_after list_outcome check23
  too_short {e} {n} p w h =
      let z : e ≡ [] = dry w in
      let k : n ≡ length (listing bw a b) = count w in
      let h' : length d < n = rw z at h in
      let l : length d < length (listing bw a b) = omega arith in
      (rw (p, lt-ltb (length d) (length (listing bw a b)) l) (ap (no 23 0) k), rw (z, p, lt-ltb (length d) (length (listing bw a b)) l))

  pub at_once : {f : List ℕ} {r : ℕ} → outcome11 bw a b ≡ Ok tt → Wrote d 0 (listing bw a b) f r → r ≤ length d
      → (no 0 0 r ≡ list_answer bw a b (length d)) × (f ≡ list_after bw a b d)
  unfolding list_answer list_after list_outcome check23
  at_once {f} {r} p v h =
      let l : length (listing bw a b) ≤ length d = omega (arith, count v) in
      (rw (p, le-ltb (length d) (length (listing bw a b)) l) (ap (no 0 0) (count v)), rw (p, le-ltb (length d) (length (listing bw a b)) l) (front l v))

  pub listed : {e f : List ℕ} {n r : ℕ} → outcome11 bw a b ≡ Ok tt → Wrote [] 0 (listing bw a b) e n → n ≤ length (e ++ d)
      → Wrote (e ++ d) 0 (listing bw a b) f r
      → (no 0 0 r ≡ list_answer bw a b (length d)) × (f ≡ list_after bw a b d)
  listed {e} {f} {n} {r} p w h v =
      let z : e ≡ [] = dry w in
      let h' : n ≤ length d = rw z at h in
      let v' : Wrote d 0 (listing bw a b) f r = rw z at v in
      at_once p v' (omega (arith, count w, count v'))
