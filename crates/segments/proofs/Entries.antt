-- What the segments say, entered in a list, and the tests as the code makes them.
use mathlib.Core.Path.{◌≡◌, refl, sym, ◌∙◌, ap}
use mathlib.Core.Logic.{◌≢◌, inl, inr, ⊎_elim}
use mathlib.Core.Bool.{Bool, not, ◌&&◌}
use mathlib.Core.List.{List}
use Prim.Native.Nat.{ℕ, ◌+◌, ◌*◌, ◌/◌, ◌%◌, ◌≤◌, ◌<◌}
use native.Mathlib.Omega.{arith}
use lib.ListN.{length, set, length-set, replicate}
use lib.Seq.{get_or-set_same, get_or-set_other, ext_get_or}
use Rattle.answer.specs.Lists.{at, filled}
use Rattle.answer.proofs.Lists.{filled_is, filled_length, get_d_filled, get_d_kept}
use Rattle.resource.proofs.Test.{below_or}
use Rattle.kinds.proofs.Tests.{equal_or}
use Rattle.segments.specs.Engine.{first_named, choose, segment_plan, segment_kinds, Entered, fitting, within, right_at, wrong_at}
use Rattle.segments.proofs.Only.{segment_known}

-- ---- entering one position after the other
pub entered_none : (f : ℕ → ℕ) (b : ℕ) (w : List ℕ) → Entered f b b w w
entered_none f b w = record { entered = λ p l u. absurd (omega arith); stands = λ p h. refl; as_long = refl }

pub entered_next : (f : ℕ → ℕ) (b e x : ℕ) (w v : List ℕ) → b ≤ e → e < length v → x ≡ f e → Entered f b e w v → Entered f b (e + 1) w (set v e x)
entered_next f b e x w v l u g h = record {
  entered = λ p m k.
      ⊎_elim (λ (d : p ≡ e). rw d (get_or-set_same v e x 0 u ∙ g)) (λ (d : p ≢ e). get_or-set_other v e p x 0 d ∙ h.entered p m (omega arith)) (equal_or p e);
  stands = λ p m. get_or-set_other v e p x 0 (⊎_elim (λ k d. omega arith) (λ k d. omega arith) m) ∙ h.stands p (⊎_elim (λ k. inl k) (λ k. inr (omega arith)) m);
  as_long = length-set v e x ∙ h.as_long;
}

-- what is entered, and where, says the whole list
pub entered_same : (f : ℕ → ℕ) (b e : ℕ) (w x y : List ℕ) → Entered f b e w x → Entered f b e w y → x ≡ y
entered_same f b e w x y g h = ext_get_or 0 x y (g.as_long ∙ sym h.as_long) same
  where
    same : (i : ℕ) → i < length x → at x i ≡ at y i
    same i l =
        ⊎_elim (λ (m : i < b). g.stands i (inl m) ∙ sym (h.stands i (inl m)))
        (λ (m : b ≤ i).
        ⊎_elim (λ (k : i < e). g.entered i m k ∙ sym (h.entered i m k)) (λ (k : e ≤ i). g.stands i (inr k) ∙ sym (h.stands i (inr k))) (below_or i e))
        (below_or i b)

-- a list whose front is entered, entered further
pub entered_filled : (f : ℕ → ℕ) (b e : ℕ) (w x y : List ℕ) → b ≤ e → e ≤ length w → x ≡ filled f b w → Entered f b e x y → y ≡ filled f e w
entered_filled f b e w x y l u g h =
    filled_is f 0 e y w (h.as_long ∙ ap length g ∙ filled_length f b w (omega arith)) u
    (λ i m.
    ⊎_elim
    (λ (k : i < b). h.stands i (inl k) ∙ ap (λ (v : List ℕ). at v i) g ∙ get_d_filled f b w i 0 k)
    (λ (k : b ≤ i). h.entered i k m)
    (below_or i b))
    (λ i m. h.stands i (inr m) ∙ ap (λ (v : List ℕ). at v i) g ∙ get_d_kept f b w i 0 (omega arith))

-- what is entered at position p of the segment that begins at b
pub segment_kind : (row : List ℕ) (b p k u v x : ℕ) → b % 4 ≡ 0 → b ≤ p → p < b + 4 → k ≡ first_named 4 (at row) b 4 → u ≡ at row b
    → v ≡ at row (2 * (p / 2)) → x ≡ choose k u v (p % 4) → x ≡ segment_plan (at row) p
unfolding segment_plan
segment_kind row b p k u v x z l m ek eu ev ex =
    let f : 4 * (p / 4) ≡ b = omega arith in
    ex ∙ rw (ek, eu, ev, f)

-- ---- the kinds of a row
pub kind_held : (row kinds : List ℕ) (p : ℕ) → p < length row → kinds ≡ segment_kinds row → (at kinds p < 7) × (at kinds p ≡ segment_plan (at row) p)
unfolding segment_kinds
kind_held row kinds p h e =
    let f : at kinds p ≡ segment_plan (at row) p = rw e (get_d_filled (segment_plan (at row)) (length row) (replicate 16 0) p 0 h) in
    let k = segment_known (at row) p in (omega arith, f)

-- what the code asks at position p, given to this kind
pub wrong_at_lem : (row : List ℕ) (p kind : ℕ) (r : Bool) → kind ≡ segment_plan (at row) p
    → r ≡ (fitting kind p (at row p) && within kind p (length row)) → wrong_at row p ≡ not r
unfolding right_at
wrong_at_lem row p kind r e f = rw (f, e)
