-- Ranges of a buffer that are entered one after the other.
use mathlib.Core.Path.{◌≡◌, refl, sym, ◌∙◌, ap}
use mathlib.Core.Logic.{inl, inr, ⊎_elim}
use mathlib.Core.Bool.{cond}
use mathlib.Core.List.{List}
use Prim.Native.Nat.{ℕ, ◌+◌, ◌-◌, ◌/◌, ◌%◌, ◌≤◌, ◌<◌, min}
use native.Mathlib.Omega.{arith}
use Rattle.answer.specs.Lists.{at}
use Rattle.resource.proofs.Test.{below_or}
use Rattle.kinds.specs.Kinds.{takes}
use Rattle.segments.specs.Engine.{segment_plan, Entered}
use Rattle.spans.specs.Engine.{named, part_plan, overlaid}
use Rattle.spans.proofs.Naming.{Wide}
use Rattle.spans.proofs.Search.{part_segment, part_next, halved}

-- a range that lies past the row
pub entered_past : (f : ℕ → ℕ) (b e : ℕ) (w : List ℕ) → e ≤ b → Entered f b e w w
entered_past f b e w l = record { entered = λ p m k. absurd (omega arith); stands = λ p h. refl; as_long = refl }

-- as another says the same
entered_as : (f g : ℕ → ℕ) (b e : ℕ) (w v : List ℕ) → ((p : ℕ) → b ≤ p → p < e → g p ≡ f p) → Entered g b e w v → Entered f b e w v
entered_as f g b e w v same h = record { entered = λ p l u. h.entered p l u ∙ same p l u; stands = h.stands; as_long = h.as_long }

-- a segment, as far as a row of n positions goes
segment_end : (b r n : ℕ) → r ≤ b + 4 → r ≤ n → (r < n → r ≡ b + 4) → r ≡ min (b + 4) n
segment_end b r n l u f = ⊎_elim (λ h. let e = f h in omega arith) (λ (h : n ≤ r). omega arith) (below_or r n)

-- two ranges beside one another, as far as a row of n positions goes
entered_beside : (f : ℕ → ℕ) (b m e n : ℕ) (w v x : List ℕ) → b ≤ m → m ≤ e
    → Entered f b (min m n) w v → Entered f m (min e n) v x → Entered f b (min e n) w x
entered_beside f b m e n w v x l u h i = record {
  entered = λ p j k.
      ⊎_elim (λ (d : p < m). i.stands p (inl d) ∙ h.entered p j (omega arith)) (λ (d : m ≤ p). i.entered p d k) (below_or p m);
  stands = λ p d.
      i.stands p (⊎_elim (λ k. inl (omega arith)) (λ k. inr k) d) ∙ h.stands p (⊎_elim (λ k. inl k) (λ k. inr (omega arith)) d);
  as_long = i.as_long ∙ h.as_long;
}

-- a kind laid over what is entered
entered_over : (f g : ℕ → ℕ) (k b e : ℕ) (w v x : List ℕ) → ((p : ℕ) → b ≤ p → p < e → f p ≡ cond (takes k (p - b)) k (g p))
    → Entered g b e w v → Entered (overlaid k b (at v)) b e v x → Entered f b e w x
unfolding overlaid
entered_over f g k b e w v x same h i = record {
  entered = λ p l u. i.entered p l u ∙ ap (λ (c : ℕ). cond (takes k (p - b)) k c) (h.entered p l u) ∙ sym (same p l u);
  stands = λ p d. i.stands p d ∙ h.stands p d;
  as_long = i.as_long ∙ h.as_long;
}

-- what the overlay stores at position p
pub overlaid_next : (k b p x y : ℕ) (w : List ℕ) → x ≡ at w p → y ≡ cond (takes k (p - b)) k x → y ≡ overlaid k b (at w) p
unfolding overlaid
overlaid_next k b p x y w e f = f ∙ ap (λ (c : ℕ). cond (takes k (p - b)) k c) e

-- ---- the search, at a segment, and where the halves are entered and the kind that is named is laid over them
pub span_segment : (n : ℕ) (row : ℕ → ℕ) (b r len : ℕ) (w v : List ℕ) → n ≡ 4 → r ≤ b + 4 → r ≤ len → (r < len → r ≡ b + 4)
    → Entered (segment_plan row) b r w v → Entered (part_plan n row) b (min (b + n) len) w v
span_segment n row b r len w v e l u f h = rw (e, ← (segment_end b r len l u f)) (entered_as _ _ b r w v (λ p i j. sym (part_segment row p)) h)

pub span_halves : (n : ℕ) (row : ℕ → ℕ) (b len k e : ℕ) (w v x y : List ℕ) → Wide n → b % n ≡ 0 → k ≡ named n row b → e ≡ min (b + n) len
    → Entered (part_plan (n / 2) row) b (min (b + n / 2) len) w v
    → Entered (part_plan (n / 2) row) (b + n / 2) (min (b + n / 2 + n / 2) len) v x
    → Entered (overlaid k b (at x)) b e x y → Entered (part_plan n row) b (min (b + n) len) w y
span_halves n row b len k e w v x y d z named end lower upper over =
    let f : b + n / 2 + n / 2 ≡ b + n = omega (arith, (halved n d).1) in
    entered_over (part_plan n row) (part_plan (n / 2) row) k b (min (b + n) len) w x y
    (λ p i j. rw named (part_next n row b p d z i (omega arith)))
    (entered_beside (part_plan (n / 2) row) b (b + n / 2) (b + n) len w v x (omega arith) (omega (arith, (halved n d).1)) lower (rw f at upper))
    (rw end at over)
