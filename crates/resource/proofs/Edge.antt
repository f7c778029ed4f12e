-- Counted from the channel's lower edge: u lies in some runs exactly when its signed number is among their spans, and every number that is
-- among them is counted so.
use mathlib.Core.Path.{◌≡◌, refl, sym, ap, ◌∙◌}
use mathlib.Core.Logic.{◌⊎◌, inl, inr, ⊎_elim}
use mathlib.Core.Bool.{Bool, true, false}
use mathlib.Core.List.{List, [], ◌∷◌, ◌++◌, map}
use Prim.Native.Nat.{ℕ, zero, suc, ◌+◌, ◌-◌, ◌*◌, ◌≤◌, ◌<◌}
use native.Mathlib.Nat.{add-zero}
use native.Mathlib.Omega.{arith}
use borrow.Author.Tests.{lt-ltb, le-ltb}
use lib.Dec.{T, leb→le, le→leb, lt→ltb}
use lib.IntN.{ℤ, pos, negsuc, sub_ℕ, ◌-ℤ◌}
use lib.Signed.{le_z, lt_z, ◌≤ℤ◌, ◌<ℤ◌, lt_z_no}
use Rattle.resource.specs.declared.Run.{Run}
use Rattle.resource.specs.Tones.{minus, Among}
use Rattle.resource.specs.Engine.{signed, span_of}
use Rattle.resource.proofs.Test.{below_or}

-- u is one of the runs' subcarriers
abbrev pub In : ℕ → List Run → Type 0
In u [] = ⊥
In u (r ∷ rs) = ((r.lo ≤ u) × (u ≤ r.hi)) ⊎ In u rs

pub in_left : (x : ℕ) (xs ys : List Run) → In x xs → In x (xs ++ ys)
in_left x [] ys h = absurd h
in_left x (a ∷ xs) ys (inl h) = inl h
in_left x (a ∷ xs) ys (inr h) = inr (in_left x xs ys h)

pub in_right : (x : ℕ) (xs ys : List Run) → In x ys → In x (xs ++ ys)
in_right x [] ys h = h
in_right x (a ∷ xs) ys h = inr (in_right x xs ys h)

-- ---- a number less m
below_it : (u m : ℕ) → u < m → sub_ℕ u m ≡ negsuc (m - suc u)
below_it u m h = rw (lt-ltb u m h)

from_it : (u m : ℕ) → m ≤ u → sub_ℕ u m ≡ pos (u - m)
from_it u m h = rw (le-ltb u m h)

less : (u m : ℕ) → pos u -ℤ pos m ≡ sub_ℕ u m
less u zero = ap pos (add-zero u) ∙ sym (from_it u 0 (omega arith) ∙ ap pos (omega arith))
less u (suc m) = refl

-- the order is kept
le_less : (a b m : ℕ) → a ≤ b → T (le_z (sub_ℕ a m) (sub_ℕ b m))
le_less a b m h =
    ⊎_elim
    (λ (i : a < m). ⊎_elim
    (λ (j : b < m). rw (below_it a m i, below_it b m j) (le→leb (m - suc b) (m - suc a) (omega arith)))
    (λ (j : m ≤ b). rw (below_it a m i, from_it b m j) tt)
    (below_or b m))
    (λ (i : m ≤ a). rw (from_it a m i, from_it b m (omega arith)) (le→leb (a - m) (b - m) (omega arith)))
    (below_or a m)

less_le : (a b m : ℕ) → T (le_z (sub_ℕ a m) (sub_ℕ b m)) → a ≤ b
less_le a b m t =
    ⊎_elim
    (λ (i : a < m). ⊎_elim
    (λ (j : b < m). let h = leb→le (m - suc b) (m - suc a) (rw (below_it a m i, below_it b m j) at t) in omega arith)
    (λ (j : m ≤ b). omega arith)
    (below_or b m))
    (λ (i : m ≤ a). ⊎_elim
    (λ (j : b < m). absurd (rw (from_it a m i, below_it b m j) at t))
    (λ (j : m ≤ b). let h = leb→le (a - m) (b - m) (rw (from_it a m i, from_it b m j) at t) in omega arith)
    (below_or b m))
    (below_or a m)

-- what is no lower is a number less m too
counted : (a m : ℕ) (k : ℤ) → T (le_z (sub_ℕ a m) k) → (u : ℕ) × (k ≡ sub_ℕ u m)
counted a m (pos c) t = (c + m, sym (from_it (c + m) m (omega arith) ∙ ap pos (omega arith)))
counted a m (negsuc c) t =
    ⊎_elim
    (λ (i : a < m).
    let h = leb→le c (m - suc a) (rw (below_it a m i) at t) in
    (m - suc c, sym (below_it (m - suc c) m (omega arith) ∙ ap negsuc (omega arith))))
    (λ (i : m ≤ a). absurd (rw (from_it a m i) at t))
    (below_or a m)

-- ---- the subcarriers of runs and of their spans
module _ (n : ℕ) where
  signed_le : (a b : ℕ) → a ≤ b → signed n a ≤ℤ signed n b
  signed_le a b h = record { le = rw (less a (128 * n), less b (128 * n)) (le_less a b (128 * n) h) }

  le_signed : (a b : ℕ) → signed n a ≤ℤ signed n b → a ≤ b
  le_signed a b h = less_le a b (128 * n) (rw (less a (128 * n), less b (128 * n)) at h.le)

  pub signed_lt : (a b : ℕ) → a < b → signed n a <ℤ signed n b
  signed_lt a b h = go (lt_z (signed n a) (signed n b)) refl
    where
      go : (t : Bool) → lt_z (signed n a) (signed n b) ≡ t → signed n a <ℤ signed n b
      go true e = record { lt = rw e tt }
      go false e = absurd (omega (arith, le_signed b a (lt_z_no (rw e tt))))

  pub in_among : (u : ℕ) (rs : List Run) → In u rs → Among (signed n u) (map (span_of n) rs)
  in_among u [] h = absurd h
  in_among u (r ∷ rs) (inl h) = inl (signed_le r.lo u h.0, signed_le u r.hi h.1)
  in_among u (r ∷ rs) (inr h) = inr (in_among u rs h)

  pub among_in : (u : ℕ) (rs : List Run) → Among (signed n u) (map (span_of n) rs) → In u rs
  among_in u [] h = absurd h
  among_in u (r ∷ rs) (inl h) = inl (le_signed r.lo u h.0, le_signed u r.hi h.1)
  among_in u (r ∷ rs) (inr h) = inr (among_in u rs h)

  pub among_counted : (k : ℤ) (rs : List Run) → Among k (map (span_of n) rs) → (u : ℕ) × (k ≡ signed n u)
  among_counted k [] h = absurd h
  among_counted k (r ∷ rs) (inl h) =
      let w = counted r.lo (128 * n) k (rw (less r.lo (128 * n)) at h.0.le) in (w.0, w.1 ∙ sym (less w.0 (128 * n)))
  among_counted k (r ∷ rs) (inr h) = among_counted k rs h

-- ---- inside a channel of n positions
edges : (m u : ℕ) → u < 2 * m → (minus m ≤ℤ sub_ℕ u m) × (sub_ℕ u m <ℤ pos m)
edges zero u h = absurd (omega arith)
edges (suc m) u h =
    ⊎_elim
    (λ (i : u < suc m). (
      record { le = rw (below_it u (suc m) i) (le→leb (suc m - suc u) m (omega arith)) },
      record { lt = rw (below_it u (suc m) i) tt },
    ))
    (λ (i : suc m ≤ u). (
      record { le = rw (from_it u (suc m) i) tt },
      record { lt = rw (from_it u (suc m) i) (lt→ltb (u - suc m) (suc m) (omega arith)) },
    ))
    (below_or u (suc m))

pub inside_edges : (n u : ℕ) → u < 256 * n → (minus (128 * n) ≤ℤ signed n u) × (signed n u <ℤ pos (128 * n))
inside_edges n u h = rw (less u (128 * n)) (edges (128 * n) u (omega arith))
