-- The law of the search: what is sought among n positions, over what is found among half as many.
use mathlib.Core.Path.{◌≡◌, refl}
use mathlib.Core.Logic.{inl, inr}
use mathlib.Core.Bool.{cond}
use Prim.Native.Nat.{ℕ, ◌+◌, ◌-◌, ◌*◌, ◌/◌, ◌%◌, ◌≤◌, ◌<◌}
use native.Mathlib.Omega.{arith}
use Rattle.kinds.specs.Kinds.{takes}
use Rattle.kinds.proofs.Table.{Span}
use Rattle.segments.specs.Engine.{segment_plan}
use Rattle.spans.specs.Engine.{named, search, spans_in, part_plan}
use Rattle.spans.proofs.Naming.{Wide}

pub part_segment : (row : ℕ → ℕ) (p : ℕ) → part_plan 4 row p ≡ segment_plan row p
unfolding part_plan spans_in search
part_segment row p = refl

-- position p of the span of n that begins at b
abbrev Next : ℕ → (ℕ → ℕ) → ℕ → ℕ → Type 0
Next n row b p = part_plan n row p ≡ cond (takes (named n row b) (p - b)) (named n row b) (part_plan (n / 2) row p)

next_8 : (row : ℕ → ℕ) (b p : ℕ) → b % 8 ≡ 0 → b ≤ p → p < b + 8 → Next 8 row b p
unfolding part_plan spans_in search
next_8 row b p z l u = let e : 8 * (p / 8) ≡ b = omega arith in let f : p % 8 ≡ p - b = omega arith in rw (e, f)

next_16 : (row : ℕ → ℕ) (b p : ℕ) → b % 16 ≡ 0 → b ≤ p → p < b + 16 → Next 16 row b p
unfolding part_plan spans_in search
next_16 row b p z l u = let e : 16 * (p / 16) ≡ b = omega arith in let f : p % 16 ≡ p - b = omega arith in rw (e, f)

pub part_next : (n : ℕ) (row : ℕ → ℕ) (b p : ℕ) → Wide n → b % n ≡ 0 → b ≤ p → p < b + n → Next n row b p
part_next n row b p (inl e) z l u = rw e (next_8 row b p (rw e at z) l (omega arith))
part_next n row b p (inr e) z l u = rw e (next_16 row b p (rw e at z) l (omega arith))

-- ---- the halves of a span are spans
pub wide : (n : ℕ) → Span n → (n ≡ 4 → ⊥) → Wide n
wide n (inl e) f = absurd (f e)
wide n (inr w) f = w

pub halved : (n : ℕ) → Wide n → (n / 2 < n) × (n / 2 + n / 2 ≡ n)
halved n (inl e) = (omega arith, omega arith)
halved n (inr e) = (omega arith, omega arith)

pub half_span : (n : ℕ) → Wide n → Span (n / 2)
half_span n (inl e) = inl (omega arith)
half_span n (inr e) = inr (inl (omega arith))

pub half_begins : (n b : ℕ) → Wide n → b % n ≡ 0 → (b % (n / 2) ≡ 0) × ((b + n / 2) % (n / 2) ≡ 0)
half_begins n b (inl e) z = let z' : b % 8 ≡ 0 = rw e at z in rw e (omega arith, omega arith)
half_begins n b (inr e) z = let z' : b % 16 ≡ 0 = rw e at z in rw e (omega arith, omega arith)
