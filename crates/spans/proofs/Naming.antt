-- The kind that a span names, as the code finds it.
use mathlib.Core.Path.{◌≡◌, refl, ◌∙◌, ap}
use mathlib.Core.Logic.{◌⊎◌, inl, inr, ⊎_elim}
use mathlib.Core.Bool.{Bool, true, false, cond, ◌&&◌, beq}
use Prim.Native.Nat.{ℕ, ◌+◌, ◌-◌, ◌*◌, ◌/◌, ◌≤◌, ◌<◌}
use native.Mathlib.Omega.{arith}
use lib.Dec.{T, ltb, leb, eqb, eqb→eq}
use borrow.Author.Tests.{lt-ltb, le-ltb, le-leb, lt-leb, ne_eqb}
use Rattle.answer.specs.Least.{least}
use Rattle.resource.proofs.Test.{below_or, both_left, both_right, below, every_below}
use Rattle.kinds.specs.Kinds.{kinds, kind_at, family, span, mask, takes, must_name}
use Rattle.kinds.specs.Engine.{sought, kind_of, name_of, tell_tale, whole_or, alike, sided, settled}
use Rattle.segments.specs.Engine.{first_named}
use Rattle.segments.proofs.Steps.{no_kind}
use Rattle.spans.specs.Engine.{named}

-- the spans that the search halves
abbrev pub Wide : ℕ → Type 0
Wide n = (n ≡ 8) ⊎ (n ≡ 16)

pub wide_most : (n : ℕ) → Wide n → n ≤ 16
wide_most n (inl e) = omega arith
wide_most n (inr e) = omega arith

-- ---- the kind that a value names. Of the families 11 and 16 to 37, in the order of the table: the line that the family f names among n positions.
abbrev pub name_from : ℕ → ℕ → ℕ
name_from n f =
    cond (eqb f 11) (cond (eqb n 8) 7 36) (cond (ltb f 16) 36 (cond (ltb f 38) (cond (beq (ltb f 20) (eqb n 8)) (f - 8) 36) 36))

-- the same, as it is sought in the table
abbrev line : ℕ → ℕ → ℕ
line n f = cond (eqb (sought (kind_of f)) n) (kind_of f) 36

abbrev line_test : ℕ → Bool
line_test f = eqb (name_from 8 f) (line 8 f) && eqb (name_from 16 f) (line 16 f)

lines_tested : T (below line_test 38)
unfolding sought must_name span mask family kind_of least kind_at kinds
lines_tested = tt

line_past : (n f : ℕ) → 38 ≤ f → name_from n f ≡ line n f
line_past n f h =
    rw (ne_eqb f 11 (λ e. omega arith), le-ltb f 16 (omega arith), le-ltb f 38 h, no_kind f h) (same (eqb (sought 36) n))
  where
    same : (t : Bool) → ◌≡◌ {A = ℕ} 36 (cond t 36 36)
    same true = refl
    same false = refl

line_is : (n f : ℕ) → Wide n → name_from n f ≡ line n f
line_is n f w = ⊎_elim (λ h. low h w) (λ h. line_past n f h) (below_or f 38)
  where
    low : f < 38 → Wide n → name_from n f ≡ line n f
    low h (inl e) = rw e (eqb→eq _ _ (both_left (eqb (name_from 8 f) (line 8 f)) _ (every_below line_test 38 lines_tested f h)))
    low h (inr e) = rw e (eqb→eq _ _ (both_right (eqb (name_from 8 f) (line 8 f)) _ (every_below line_test 38 lines_tested f h)))

pub name_is : (n v f r : ℕ) → Wide n → f ≡ v / 8 → r ≡ name_from n f → r ≡ name_of n v
unfolding name_of
name_is n v f r w e g = g ∙ line_is n f w ∙ ap (line n) e

-- ---- the two with one family
module _ (c : ℕ) where
  pub tell_low : c < 26 → 2 * (c - 24) + 4 ≡ tell_tale c
  unfolding tell_tale
  tell_low h = rw (lt-ltb c 26 h)

  pub tell_high : 26 ≤ c → 2 * (c - 24) ≡ tell_tale c
  unfolding tell_tale
  tell_high h = rw (le-ltb c 26 h)

pub place_is : (c j : ℕ) (t : Bool) → j ≡ tell_tale c → t ≡ takes c j → t ≡ takes c (tell_tale c)
place_is c j t e f = f ∙ ap (takes c) e

pub side_is : (c v : ℕ) (s t u : Bool) → s ≡ whole_or c v → t ≡ takes c (tell_tale c) → beq s t ≡ u → cond u c (c + 6) ≡ sided c v
unfolding sided
side_is c v s t u e f g = rw (← e, ← f, ← g) (go s t)
  where
    go : (s t : Bool) → cond (beq s t) c (c + 6) ≡ cond (alike s t) c (c + 6)
    go true true = refl
    go true false = refl
    go false true = refl
    go false false = refl

-- ---- which of them is meant
module _ (n b k : ℕ) (row : ℕ → ℕ) (e : k ≡ first_named n row b n) where
  pub named_own : (k < 24) ⊎ (30 ≤ k) → k ≡ named n row b
  unfolding named settled
  named_own h = rw (← e) (⊎_elim (λ l. rw (lt-leb 24 k l)) (λ l. rw (le-ltb k 30 l) (go (leb 24 k))) h)
    where
      go : (t : Bool) → k ≡ cond (t && false) (sided k (row (b + tell_tale k))) k
      go true = refl
      go false = refl

  pub named_side : 24 ≤ k → k < 30 → (j v r : ℕ) → j ≡ tell_tale k → v ≡ row (b + j) → r ≡ sided k v → r ≡ named n row b
  unfolding named settled
  named_side l u j v r d f g = g ∙ rw (← e, le-leb 24 k l, lt-ltb k 30 u, f, d)
