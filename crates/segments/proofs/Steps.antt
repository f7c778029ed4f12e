-- The steps of the engine, as the code takes them.
use mathlib.Core.Path.{◌≡◌, refl, sym, ◌∙◌, ap}
use mathlib.Core.Logic.{⊎_elim}
use mathlib.Core.Bool.{Bool, true, false, cond, ◌&&◌, ◌||◌}
use mathlib.Core.List.{List, [], ◌∷◌}
use Prim.Native.Nat.{ℕ, ◌*◌, ◌/◌, ◌%◌, ◌^◌, ◌≤◌, ◌<◌}
use native.Mathlib.Omega.{arith}
use native.Mathlib.Nat.{mod-eq_of_lt}
use lib.Pow.{pow_mono}
use lib.Dec.{T, eqb, eqb→eq}
use borrow.Author.Tests.{lt-ltb, le-ltb, eq-eqb, ne_eqb, eqb-true}
use Rattle.answer.specs.Least.{least}
use Rattle.answer.proofs.Least.{least_holds, least_le}
use Rattle.resource.specs.Values.{smaller_at}
use Rattle.resource.proofs.Test.{below_or, below, every_below, Missed, key_or, no_key}
use Rattle.kinds.specs.Kinds.{kinds, kind_at, family, span, mask, takes, blank_at, must_name}
use Rattle.kinds.specs.Engine.{sought, kind_of, name_of}
use Rattle.kinds.specs.Signals.{Place}
use Rattle.kinds.proofs.Table.{family_back, family_most, sought_high, span_four, span_0, plain_family, plain_blank, full}
use Rattle.kinds.proofs.Places.{place_mod}
use Rattle.kinds.proofs.Steps.{blank_30, blank_29, blank_28}
use Rattle.segments.specs.Engine.{or_else, tells, choose, fitting, within}
use Rattle.segments.proofs.Within.{yes_within}

-- ---- the kind that a value names, of those that a segment can hold
pub name_known : (c v : ℕ) → c < 7 → 3 ≤ c → v / 8 ≡ family c → c ≡ name_of 4 v
unfolding name_of
name_known c v h l e = rw (e, family_back c h, sought_high c (omega arith) l, span_four c h (omega arith))

abbrev lone : ℕ → Bool
lone f = eqb (cond (eqb (sought (kind_of f)) 4) (kind_of f) 36) 36

abbrev four : List (List ℕ)
four = (15 ∷ []) ∷ (14 ∷ []) ∷ (13 ∷ []) ∷ (12 ∷ []) ∷ []

four_tested : T (below (key_or lone four) 38)
unfolding sought must_name span mask family kind_of least kind_at kinds
four_tested = tt

pub no_kind : (f : ℕ) → 38 ≤ f → kind_of f ≡ 36
unfolding kind_of
no_kind f h =
    ⊎_elim
    (λ l. let e : family (kind_of f) ≡ f = eqb-true _ _ (least_holds (λ c. eqb (family c) f) 36 l) in absurd (let m = family_most (kind_of f) l in omega arith))
    (λ l. let m = least_le (λ c. eqb (family c) f) 36 in omega arith)
    (below_or (kind_of f) 36)

none_is_none : ◌≡◌ {A = ℕ} 36 (cond (eqb (sought 36) 4) 36 36)
unfolding sought must_name span mask kind_at kinds
none_is_none = refl

pub name_none : (v r : ℕ) → r ≡ v / 8 → Missed four r → 36 ≡ name_of 4 v
unfolding name_of
name_none v r e m =
    rw (← e)
    (⊎_elim
    (λ h. sym (eqb→eq _ _ (no_key lone four r (every_below (key_or lone four) 38 four_tested r h) m)))
    (λ h. rw (no_kind r h) none_is_none)
    (below_or r 38))

pub or_else_low : (x y : ℕ) → x < 36 → x ≡ or_else x y
unfolding or_else
or_else_low x y h = rw (lt-ltb x 36 h)

pub or_else_high : (x y : ℕ) → 36 ≤ x → y ≡ or_else x y
unfolding or_else
or_else_high x y h = rw (le-ltb x 36 h)

-- ---- the choice
module _ (k u v j : ℕ) where
  pub choose_named : k < 36 → (t : Bool) → takes k j ≡ t → cond t k 0 ≡ choose k u v j
  unfolding choose
  choose_named h t e = rw (lt-ltb k 36 h, e)

  pub choose_told : 36 ≤ k → (s t : Bool) → tells 2 u ≡ s → tells 1 v ≡ t → cond s 2 (cond t 1 0) ≡ choose k u v j
  unfolding choose
  choose_told h s t e f = rw (le-ltb k 36 h, e, f)

  pub choose_whole : 36 ≤ k → tells 2 u ≡ true → 2 ≡ choose k u v j
  unfolding choose
  choose_whole h e = rw (le-ltb k 36 h, e)

-- ---- what fits
module _ (c p v : ℕ) where
  abbrev place : Bool
  place = takes c (p % span c) && (eqb (v / 8) (family c) || eqb v (blank_at c (p % span c)))

  pub place_is : (j : ℕ) (t u : Bool) → j ≡ p % span c → t ≡ (takes c j && (eqb (v / 8) (family c) || eqb v (blank_at c j))) → t ≡ u → place ≡ u
  place_is j t u e f g = rw (← e) (sym f ∙ g)

  pub fitting_place : place ≡ true → true ≡ fitting c p v
  unfolding fitting
  fitting_place e = rw e

  pub fitting_none : place ≡ false → (c ≡ 0 → ⊥) → false ≡ fitting c p v
  unfolding fitting
  fitting_none e f = rw (e, ne_eqb c 0 f)

  pub fitting_other : (t : Bool) → place ≡ t → (c ≡ 0 → ⊥) → t ≡ fitting c p v
  fitting_other true e f = fitting_place e
  fitting_other false e f = fitting_none e f

-- ---- a position that is given to itself
pub fitting_alone : (p v : ℕ) → (eqb (v / 8) 8 || eqb v 28 || smaller_at (p % 4) v) ≡ fitting 0 p v
unfolding fitting
fitting_alone p v =
    let l = place_mod 0 p (omega arith) in
    rw (full 0 (omega arith) (p % span 0) l, plain_family 0 (omega arith), plain_blank 0 (omega arith) (p % span 0) l)

-- ---- the bit of a position
pub one_bit : (p m : ℕ) → p ≤ 16 → 65536 < m → 1 * 2 ^ p % m ≡ 2 ^ p
one_bit p m h l =
    let u : 2 ^ p ≤ 2 ^ 16 = pow_mono {i = p} {j = 16} h in
    let e : 1 * 2 ^ p ≡ 2 ^ p = omega arith in
    ap (λ (k : ℕ). k % m) e ∙ mod-eq_of_lt (omega arith)

-- ---- the blank of a place of one that a segment can hold, below 4
module _ (c j m : ℕ) (l : j < 4) (e : m ≡ mask c) where
  shifted : m / 2 ^ (4 * (j / 4)) % 16 ≡ m % 16
  shifted =
      let z : j / 4 ≡ 0 = omega arith in
      let d : m / 1 ≡ m = omega arith in
      rw z (ap (λ (k : ℕ). k % 16) d)

  pub all_four : m % 16 ≡ 15 → 30 ≡ blank_at c j
  all_four f = blank_30 c j m e (shifted ∙ f)

  pub its_pair : (m % 16 ≡ 15 → ⊥) → m / 2 ^ (2 * (j / 2)) % 4 ≡ 3 → 29 ≡ blank_at c j
  its_pair f g = blank_29 c j m e (λ h. f (sym shifted ∙ h)) g

  pub its_own : (m % 16 ≡ 15 → ⊥) → (m / 2 ^ (2 * (j / 2)) % 4 ≡ 3 → ⊥) → 28 ≡ blank_at c j
  its_own f g = blank_28 c j m e (λ h. f (sym shifted ∙ h)) g
