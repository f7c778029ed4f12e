-- Values and resources of 20, 40 and 80 MHz are one-to-one.
use mathlib.Core.Path.{◌≡◌, sym, ◌∙◌, ap, subst}
use mathlib.Core.Logic.{◌⊎◌, inl, inr, ⊎_elim}
use mathlib.Core.Bool.{Bool, true, false, cond, ◌&&◌}
use Prim.Native.Nat.{ℕ, zero, suc, ◌+◌, ◌-◌, ◌*◌, ◌/◌, ◌%◌, ◌^◌, ◌≤◌, ◌<◌}
use native.Mathlib.Omega.{arith}
use native.Mathlib.Nat.{add-zero}
use lib.Dec.{T, ltb, ltb→lt, leb, leb→le, le→leb, eqb, eqb→eq}
use Rattle.resource.specs.declared.Piece.{Piece}
use Rattle.resource.specs.declared.Piece.TheVariants.{Part, With26}
use Rattle.resource.specs.declared.Resource.{Resource}
use Rattle.resource.specs.declared.Resource.TheVariants.{Single, Joined}
use Rattle.resource.specs.Names.{name_of, number_of}
use Rattle.resource.specs.Values.{smaller_at}
use Rattle.resource.specs.Index.{index_of, position_of, place_of, from_positions, is_piece, exists, resource_at, leaving_out}
use Rattle.resource.proofs.Names.{same_named}
use Rattle.resource.proofs.Test.{below_or, both_left, both_right, wherever, met, below, every_below}
use Rattle.resource.proofs.Everywhere.{every_piece, at_piece}
use Rattle.trigger_values.specs.Values.{named, resource_of, reaches, taken, allowed_at, ResourceOf, piece, leaving, rank, Before, OneToOne}
use Rattle.trigger_values.specs.Engine.{nth_of, value_for}
use Rattle.trigger_values.proofs.Back.{named_low, taken_named, value_back, back_value}

-- ---- what a value names is there
-- the position and the piece of a resource that is no 484+242
abbrev pub position_in : Resource → ℕ
position_in (Single s i) = position_of s i
position_in (Joined w i) = (i - 1) / 2

abbrev pub piece_in : Resource → Piece
piece_in (Single s i) = Part s (place_of s i + 1)
piece_in (Joined w i) = With26 ((i - 1) % 2 + 1)

abbrev pub same : Resource → Resource → Bool
same r s = eqb (name_of r) (name_of s) && eqb (number_of r) (number_of s)

abbrev pub there_leaving : ℕ → Resource → ℕ → Bool
there_leaving n r k = ltb k 4 && leb 4 n && same (leaving_out k) r

abbrev pub there_piece : ℕ → Resource → ℕ → Piece → Bool
there_piece n r p x = exists n 0 p x && allowed_at p x && same (resource_at p x) r

abbrev pub there : ℕ → Resource → Bool
there n r = cond (eqb (name_of r) 726) (there_leaving n r (number_of r - 1)) (there_piece n r (position_in r) (piece_in r))

as_same : (n : ℕ) (r s : Resource) → ResourceOf n r → T (same r s) → ResourceOf n s
as_same n r s h t =
    let e = eqb→eq (name_of r) (name_of s) (both_left (eqb (name_of r) (name_of s)) (eqb (number_of r) (number_of s)) t) in
    let f = eqb→eq (number_of r) (number_of s) (both_right (eqb (name_of r) (name_of s)) (eqb (number_of r) (number_of s)) t) in
    subst (ResourceOf n) (same_named r s e f) h

pub there_is : (n : ℕ) (r : Resource) → T (there n r) → ResourceOf n r
there_is n r = go (eqb (name_of r) 726)
  where
    all_three : (a b c : Bool) → T (a && b && c) → T a × T b × T c
    all_three a b c t = let u = both_left (a && b) c t in (both_left a b u, both_right a b u, both_right (a && b) c t)

    by_leaving : (k : ℕ) → T (there_leaving n r k) → ResourceOf n r
    by_leaving k t =
        let u = all_three (ltb k 4) (leb 4 n) (same (leaving_out k) r) t in
        as_same n (leaving_out k) r (leaving k (ltb→lt k 4 u.0) (leb→le 4 n u.1)) u.2

    by_piece : (p : ℕ) (x : Piece) → T (there_piece n r p x) → ResourceOf n r
    by_piece p x t =
        let u = all_three (exists n 0 p x) (allowed_at p x) (same (resource_at p x) r) t in
        as_same n (resource_at p x) r (piece p x u.0 u.1) u.2

    go : (b : Bool) → T (cond b (there_leaving n r (number_of r - 1)) (there_piece n r (position_in r) (piece_in r))) → ResourceOf n r
    go true t = by_leaving (number_of r - 1) t
    go false t = by_piece (position_in r) (piece_in r) t

abbrev there_test : ℕ → ℕ → Bool
there_test bw v = wherever (taken bw v) (there (2 ^ bw) (resource_of v))

all_there : T (below (λ bw. below (there_test bw) 94) 3)
unfolding named resource_of reaches taken allowed_at smaller_at exists resource_at is_piece index_of from_positions position_of place_of
all_there = tt

-- ---- and what is there has a value
abbrev value_of : Resource → ℕ
value_of r = value_for (name_of r) (number_of r)

abbrev has_value : ℕ → ℕ → Piece → Bool
has_value bw p x = wherever (exists (2 ^ bw) 0 p x) (wherever (allowed_at p x) (taken bw (value_of (resource_at p x))))

all_pieces : T (below (λ bw. below (λ p. every_piece (has_value bw p)) 4) 3)
unfolding named resource_of reaches taken allowed_at smaller_at exists resource_at is_piece index_of from_positions position_of place_of value_for nth_of
all_pieces = tt

abbrev has_leaving : ℕ → ℕ → Bool
has_leaving bw k = wherever (leb 4 (2 ^ bw)) (taken bw (value_of (leaving_out k)))

all_leaving : T (below (λ bw. below (has_leaving bw) 4) 3)
unfolding named resource_of reaches taken value_for nth_of
all_leaving = tt

in_exists : (n p : ℕ) (x : Piece) → T (exists n 0 p x) → (p < 4) × T (is_piece x)
unfolding exists
in_exists n p x t =
    let a = ltb p 4 in
    let b = ltb (4 * 0 + p) n in
    let c = leb (from_positions x) n in
    (ltb→lt p 4 (both_left a b (both_left (a && b) c (both_left (a && b && c) (is_piece x) t))), both_right (a && b && c) (is_piece x) t)

-- ---- in order: a number for kind and index, which a named value has lower than the next
abbrev key : ℕ → ℕ
key v = 64 * rank (resource_of v) + number_of (resource_of v)

abbrev key_test : ℕ → Bool
key_test v = leb (key v) (key (v + 1)) && wherever (named v) (ltb (key v) (key (v + 1))) && ltb (number_of (resource_of v)) 64

all_keys : T (below key_test 94)
unfolding named resource_of
all_keys = tt

module _ (v : ℕ) (l : v < 94) where
  tested : T (leb (key v) (key (v + 1)) && wherever (named v) (ltb (key v) (key (v + 1)))) × T (ltb (number_of (resource_of v)) 64)
  tested =
      let a = leb (key v) (key (v + 1)) && wherever (named v) (ltb (key v) (key (v + 1))) in
      let t = every_below key_test 94 all_keys v l in
      (both_left a (ltb (number_of (resource_of v)) 64) t, both_right a (ltb (number_of (resource_of v)) 64) t)

  key_next : key v ≤ key (v + 1)
  key_next = leb→le (key v) (key (v + 1)) (both_left (leb (key v) (key (v + 1))) (wherever (named v) (ltb (key v) (key (v + 1)))) tested.0)

  key_rises : T (named v) → key v < key (v + 1)
  key_rises n =
      ltb→lt (key v) (key (v + 1))
      (met (named v) (ltb (key v) (key (v + 1)))
      (both_right (leb (key v) (key (v + 1))) (wherever (named v) (ltb (key v) (key (v + 1)))) tested.0) n)

  number_small : number_of (resource_of v) < 64
  number_small = ltb→lt (number_of (resource_of v)) 64 tested.1

key_far : (v d : ℕ) → v + d < 94 → key v ≤ key (v + d)
key_far v zero l = rw (add-zero v) (omega arith)
key_far v (suc d) l =
    let e : v + suc d ≡ v + d + 1 = omega arith in
    rw e (step (key_far v d (omega arith)) (key_next (v + d) (omega arith)))
  where
    step : {a b c : ℕ} → a ≤ b → b ≤ c → a ≤ c
    step h k = omega arith

by_key : (a b c d : ℕ) → 64 * a + b < 64 * c + d → b < 64 → d < 64 → (a < c) ⊎ ((a ≡ c) × (b < d))
by_key a b c d h k l = ⊎_elim inl (λ (m : c ≤ a). inr (omega arith, omega arith)) (below_or a c)

in_order : (v w : ℕ) → T (named v) → T (named w) → v < w → Before (resource_of v) (resource_of w)
in_order v w n m l =
    let i = named_low w m in
    let e : v + 1 + (w - (v + 1)) ≡ w = omega arith in
    let f : key (v + 1) ≤ key w = rw e at (key_far (v + 1) (w - (v + 1)) (omega arith)) in
    by_key (rank (resource_of v)) (number_of (resource_of v)) (rank (resource_of w)) (number_of (resource_of w))
    (step (key_rises v (omega arith) n) f) (number_small v (omega arith)) (number_small w i)
  where
    step : {a b c : ℕ} → a < b → b ≤ c → a < c
    step h k = omega arith

module _ (bw : ℕ) (b : bw ≤ 2) where
  of_value : (r : Resource) → T (taken bw (value_of r)) → (v : ℕ) × T (taken bw v) × (resource_of v ≡ r)
  of_value r t =
      let e = back_value bw (name_of r) (number_of r) t in (value_of r, t, same_named (resource_of (value_of r)) r e.0 e.1)

  names_one : (v : ℕ) → T (taken bw v) → ResourceOf (2 ^ bw) (resource_of v)
  names_one v t =
      there_is (2 ^ bw) (resource_of v)
      (met (taken bw v) (there (2 ^ bw) (resource_of v))
      (every_below (there_test bw) 94 (every_below (λ bw. below (there_test bw) 94) 3 all_there bw (omega arith)) v (named_low v (taken_named bw v t))) t)

  has_one : {r : Resource} → ResourceOf (2 ^ bw) r → (v : ℕ) × T (taken bw v) × (resource_of v ≡ r)
  has_one (piece p x t a) =
      let u = in_exists (2 ^ bw) p x t in
      let at = at_piece (has_value bw p) x
      (every_below (λ p. every_piece (has_value bw p)) 4
      (every_below (λ bw. below (λ p. every_piece (has_value bw p)) 4) 3 all_pieces bw (omega arith)) p u.0) u.1 in
      let v = taken bw (value_of (resource_at p x)) in
      of_value (resource_at p x) (met (allowed_at p x) v (met (exists (2 ^ bw) 0 p x) (wherever (allowed_at p x) v) at t) a)
  has_one (leaving k l m) =
      of_value (leaving_out k)
      (met (leb 4 (2 ^ bw)) (taken bw (value_of (leaving_out k)))
      (every_below (has_leaving bw) 4 (every_below (λ bw. below (has_leaving bw) 4) 3 all_leaving bw (omega arith)) k l) (le→leb 4 (2 ^ bw) m))

  only_one : (v w : ℕ) → T (taken bw v) → T (taken bw w) → resource_of v ≡ resource_of w → v ≡ w
  only_one v w t u e = sym (value_back bw v t) ∙ ap value_of e ∙ value_back bw w u

  pub one_to_one : OneToOne bw
  one_to_one = record {
    names_one = names_one;
    has_one = has_one;
    only_one = only_one;
    in_order = λ v w t u. in_order v w (taken_named bw v t) (taken_named bw w u);
  }
