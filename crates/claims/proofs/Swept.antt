-- Two rows that differ at one position, which holds in either a value among 0 to 27, 48, 50 and 64 to 71: one plan, and at other positions the same
-- resources.
use mathlib.Core.Path.{◌≡◌, refl, sym, ap, ◌∙◌}
use mathlib.Core.Logic.{◌≢◌, ◌⊎◌, inl, inr, ⊎_elim}
use mathlib.Core.Bool.{Bool, true, false, cond, ◌&&◌, ◌||◌}
use mathlib.Core.List.{List, [], ◌∷◌, ◌++◌, map}
use Prim.Native.Nat.{ℕ, zero, suc, ◌+◌, ◌*◌, ◌/◌, ◌%◌, ◌≤◌, ◌<◌}
use native.Mathlib.Omega.{arith}
use borrow.Author.Tests.{eqb-true, eq-eqb}
use lib.Dec.{T, leb, eqb, leb→le, eqb→eq}
use Rattle.resource.specs.declared.Piece.{Piece}
use Rattle.resource.specs.Values.{between, smaller_at, fields_of, own_pieces}
use Rattle.resource.proofs.Test.{both_left, both_right}
use Rattle.kinds.specs.Kinds.{family, span, takes, must_name}
use Rattle.kinds.specs.Signals.{Fits, own, blank, smaller, Signals}
use Rattle.kinds.specs.Fields.{gives, share, shares, fields_in, Eight}
use Rattle.kinds.proofs.Tests.{holds, is_true, either, equal_or}
use Rattle.kinds.proofs.Table.{takes_known, family_low, named_high, one_kind, plain_family}
use Rattle.kinds.proofs.Fitting.{smaller_view, blank_least, blank_most}
use Rattle.kinds.proofs.Ranges.{itself_holds, family_fields}
use Rattle.kinds.proofs.Steps.{total_alone}
use Rattle.records.specs.declared.Record.{Record}
use Rattle.records.specs.Records.{in_channel, piece_record, list_at, records_from}
use Rattle.records.proofs.Listing.{own_list}
use Rattle.records.proofs.Spans.{own_fields_in}
use Rattle.claims.specs.Sweep.{swept, swept_at, elsewhere}

-- ---- the values
-- below a 484's, and not 28, 29 or 30
pub record Own (v : ℕ) : Type 0 where
  pub low : v / 8 ≤ 8
  pub no_blank : (v ≤ 27) ⊎ (31 ≤ v)

small_own : (v : ℕ) → v ≤ 27 → Own v
small_own v l = record { low = omega arith; no_blank = inl l }

large_own : (v : ℕ) → 31 ≤ v → v ≤ 71 → Own v
large_own v l u = record { low = omega arith; no_blank = inr l }

between_is : (a b v : ℕ) → T (between a b v) → (a ≤ v) × (v ≤ b)
between_is a b v t = (leb→le a v (both_left (leb a v) (leb v b) t), leb→le v b (both_right (leb a v) (leb v b) t))

-- values up to a, the two values b and c, and those from d to e
ranges_own : (v a b c d e : ℕ) → T (leb v a || eqb v b || eqb v c || between d e v) → (a ≤ 27) × (31 ≤ b) × (b ≤ 71) × (31 ≤ c) × (c ≤ 71) × (31 ≤ d) × (e ≤ 71)
    → Own v
ranges_own v a b c d e t h = from_d (either (leb v a || eqb v b || eqb v c) (between d e v) t)
  where
    up_to_a : T (leb v a) ⊎ T (eqb v b) → Own v
    up_to_a (inl t) = let l = leb→le v a t in small_own v (omega (arith, h.0))
    up_to_a (inr t) = let f = eqb→eq v b t in large_own v (omega (arith, h.1)) (omega (arith, h.2))

    one_c : T (leb v a || eqb v b) ⊎ T (eqb v c) → Own v
    one_c (inl t) = up_to_a (either (leb v a) (eqb v b) t)
    one_c (inr t) = let f = eqb→eq v c t in large_own v (omega (arith, h.3)) (omega (arith, h.4))

    from_d : T (leb v a || eqb v b || eqb v c) ⊎ T (between d e v) → Own v
    from_d (inl t) = one_c (either (leb v a || eqb v b) (eqb v c) t)
    from_d (inr t) = let w = between_is d e v t in large_own v (omega (arith, h.5, w.0)) (omega (arith, h.6, w.1))

pub swept_own : (v : ℕ) → swept v ≡ true → Own v
swept_own v e =
    ranges_own v _ _ _ _ _ (holds _ e) (omega arith, omega arith, omega arith, omega arith, omega arith, omega arith, omega arith)

-- what may stand at place j of a segment in smaller pieces, and the values from d to e
place_own : (j v d e : ℕ) → T (smaller_at j v || between d e v) → (31 ≤ d) × (e ≤ 71) → Own v
place_own j v d e t h = ⊎_elim (λ t. pieces (smaller_view j v (is_true (smaller_at j v) t))) whole (either (smaller_at j v) (between d e v) t)
  where
    pieces : (v ≤ 27) ⊎ ((v ≡ 48) ⊎ (v ≡ 50)) → Own v
    pieces (inl l) = small_own v l
    pieces (inr (inl f)) = large_own v (omega arith) (omega arith)
    pieces (inr (inr f)) = large_own v (omega arith) (omega arith)

    whole : T (between d e v) → Own v
    whole t = let w = between_is d e v t in large_own v (omega (arith, h.0, w.0)) (omega (arith, h.1, w.1))

place_fits : (p j v d e : ℕ) → T (smaller_at j v || between d e v) → j ≡ p % 4 → (64 ≤ d) × (e ≤ 71) → Fits 0 p v
place_fits p j v d e t f h = ⊎_elim pieces whole (either (smaller_at j v) (between d e v) t)
  where
    pieces : T (smaller_at j v) → Fits 0 p v
    pieces t = smaller (refl, rw (← f) (is_true (smaller_at j v) t))

    whole : T (between d e v) → Fits 0 p v
    whole t = let w = between_is d e v t in (itself_holds p v).1 (inr (inr (inr (omega (arith, h.0, w.0), omega (arith, h.1, w.1)))))

-- a value that a position allows is one of them, and the position may hold it when it is given to itself
pub allowed_own : (p v : ℕ) → swept_at p v ≡ true → Own v
allowed_own p v e = place_own _ v _ _ (holds _ e) (omega arith, omega arith)

pub allowed_fits : (p v : ℕ) → swept_at p v ≡ true → Fits 0 p v
allowed_fits p v e = place_fits p _ v _ _ (holds _ e) refl (omega arith, omega arith)

-- only the position itself has such a family
low_family : (c v : ℕ) → c < 36 → Own v → v / 8 ≡ family c → c ≡ 0
low_family c v h w e = one_kind c 0 h (omega arith) (omega (arith, e, w.low, family_low c h, plain_family 0 (omega arith)))

-- a position that holds such a value is given to itself by every plan
pub own_itself : (c p v : ℕ) → Own v → Fits c p v → c ≡ 0
own_itself c p v w (own t e) = low_family c v (takes_known c (p % span c) t) w e
own_itself c p v w (blank t e) = absurd (go w.no_blank)
  where
    go : (v ≤ 27) ⊎ (31 ≤ v) → ⊥
    go (inl l) = omega (arith, e, blank_least c (p % span c))
    go (inr l) = omega (arith, e, blank_most c (p % span c))
own_itself c p v w (smaller e) = e.0

-- it gives a larger resource no field, and its own 242 at most eight
none_larger : (c q v : ℕ) → c ≢ 0 → Own v → share c q v ≡ 0
unfolding share gives
none_larger c q v n w = go (takes c (q % span c)) (eqb (v / 8) (family c)) refl refl
  where
    go : (s t : Bool) → takes c (q % span c) ≡ s → eqb (v / 8) (family c) ≡ t → cond (s && t) (fields_of v) 0 ≡ 0
    go true true e f = absurd (n (low_family c v (takes_known c (q % span c) e) w (eqb-true (v / 8) (family c) f)))
    go true false e f = refl
    go false true e f = refl
    go false false e f = refl

eight_own : (q v : ℕ) → share 0 q v ≤ 8
unfolding share gives
eight_own q v = go (takes 0 (q % span 0)) (eqb (v / 8) (family 0)) refl
  where
    go : (s t : Bool) → eqb (v / 8) (family 0) ≡ t → cond (s && t) (fields_of v) 0 ≤ 8
    go true true e = omega (arith, family_fields 0 v (omega arith) (eqb-true (v / 8) (family 0) e))
    go true false e = omega arith
    go false true e = omega arith
    go false false e = omega arith

-- ---- the resources that are not listed at p
elsewhere_append : (p : ℕ) (rs ss : List Record) → elsewhere p (rs ++ ss) ≡ elsewhere p rs ++ elsewhere p ss
elsewhere_append p [] ss = refl
elsewhere_append p (r ∷ rs) ss = go (eqb r.position p) (elsewhere_append p rs ss)
  where
    go : (t : Bool) → elsewhere p (rs ++ ss) ≡ elsewhere p rs ++ elsewhere p ss
        → cond t (elsewhere p (rs ++ ss)) (r ∷ elsewhere p (rs ++ ss)) ≡ cond t (elsewhere p rs) (r ∷ elsewhere p rs) ++ elsewhere p ss
    go true e = e
    go false e = ap (λ (l : List Record). r ∷ l) e

none_there : (o row : ℕ → ℕ) (p : ℕ) → o p ≡ 0 → elsewhere p (list_at (o p) row p) ≡ []
none_there o row p e = ap (elsewhere p) (own_list (o p) row p e) ∙ go (own_pieces (row p))
  where
    go : (xs : List Piece) → elsewhere p (map (piece_record row p) xs) ≡ []
    go [] = refl
    go (x ∷ xs) = rw (eq-eqb p p refl) (go xs)

-- ---- the two rows
module _ (row row' : ℕ → ℕ) (p : ℕ) (other : (q : ℕ) → q ≢ p → row' q ≡ row q) (old : Own (row p)) (new : Own (row' p)) where
  -- the fields of a larger resource, which has none of the position's
  shares_kept : (x c b n : ℕ) → c ≢ 0 → shares x c row b n ≡ shares x c row' b n
  shares_kept x c b zero d = refl
  shares_kept x c b (suc n) d =
      rw (shares_kept x c b n d, ap (λ (f : ℕ). cond (eqb ((b + n) % 2 + 1) x) f 0) (at_each (b + n)))
    where
      at_each : (q : ℕ) → share c q (row q) ≡ share c q (row' q)
      at_each q =
          ⊎_elim
          (λ (e : q ≡ p). none_larger c q (row q) d (rw e old) ∙ sym (none_larger c q (row' q) d (rw e new)))
          (λ (e : q ≢ p). ap (share c q) (sym (other q e)))
          (equal_or q p)

  -- a resource at another position has the fields that it had
  fields_kept : (x c q : ℕ) → q ≢ p → fields_in x c row q ≡ fields_in x c row' q
  fields_kept x c q d =
      ⊎_elim
      (λ (e : c ≡ 0).
      rw e (own_fields_in x row q ∙ ap (λ (v : ℕ). in_channel x q (share 0 q v)) (sym (other q d)) ∙ sym (own_fields_in x row' q)))
      (λ (e : c ≢ 0). unfold fields_in in shares_kept x c (span c * (q / span c)) (span c) e)
      (equal_or c 0)

  -- what is listed there is the same
  pub list_kept : (c q : ℕ) → q ≢ p → list_at c row q ≡ list_at c row' q
  unfolding list_at
  list_kept c q d =
      rw (ap (λ (v : ℕ). map (piece_record (λ k. v) q) (own_pieces v)) (sym (other q d)), fields_kept 1 c q d, fields_kept 2 c q d)

  -- ---- a plan of the one is a plan of the other
  module _ (o : ℕ → ℕ) (a b : ℕ) (l : a ≤ p) (u : p < b) (s : Signals o row a b) where
    pub its_own : o p ≡ 0
    its_own = own_itself (o p) p (row p) old (s.fits p l u)

    not_named : (q : ℕ) → must_name (o q) ≡ true → o q ≡ 0 → ⊥
    not_named q m e = omega (arith, named_high 0 (omega arith) (rw e at m))

    pub signals_kept : Fits 0 p (row' p) → Signals o row' a b
    signals_kept fit = record {
      fits = λ q x y.
          ⊎_elim (λ (e : q ≡ p). rw (e, its_own) fit) (λ (e : q ≢ p). rw (other q e) (s.fits q x y)) (equal_or q p);
      entire = s.entire;
      named = λ q x y m.
          let w = s.named q x y m in
          let n : w.0 ≢ p = λ e. not_named q m (sym (s.entire q w.0 x y w.1).2 ∙ ap o e ∙ its_own) in
          (w.0, w.1, rw (other w.0 n) w.2);
    }

    pub eight_kept : Eight o row a b → Eight o row' a b
    eight_kept f q x y =
        ⊎_elim
        (λ (e : q ≡ p). rw (e, its_own, ← total_alone 0 row' p refl) (eight_own p (row' p)))
        (λ (e : q ≢ p). rw (← fields_kept 1 (o q) q e, ← fields_kept 2 (o q) q e) (f q x y))
        (equal_or q p)

  -- ---- the list of the plan's resources
  pub records_kept : (o : ℕ → ℕ) → o p ≡ 0 → (n : ℕ) → elsewhere p (records_from o row n) ≡ elsewhere p (records_from o row' n)
  records_kept o e zero = refl
  records_kept o e (suc n) =
      elsewhere_append p (records_from o row n) (list_at (o n) row n)
      ∙ (rw (records_kept o e n, at_each (equal_or n p)))
      ∙ sym (elsewhere_append p (records_from o row' n) (list_at (o n) row' n))
    where
      at_each : (n ≡ p) ⊎ (n ≢ p) → elsewhere p (list_at (o n) row n) ≡ elsewhere p (list_at (o n) row' n)
      at_each (inl f) = rw f (none_there o row p e ∙ sym (none_there o row' p e))
      at_each (inr f) = ap (elsewhere p) (list_kept (o n) n f)
