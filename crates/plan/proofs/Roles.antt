-- The roles of a row and the kinds that they tell, entered in lists, and the sums of roles, as the code takes them.
use mathlib.Core.Path.{◌≡◌, refl, sym, ◌∙◌, ap, subst}
use mathlib.Core.Logic.{◌≢◌, ⊎_elim}
use mathlib.Core.List.{List}
use Prim.Native.Nat.{ℕ, zero, suc, ◌+◌, ◌-◌, ◌*◌, ◌/◌, ◌%◌, ◌^◌, ◌≤◌, ◌<◌}
use native.Mathlib.Omega.{arith}
use native.Mathlib.Numerals.{add-one}
use native.Mathlib.Nat.{zero-div, mul-le-mul_right}
use lib.Pow.{pow_mono}
use lib.ListN.{length, get_or, set, length-set, replicate, length-replicate, get_or-replicate, get_or-eq_default}
use lib.Seq.{get_or-set_same, get_or-set_other}
use borrow.Author.Tests.{lt-ltb, le-ltb}
use Rattle.answer.specs.Lists.{at, filled}
use Rattle.answer.proofs.Lists.{get_d_kept, filled_is}
use Rattle.resource.specs.Values.{fields_of}
use Rattle.resource.proofs.Test.{below_or}
use Rattle.kinds.proofs.Tests.{equal_or}
use Rattle.segments.specs.Engine.{Entered}
use Rattle.segments.proofs.Entries.{entered_none, entered_next, entered_filled}
use Rattle.roles.specs.declared.Settled.{Settled}
use Rattle.roles.specs.Engine.{Role, no_role, settle_of, kind_in}
use Rattle.roles.proofs.Table.{absent}
use Rattle.roles.proofs.Steps.{settle_most, lone_settled}
use Rattle.plan.specs.Engine.{Cast, Low, segment_of, glance_kind, glance_marks, role_sum, glance_of, lone_of}
use Rattle.plan.proofs.Told.{fields_at}

-- ---- the roles
pub cast_none : (row w : List ℕ) → Cast row 0 w w
cast_none row w = record { cast = λ p l. absurd (omega arith); stands = λ p l. refl; as_long = refl }

pub cast_next : (row w v : List ℕ) (m x : ℕ) → m < length v → Role (at row m) (fields_of (at row m)) x → Cast row m w v → Cast row (m + 1) w (set v m x)
cast_next row w v m x l h c = record {
  cast = λ p k. ⊎_elim
      (λ (e : p ≡ m). subst (λ (q : ℕ). Role (at row q) (fields_of (at row q)) (at (set v m x) q)) (sym e)
      (subst (λ (y : ℕ). Role (at row m) (fields_of (at row m)) y) (sym (get_or-set_same v m x 0 l)) h))
      (λ (e : p ≢ m). subst (λ (y : ℕ). Role (at row p) (fields_of (at row p)) y) (sym (get_or-set_other v m p x 0 e)) (c.cast p (omega arith)))
      (equal_or p m);
  stands = λ p k. get_or-set_other v m p x 0 (λ e. omega arith) ∙ c.stands p (omega arith);
  as_long = length-set v m x ∙ c.as_long;
}

module _ (row roles : List ℕ) (short : length row ≤ 16) (x : ℕ) (none : x ≡ no_role) (c : Cast row (length row) (replicate 16 x) roles) where
  pub cast_past : (p : ℕ) → length row ≤ p → p < 16 → at roles p ≡ no_role
  cast_past p k l = c.stands p k ∙ get_or-replicate {A = ℕ} 16 p x 0 l ∙ none

  pub cast_all : (p : ℕ) → p < 16 → Role (at row p) (fields_at row p) (at roles p)
  cast_all p l = ⊎_elim inside past (below_or p (length row))
    where
      inside : p < length row → Role (at row p) (fields_at row p) (at roles p)
      inside k = rw (lt-ltb p (length row) k) (c.cast p k)

      past : length row ≤ p → Role (at row p) (fields_at row p) (at roles p)
      past k =
          let z : at row p ≡ 0 = get_or-eq_default row 0 k in
          rw (le-ltb p (length row) k, z, cast_past p k l) absent

  pub cast_low : Low roles
  cast_low = record { low = λ p. ⊎_elim (λ (k : p < 16). (cast_all p k).most) (past p) (below_or p 16) }
    where
      past : (p : ℕ) → 16 ≤ p → at roles p < 2 ^ 60
      past p k =
          let m : length roles ≤ p = omega (arith, c.as_long, length-replicate {A = ℕ} 16 x) in
          let z : at roles p ≡ 0 = get_or-eq_default roles 0 m in
          omega arith

-- ---- the kinds of four places
pub four_entered : (k b : ℕ) (w : List ℕ) → k < 65536 → b + 4 ≤ length w
    → Entered (λ p. kind_in k (p - b)) b (b + 4) w (set (set (set (set w b (k % 16)) (b + 1) (k / 16 % 16)) (b + 2) (k / 256 % 16)) (b + 3) (k / 4096))
four_entered k b w l m =
    let f : ℕ → ℕ = λ p. kind_in k (p - b) in
    let e0 : b - b ≡ 0 = omega arith in
    let e1 : b + 1 - b ≡ 1 = omega arith in
    let e2 : b + 2 - b ≡ 2 = omega arith in
    let e3 : b + 3 - b ≡ 3 = omega arith in
    let w1 = set w b (k % 16) in
    let w2 = set w1 (b + 1) (k / 16 % 16) in
    let w3 = set w2 (b + 2) (k / 256 % 16) in
    let l1 = length-set w b (k % 16) in
    let l2 = length-set w1 (b + 1) (k / 16 % 16) in
    let l3 = length-set w2 (b + 2) (k / 256 % 16) in
    let s1 = entered_next f b b (k % 16) w w (omega arith) (omega arith) (rw e0 (omega arith)) (entered_none f b w) in
    let s2 = entered_next f b (b + 1) (k / 16 % 16) w w1 (omega arith) (omega arith) (rw e1 (omega arith)) s1 in
    let s3 = entered_next f b (b + 2) (k / 256 % 16) w w2 (omega arith) (omega arith) (rw e2 (omega arith))
    (subst (λ (e : ℕ). Entered f b e w w2) (omega arith) s2) in
    let s4 = entered_next f b (b + 3) (k / 4096) w w3 (omega arith) (omega arith) (rw e3 (omega arith))
    (subst (λ (e : ℕ). Entered f b e w w3) (omega arith) s3) in
    subst (λ (e : ℕ). Entered f b e w (set w3 (b + 3) (k / 4096))) (omega arith) s4

pub none_entered : (k b : ℕ) (w : List ℕ) → k ≡ 0 → ((p : ℕ) → b ≤ p → at w p ≡ 0) → Entered (λ p. kind_in k (p - b)) b (b + 4) w w
none_entered k b w e f = record {
  entered = λ p l u. f p l ∙ rw e (sym (ap (λ (x : ℕ). x % 16) (zero-div (16 ^ (p - b)))));
  stands = λ p h. refl;
  as_long = refl;
}

pub shifted_most : (x k : ℕ) → x ≤ 131072 → k ≤ 12 → x * 2 ^ k ≤ 2 ^ 29
shifted_most x k l m =
    let u : 2 ^ k ≤ 2 ^ 12 = pow_mono {i = k} {j = 12} m in
    let a = mul-le-mul_right {m = x} {n = 131072} (2 ^ k) l in
    omega arith

-- ---- what the code has after s segments
module _ (roles : List ℕ) (low : Low roles) where
  pub sum_most : (i s : ℕ) → role_sum i (at roles) s ≤ s * 2 ^ 61
  unfolding role_sum
  sum_most i zero = omega arith
  sum_most i (suc s) = omega (arith, sum_most i s, low.low (4 * s + i), low.low (4 * s + (i + 2)))

  -- the marks of at most four segments
  pub marks_most : (s : ℕ) → s ≤ 4 → glance_marks (at roles) s ≤ s * 2 ^ 29
  unfolding glance_marks
  marks_most zero l = omega arith
  marks_most (suc s) l = omega (arith, marks_most s (omega arith), shifted_most (segment_of (at roles) s).marks (4 * s) (few s) (omega arith))
    where
      few : (s : ℕ) → (segment_of (at roles) s).marks ≤ 131072
      few s = unfold segment_of in settle_most _ _ _ _

-- ---- one segment more
entered_cong : (f g : ℕ → ℕ) (b e : ℕ) (w v : List ℕ) → ((p : ℕ) → b ≤ p → p < e → f p ≡ g p) → Entered f b e w v → Entered g b e w v
entered_cong f g b e w v h c = record { entered = λ p l u. c.entered p l u ∙ h p l u; stands = c.stands; as_long = c.as_long }

zeros : (m i : ℕ) → ◌≡◌ {A = ℕ} (get_or (replicate m 0) i 0) 0
zeros zero i = refl
zeros (suc m) zero = refl
zeros (suc m) (suc i) = zeros m i

module _ (roles : List ℕ) (s : ℕ) where
  abbrev b : ℕ
  b = 4 * s

  abbrev there : Settled
  there = settle_of (at roles b) (at roles (b + 1)) (at roles (b + 2)) (at roles (b + 3))

  segment_at : segment_of (at roles) s ≡ there
  unfolding segment_of
  segment_at = let e : b + 0 ≡ b = omega arith in rw e

  pub next_marks : (m : ℕ) (x : Settled) → x ≡ there → m ≡ glance_marks (at roles) s → m + x.marks * 2 ^ b ≡ glance_marks (at roles) (s + 1)
  unfolding glance_marks
  next_marks m x e f = rw (add-one s, segment_at, e, f)

  pub next_sum : (i m : ℕ) → m ≡ role_sum i (at roles) s → m + (at roles (b + i) + at roles (b + (i + 2))) ≡ role_sum i (at roles) (s + 1)
  unfolding role_sum
  next_sum i m f = rw (add-one s, f)

  pub next_lower : (m : ℕ) → m ≡ role_sum 0 (at roles) s → m + (at roles b + at roles (b + 2)) ≡ role_sum 0 (at roles) (s + 1)
  next_lower m f = let e : b + 0 ≡ b = omega arith in ap (λ (k : ℕ). m + (at roles k + at roles (b + 2))) (sym e) ∙ next_sum 0 m f

  kind_at : (x : Settled) → x ≡ there → (p : ℕ) → b ≤ p → p < b + 4 → kind_in x.kinds (p - b) ≡ glance_kind (at roles) p
  unfolding glance_kind
  kind_at x e p k u =
      let d : p / 4 ≡ s = omega arith in
      let g : p % 4 ≡ p - b = omega arith in
      rw (d, g, segment_at, e)

  pub next_kinds : (x : Settled) (w v : List ℕ) → x ≡ there → b + 4 ≤ 16 → w ≡ filled (glance_kind (at roles)) b (replicate 16 0)
      → Entered (λ p. kind_in x.kinds (p - b)) b (b + 4) w v → v ≡ filled (glance_kind (at roles)) (b + 4) (replicate 16 0)
  next_kinds x w v e l f c =
      entered_filled (glance_kind (at roles)) b (b + 4) (replicate 16 0) w v (omega arith) (omega (arith, length-replicate {A = ℕ} 16 0)) f
      (entered_cong (λ p. kind_in x.kinds (p - b)) (glance_kind (at roles)) b (b + 4) w v (kind_at x e) c)

-- past what is entered the kinds are 0
pub kinds_past : (f : ℕ → ℕ) (b : ℕ) (w : List ℕ) → w ≡ filled f b (replicate 16 0) → (p : ℕ) → b ≤ p → at w p ≡ 0
kinds_past f b w e p l = ap (λ (v : List ℕ). at v p) e ∙ get_d_kept f b (replicate 16 0) p 0 l ∙ zeros 16 p

-- ---- a row of one value that may stand alone
module _ (roles : List ℕ) (none : (p : ℕ) → 1 ≤ p → p < 16 → at roles p ≡ no_role) (e : at roles 0 / 65536 % 2 ≡ 1) where
  abbrev lone : Settled
  lone = record { kinds = 0; marks = at roles 0 / 256 % 2 }

  lone_segment : segment_of (at roles) 0 ≡ lone
  unfolding segment_of
  lone_segment = rw (none 1 (omega arith) (omega arith), none 2 (omega arith) (omega arith), none 3 (omega arith) (omega arith)) (lone_settled (at roles 0) e)

  lone_kind : (p : ℕ) → p < 4 → 0 ≡ glance_kind (at roles) p
  unfolding glance_kind
  lone_kind p l = let d : p / 4 ≡ 0 = omega arith in rw (d, lone_segment) (sym (ap (λ (x : ℕ). x % 16) (zero-div (16 ^ (p % 4)))))

  lone_kinds : replicate 16 0 ≡ filled (glance_kind (at roles)) 4 (replicate 16 0)
  lone_kinds = filled_is (glance_kind (at roles)) 0 4 (replicate 16 0) (replicate 16 0) refl (omega (arith, length-replicate {A = ℕ} 16 0))
      (λ i l. zeros 16 i ∙ lone_kind i l) (λ i l. refl)

  lone_marks : at roles 0 / 256 % 2 ≡ glance_marks (at roles) 1
  unfolding glance_marks
  lone_marks = rw lone_segment (omega arith)

  lone_first : at roles 0 % 256 ≡ role_sum 0 (at roles) 1 % 256
  unfolding role_sum
  lone_first = let z = none 2 (omega arith) (omega arith) in omega arith

  lone_second : 0 ≡ role_sum 1 (at roles) 1 % 256
  unfolding role_sum
  lone_second = let z = none 1 (omega arith) (omega arith) in let y = none 3 (omega arith) (omega arith) in omega arith

  pub lone_glance : (n : ℕ) → n ≡ 1 → lone_of (at roles 0) ≡ glance_of n roles
  unfolding lone_of glance_of
  lone_glance n d = rw (d, ← lone_kinds, ← lone_marks, ← lone_first, ← lone_second)
