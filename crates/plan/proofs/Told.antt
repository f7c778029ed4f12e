-- What the roles of a row's values tell, where every segment's do, is the row's plan: `told_plan`.
use mathlib.Core.Path.{◌≡◌, refl, sym, ◌∙◌, ap}
use mathlib.Core.Logic.{◌⊎◌, inl, inr, ⊎_elim}
use mathlib.Core.Bool.{Bool, true, false, cond}
use mathlib.Core.List.{List}
use Prim.Native.Nat.{ℕ, zero, suc, ◌+◌, ◌*◌, ◌/◌, ◌%◌, ◌^◌, ◌≤◌, ◌<◌}
use native.Mathlib.Omega.{arith}
use native.Mathlib.Nat.{add_assoc, add-mul, mul_comm, mul_assoc, mul-le-mul_left, mul-one}
use lib.Pow.{pow_pos, pow-add}
use lib.Dec.{ltb, leb, eqb, eqb→eq}
use lib.ListN.{length, get_or, replicate, length-replicate, get_or-eq_default}
use borrow.Author.Tests.{lt-ltb, le-ltb, eq-eqb, ne_eqb}
use Rattle.answer.specs.Lists.{at, filled}
use Rattle.answer.specs.Answer.{no}
use Rattle.std.specs.Prelude.{Ok, Err}
use Rattle.answer.proofs.Lists.{filled_is, filled_length, get_d_filled, get_d_kept}
use Rattle.answer.specs.declared.Refusal.TheVariants.{OverEightFields}
use Rattle.resource.specs.Values.{fields_of, smaller_at}
use Rattle.resource.proofs.Fields.{fields_most}
use Rattle.resource.proofs.Test.{below_or, below, every_below, wherever, met}
use Rattle.kinds.specs.Kinds.{kinds, kind_at, family, span, mask, takes, takes_block, blank_at, must_name}
use Rattle.kinds.specs.Signals.{Place, Signals}
use Rattle.kinds.specs.Fields.{gives, share, channel_share, shares, fields_in, together, Eight, shared, fields_to}
use Rattle.kinds.proofs.Tests.{holds}
use Rattle.kinds.proofs.Table.{spans, span_0}
use Rattle.kinds.proofs.Places.{place_segment}
use Rattle.kinds.proofs.Steps.{total_alone, share_alone}
use Rattle.segments.specs.Engine.{fitting}
use Rattle.segments.proofs.Found.{fitting_fits}
use Rattle.roles.specs.Engine.{Role, kind_in, mark, total_in, Given, Segment}
use Rattle.roles.proofs.Steps.{Marks, settle_view}
use Rattle.roles.proofs.Told.{Told, settled}
use Rattle.plan.specs.declared.Plan.{Plan}
use Rattle.plan.specs.declared.Rest.{Rest}
use Rattle.plan.specs.Answers.{Over, accepted, over_eight}
use Rattle.plan.specs.Engine.{
  only_plan,
  plan_outcome,
  shared_to,
  kinds_of,
  plan_of,
  segment_of,
  glance_kind,
  glance_marks,
  role_sum,
  glance_of,
  with_kinds,
  over_in,
}
use Rattle.plan.proofs.Signs.{Lowest, Digit, marks_of, four_marks, lowest_over}
use Rattle.plan.proofs.Only.{whole_only}
use Rattle.plan.proofs.Laid.{laid_is}
use Rattle.plan.proofs.Value.{plan_is}

-- ---- a place of a segment, whichever the segment is
module _ (c : ℕ) (h : c < 7) where
  place_of : (p : ℕ) → p % 4 % span c ≡ p % span c
  place_of p = go (span c) (spans c h)
    where
      go : (n : ℕ) → (n ≡ 1) ⊎ ((n ≡ 2) ⊎ (n ≡ 4)) → p % 4 % n ≡ p % n
      go n (inl e) = rw e (omega arith)
      go n (inr (inl e)) = rw e (omega arith)
      go n (inr (inr e)) = rw e (omega arith)

  fitting_place : (p v : ℕ) → fitting c (p % 4) v ≡ fitting c p v
  unfolding fitting
  fitting_place p v = let e : p % 4 % 4 ≡ p % 4 = omega arith in rw (place_of p, e)

  share_place : (p q v : ℕ) → p % 4 ≡ q % 4 → share c p v ≡ share c q v
  unfolding share gives
  share_place p q v e = let f : p % span c ≡ q % span c = sym (place_of p) ∙ ap (λ (x : ℕ). x % span c) e ∙ place_of q in rw f

  -- the places of a resource, as places of a segment
  place_down : (p q : ℕ) → Place c p q → Place c (p % 4) (q % 4)
  place_down p q w = (go (span c) (spans c h) w.0, rw (place_of q) w.1)
    where
      go : (n : ℕ) → (n ≡ 1) ⊎ ((n ≡ 2) ⊎ (n ≡ 4)) → q / n ≡ p / n → q % 4 / n ≡ p % 4 / n
      go n (inl e) f = let g = rw e at f in rw e (omega arith)
      go n (inr (inl e)) f = let g = rw e at f in rw e (omega arith)
      go n (inr (inr e)) f = rw e (omega arith)

  place_up : (p i : ℕ) → i < 4 → Place c (p % 4) i → Place c p (4 * (p / 4) + i)
  place_up p i l w = (go (span c) (spans c h) w.0, rw (sym (place_of (4 * (p / 4) + i)) ∙ ap (λ (x : ℕ). x % span c) e) w.1)
    where
      e : (4 * (p / 4) + i) % 4 ≡ i
      e = omega arith

      go : (n : ℕ) → (n ≡ 1) ⊎ ((n ≡ 2) ⊎ (n ≡ 4)) → i / n ≡ p % 4 / n → (4 * (p / 4) + i) / n ≡ p / n
      go n (inl d) f = let g = rw d at f in rw d (omega arith)
      go n (inr (inl d)) f = let g = rw d at f in rw d (omega arith)
      go n (inr (inr d)) f = rw d (omega arith)

  -- its fields
  module _ (row : ℕ → ℕ) (s : ℕ) where
    shares_down : (x a m : ℕ) → shares x c row (4 * s + a) m ≡ shares x c (λ i. row (4 * s + i)) a m
    shares_down x a zero = refl
    shares_down x a (suc m) = rw (shares_down x a m, add_assoc (4 * s) a m) (ap (λ (k : ℕ). shares x c (λ i. row (4 * s + i)) a m + k) here)
      where
        e : (4 * s + (a + m)) % 2 ≡ (a + m) % 2
        e = omega arith

        here : channel_share x c (4 * s + (a + m)) (row (4 * s + (a + m))) ≡ channel_share x c (a + m) (row (4 * s + (a + m)))
        here = rw (e, share_place (4 * s + (a + m)) (a + m) (row (4 * s + (a + m))) (omega arith))

  together_down : (row : ℕ → ℕ) (p : ℕ) → together c row p ≡ together c (λ i. row (4 * (p / 4) + i)) (p % 4)
  unfolding fields_in
  together_down row p =
      let a = span c * (p % 4 / span c) in
      rw (begins, shares_down row (p / 4) 1 a (span c), shares_down row (p / 4) 2 a (span c))
    where
      begins : span c * (p / span c) ≡ 4 * (p / 4) + span c * (p % 4 / span c)
      begins = go (span c) (spans c h)
        where
          go : (n : ℕ) → (n ≡ 1) ⊎ ((n ≡ 2) ⊎ (n ≡ 4)) → n * (p / n) ≡ 4 * (p / 4) + n * (p % 4 / n)
          go n (inl e) = rw e (omega arith)
          go n (inr (inl e)) = rw e (omega arith)
          go n (inr (inr e)) = rw e (omega arith)

-- ---- past the row a value is 0, which no larger resource has
zero_test : ℕ → ℕ → Bool
zero_test c j = wherever (fitting c j 0) (eqb c 0)

zero_alone : (c j : ℕ) → c < 7 → j < 4 → fitting c j 0 ≡ true → c ≡ 0
unfolding zero_test fitting takes takes_block blank_at family span mask kind_at kinds smaller_at
zero_alone c j l m e =
    eqb→eq c 0 (met (fitting c j 0) (eqb c 0) (every_below (zero_test c) 4 (every_below (λ c. below (zero_test c) 4) 7 tt c l) j m) (holds _ e))

zero_none : (c p : ℕ) (row : ℕ → ℕ) → c ≡ 0 → row p ≡ 0 → together c row p ≡ 0
zero_none c p row e f = sym (total_alone c row p e) ∙ rw f (sym (share_alone p 0))

-- ---- the marks
marks_part : (r : ℕ → ℕ) (m s : ℕ) → s < m → (segment_of r s).marks ≤ glance_marks r m
unfolding glance_marks
marks_part r zero s l = absurd (omega arith)
marks_part r (suc m) s l =
    ⊎_elim (λ (k : s < m). let i = marks_part r m s k in omega arith)
    (λ (k : m ≤ s). let e : s ≡ m = omega arith in rw e (let i = once (segment_of r m).marks (2 ^ (4 * m)) (pow_pos (4 * m)) in omega arith))
    (below_or s m)
  where
    once : (x y : ℕ) → 0 < y → x ≤ x * y
    once x y g = let i = mul-le-mul_left {m = 1} {n = y} x g in omega (arith, mul-one x)

-- the sum of the bits of the first n positions that pass a test
abbrev bits_to : (ℕ → Bool) → ℕ → ℕ
bits_to t zero = 0
bits_to t (suc n) = bits_to t n + cond (t n) (2 ^ n) 0

bits_past : (t : ℕ → Bool) (n m : ℕ) → n ≤ m → ((p : ℕ) → n ≤ p → p < m → t p ≡ false) → bits_to t m ≡ bits_to t n
bits_past t n zero l f = let e : n ≡ 0 = omega arith in rw e
bits_past t n (suc m) l f =
    ⊎_elim (λ (k : n ≤ m). rw (f m k (omega arith)) (omega (arith, bits_past t n m k (λ p a b. f p a (omega arith)))))
    (λ (k : m < n). let e : n ≡ suc m = omega arith in rw e)
    (at_most n m)
  where
    at_most : (a b : ℕ) → (a ≤ b) ⊎ (b < a)
    at_most a b = ⊎_elim inr inl (below_or b a)

bits_same : (t : ℕ → Bool) (row : List ℕ) (n : ℕ) → ((p : ℕ) → p < n → t p ≡ shared (only_plan (at row)) (at row) p) → bits_to t n ≡ shared_to row n
unfolding shared_to
bits_same t row zero f = refl
bits_same t row (suc n) f = rw (bits_same t row n (λ p l. f p (omega arith)), f n (omega arith))

-- four positions at a time
times : (w x y z m : ℕ) → (w + 2 * x + 4 * y + 8 * z) * m ≡ w * m + 2 * (x * m) + 4 * (y * m) + 8 * (z * m)
times w x y z m =
    omega (
      arith,
      add-mul (w + 2 * x + 4 * y) (8 * z) m,
      add-mul (w + 2 * x) (4 * y) m,
      add-mul w (2 * x) m,
      mul_assoc 2 x m,
      mul_assoc 4 y m,
      mul_assoc 8 z m,
    )

one_bit : (t : Bool) (m k x n : ℕ) → x ≡ cond t 1 0 → n ≡ m * k → cond t n 0 ≡ k * (x * m)
one_bit true m k x n e f = rw (e, f) (omega (arith, mul_comm m k))
one_bit false m k x n e f = rw e (omega arith)

four_bits : (t : ℕ → Bool) (b w x y z : ℕ) → w ≡ cond (t (b + 0)) 1 0 → x ≡ cond (t (b + 1)) 1 0 → y ≡ cond (t (b + 2)) 1 0 → z ≡ cond (t (b + 3)) 1 0
    → bits_to t (b + 4) ≡ bits_to t b + (w + 2 * x + 4 * y + 8 * z) * 2 ^ b
four_bits t b w x y z e0 e1 e2 e3 = ap (bits_to t) f ∙ omega (arith, k0, k1, k2, k3, times w x y z (2 ^ b))
  where
    f : b + 4 ≡ suc (suc (suc (suc b)))
    f = omega arith

    g : b + 0 ≡ b
    g = omega arith

    at_1 : b + 1 ≡ suc b
    at_1 = omega arith

    at_2 : b + 2 ≡ suc (suc b)
    at_2 = omega arith

    at_3 : b + 3 ≡ suc (suc (suc b))
    at_3 = omega arith

    k0 : cond (t b) (2 ^ b) 0 ≡ 1 * (w * 2 ^ b)
    k0 = one_bit (t b) (2 ^ b) 1 w (2 ^ b) (e0 ∙ rw g) (omega arith)

    k1 : cond (t (suc b)) (2 ^ suc b) 0 ≡ 2 * (x * 2 ^ b)
    k1 = one_bit (t (suc b)) (2 ^ b) 2 x (2 ^ suc b) (e1 ∙ rw at_1) (ap (λ (k : ℕ). 2 ^ k) (sym at_1) ∙ pow-add 2 b 1)

    k2 : cond (t (suc (suc b))) (2 ^ suc (suc b)) 0 ≡ 4 * (y * 2 ^ b)
    k2 = one_bit (t (suc (suc b))) (2 ^ b) 4 y (2 ^ suc (suc b)) (e2 ∙ rw at_2) (ap (λ (k : ℕ). 2 ^ k) (sym at_2) ∙ pow-add 2 b 2)

    k3 : cond (t (suc (suc (suc b)))) (2 ^ suc (suc (suc b))) 0 ≡ 8 * (z * 2 ^ b)
    k3 = one_bit (t (suc (suc (suc b)))) (2 ^ b) 8 z (2 ^ suc (suc (suc b))) (e3 ∙ rw at_3) (ap (λ (k : ℕ). 2 ^ k) (sym at_3) ∙ pow-add 2 b 3)

-- ---- the fields of a channel, of positions with so many each
abbrev channel_to : ℕ → (ℕ → ℕ) → ℕ → ℕ
channel_to c f zero = 0
channel_to c f (suc n) = channel_to c f n + cond (eqb (n % 2 + 1) c) (f n) 0

module _ (c : ℕ) (f : ℕ → ℕ) where
  channel_past : (n m : ℕ) → n ≤ m → ((p : ℕ) → n ≤ p → p < m → f p ≡ 0) → channel_to c f m ≡ channel_to c f n
  channel_past n zero l g = let e : n ≡ 0 = omega arith in rw e
  channel_past n (suc m) l g = ⊎_elim
      (λ (k : m < n). let e : n ≡ suc m = omega arith in rw e)
      (λ (k : n ≤ m). omega (arith, nothing (eqb (m % 2 + 1) c) (f m) (g m k (omega arith)), channel_past n m k (λ p a b. g p a (omega arith))))
      (below_or m n)
    where
      nothing : (t : Bool) (x : ℕ) → x ≡ 0 → cond t x 0 ≡ 0
      nothing true x e = e
      nothing false x e = refl

  channel_same : (row : ℕ → ℕ) (n : ℕ) → ((p : ℕ) → p < n → f p ≡ fields_of (row p)) → channel_to c f n ≡ fields_to c row n
  channel_same row zero g = refl
  channel_same row (suc n) g = rw (channel_same row n (λ p l. g p (omega arith)), g n (omega arith))

  channel_most : ((p : ℕ) → f p ≤ 9) → (n : ℕ) → channel_to c f n ≤ 9 * n
  channel_most g zero = omega arith
  channel_most g (suc n) = go (eqb (n % 2 + 1) c) (channel_most g n)
    where
      go : (t : Bool) → channel_to c f n ≤ 9 * n → channel_to c f n + cond t (f n) 0 ≤ 9 * suc n
      go true l = omega (arith, g n)
      go false l = omega arith

-- the places i and i + 2 of a segment are channel i + 1's
channel_four : (i : ℕ) (f : ℕ → ℕ) (s : ℕ) → i < 2 → channel_to (i + 1) f (4 * s + 4) ≡ channel_to (i + 1) f (4 * s) + f (4 * s + i) + f (4 * s + (i + 2))
channel_four i f s l = ⊎_elim first second (below_or i 1)
  where
    b : ℕ
    b = 4 * s

    at_4 : b + 4 ≡ suc (suc (suc (suc b)))
    at_4 = omega arith

    at_0 : b + 0 ≡ b
    at_0 = omega arith

    at_1 : b + 1 ≡ suc b
    at_1 = omega arith

    at_2 : b + 2 ≡ suc (suc b)
    at_2 = omega arith

    at_3 : b + 3 ≡ suc (suc (suc b))
    at_3 = omega arith

    first : i < 1 → channel_to (i + 1) f (b + 4) ≡ channel_to (i + 1) f b + f (b + i) + f (b + (i + 2))
    first k =
        let z : i ≡ 0 = omega arith in
        rw (
          z,
          at_4,
          at_0,
          at_2,
          eq-eqb (b % 2 + 1) 1 (omega arith),
          ne_eqb (suc b % 2 + 1) 1 (λ h. omega arith),
          eq-eqb (suc (suc b) % 2 + 1) 1 (omega arith),
          ne_eqb (suc (suc (suc b)) % 2 + 1) 1 (λ h. omega arith),
        ) (omega arith)

    second : 1 ≤ i → channel_to (i + 1) f (b + 4) ≡ channel_to (i + 1) f b + f (b + i) + f (b + (i + 2))
    second k =
        let z : i ≡ 1 = omega arith in
        rw (
          z,
          at_4,
          at_1,
          at_3,
          ne_eqb (b % 2 + 1) 2 (λ h. omega arith),
          eq-eqb (suc b % 2 + 1) 2 (omega arith),
          ne_eqb (suc (suc b) % 2 + 1) 2 (λ h. omega arith),
          eq-eqb (suc (suc (suc b)) % 2 + 1) 2 (omega arith),
        ) (omega arith)

mark_most : (t : ℕ) → mark t ≤ 1
mark_most t = go (leb 2 t)
  where
    go : (b : Bool) → cond b 1 0 ≤ 1
    go true = omega arith
    go false = omega arith

-- ---- a row and its roles
abbrev pub fields_at : List ℕ → ℕ → ℕ
fields_at row p = cond (ltb p (length row)) (fields_of (at row p)) 0

module _ (row roles : List ℕ) (short : length row ≤ 16) (cast : (p : ℕ) → p < 16 → Role (at row p) (fields_at row p) (at roles p)) where
  abbrev n : ℕ
  n = length row

  abbrev o : ℕ → ℕ
  o = glance_kind (at roles)

  abbrev kinds_at : ℕ → ℕ
  kinds_at s = (segment_of (at roles) s).kinds

  abbrev marks_at : ℕ → ℕ
  marks_at s = (segment_of (at roles) s).marks

  -- the values of segment s by their places
  abbrev values_of : ℕ → ℕ → ℕ
  values_of s j = at row (4 * s + j)

  told : (s : ℕ) (l : s < (n + 3) / 4)
      → Told (values_of s) (λ j. fields_at row (4 * s + j)) (λ j. at roles (4 * s + j)) (λ j k. cast (4 * s + j) (omega arith)) (segment_of (at roles) s)
  unfolding segment_of
  told s l = settled (values_of s) (λ j. fields_at row (4 * s + j)) (λ j. at roles (4 * s + j)) (λ j k. cast (4 * s + j) (omega arith))

  -- ---- where every segment has a plan
  module _ (plans : (s : ℕ) → s < (n + 3) / 4 → Given (values_of s) (kinds_at s)) where
    here : (p : ℕ) → 4 * (p / 4) + p % 4 ≡ p
    here p = omega arith

    o_low : (p : ℕ) → p / 4 < (n + 3) / 4 → o p < 7
    unfolding glance_kind
    o_low p l = (plans (p / 4) l).low (p % 4) (omega arith)

    o_fits : (p : ℕ) → p / 4 < (n + 3) / 4 → fitting (o p) p (at row p) ≡ true
    unfolding glance_kind
    o_fits p l =
        let f = (plans (p / 4) l).fit (p % 4) (omega arith) in
        sym (fitting_place (o p) (o_low p l) p (at row p)) ∙ ap (λ (q : ℕ). fitting (o p) (p % 4) (at row q)) (sym (here p)) ∙ f

    -- past the row
    absent : (p : ℕ) → n ≤ p → p / 4 < (n + 3) / 4 → o p ≡ 0
    absent p l m =
        let z : at row p ≡ 0 = get_or-eq_default row 0 l in
        zero_alone (o p) (p % 4) (o_low p m) (omega arith)
        (fitting_place (o p) (o_low p m) p 0 ∙ ap (λ (v : ℕ). fitting (o p) p v) (sym z) ∙ o_fits p m)

    o_same : (p q : ℕ) → p / 4 < (n + 3) / 4 → Place (o p) p q → q / 4 ≡ p / 4 → o q ≡ o p
    unfolding glance_kind
    o_same p q l w e =
        let f = (plans (p / 4) l).entire (p % 4) (q % 4) (omega arith) (omega arith) (place_down (o p) (o_low p l) p q w) in
        rw e f

    -- no place of a resource is missing
    o_there : (p q : ℕ) → p < n → Place (o p) p q → q < n
    o_there p q l w =
        let e = place_segment (o p) p q (o_low p (omega arith)) w in
        ⊎_elim (λ k. k) (λ (k : n ≤ q). absurd (missing k e)) (below_or q n)
      where
        missing : n ≤ q → q / 4 ≡ p / 4 → ⊥
        missing k e =
            let z : o p ≡ 0 = sym (o_same p q (omega arith) w e) ∙ absent q k (omega arith) in
            let f = rw (z, span_0) at w.0 in
            omega arith

    o_named : (p : ℕ) → p < n → must_name (o p) ≡ true → (q : ℕ) × Place (o p) p q × (at row q / 8 ≡ family (o p))
    unfolding glance_kind
    o_named p u m =
        let w = (plans (p / 4) (omega arith)).named (p % 4) (omega arith) m in
        (4 * (p / 4) + w.0, place_up (o p) (o_low p (omega arith)) p w.0 w.1 w.2, w.3)

    pub signals : Signals o (at row) 0 n
    signals = record {
      fits = λ p l u. fitting_fits (o p) p (at row p) (o_fits p (omega arith));
      entire = λ p q l u w.
          (omega arith, o_there p q u w, o_same p q (omega arith) w (place_segment (o p) p q (o_low p (omega arith)) w));
      named = λ p l u m. o_named p u m;
    }

    total : (p : ℕ) → p / 4 < (n + 3) / 4 → together (o p) (at row) p ≡ together (o p) (λ i. at row (4 * (p / 4) + i)) (p % 4)
    total p l = together_down (o p) (o_low p l) (at row) p

  -- ---- where every segment's roles tell
  module _ (good : glance_marks (at roles) ((length row + 3) / 4) < 65536) where
    abbrev Whole : ℕ → Type 0
    Whole s = Segment (values_of s) (kinds_at s) (marks_at s) × ((j : ℕ) → j < 4 → at roles (4 * s + j) % 256 ≡ fields_at row (4 * s + j))

    whole : (s : ℕ) → s < (n + 3) / 4 → Whole s
    whole s l = let m = marks_part (at roles) ((n + 3) / 4) s l in (told s l).whole (omega arith)

    given : (s : ℕ) → s < (n + 3) / 4 → Given (values_of s) (kinds_at s)
    given s l = (whole s l).0.given

    pub eight : Eight o (at row) 0 n
    unfolding glance_kind
    eight p l u = let e = total given p (omega arith) in let f = (whole (p / 4) (omega arith)).0.eight (p % 4) (omega arith) in rw e f

    -- ---- the parts of the plan
    only : (p : ℕ) → p < n → o p ≡ only_plan (at row) p
    only = whole_only row o (signals given)

    passed : (Ok tt) ≡ plan_outcome row
    passed = laid_is row (Ok tt) (accepted (o, signals given, eight))

    zeros : (m i : ℕ) → ◌≡◌ {A = ℕ} (get_or (replicate m 0) i 0) 0
    zeros zero i = refl
    zeros (suc m) zero = refl
    zeros (suc m) (suc i) = zeros m i

    kinds_are : filled o (4 * ((n + 3) / 4)) (replicate 16 0) ≡ kinds_of row
    unfolding kinds_of
    kinds_are =
        filled_is (only_plan (at row)) 0 n (filled o m w) w (filled_length o m w (omega (arith, length-replicate {A = ℕ} 16 0)))
        (omega (arith, length-replicate {A = ℕ} 16 0))
        (λ i l. get_d_filled o m w i 0 (omega arith) ∙ only i l)
        (λ i l.
        ⊎_elim (λ (k : i < m). get_d_filled o m w i 0 k ∙ absent given i l (omega arith) ∙ sym (zeros 16 i)) (λ (k : m ≤ i). get_d_kept o m w i 0 k)
        (below_or i m))
      where
        m : ℕ
        m = 4 * ((n + 3) / 4)

        w : List ℕ
        w = replicate 16 0

    -- a position's mark
    abbrev two : ℕ → Bool
    two p = leb 2 (together (o p) (at row) p)

    two_place : (s j : ℕ) → s < (n + 3) / 4 → j < 4 → mark (together (kind_in (kinds_at s) j) (λ i. at row (4 * s + i)) j) ≡ cond (two (4 * s + j)) 1 0
    unfolding glance_kind
    two_place s j l k =
        let a : (4 * s + j) / 4 ≡ s = omega arith in
        let b : (4 * s + j) % 4 ≡ j = omega arith in
        let e : together (o (4 * s + j)) (at row) (4 * s + j) ≡ together (kind_in (kinds_at s) j) (λ i. at row (4 * s + i)) j =
        total given (4 * s + j) (omega arith) ∙ rw (a, b) in
        sym (ap mark e)

    marks_are : (s : ℕ) → s ≤ (n + 3) / 4 → glance_marks (at roles) s ≡ bits_to two (4 * s)
    unfolding glance_marks
    marks_are zero l = refl
    marks_are (suc s) l =
        let e = (whole s (omega arith)).0.marks in
        let g = four_bits two (4 * s) _ _ _ _ (two_place s 0 (omega arith) (omega arith)) (two_place s 1 (omega arith) (omega arith))
        (two_place s 2 (omega arith) (omega arith)) (two_place s 3 (omega arith) (omega arith)) in
        let f : 4 * suc s ≡ 4 * s + 4 = omega arith in
        rw (marks_are s (omega arith), e, f) (sym g)

    shared_is : glance_marks (at roles) ((n + 3) / 4) ≡ shared_to row n
    shared_is =
        marks_are ((n + 3) / 4) (omega arith)
        ∙ bits_past two n (4 * ((n + 3) / 4)) (omega arith) (λ p l u. none p l (omega arith))
        ∙ bits_same two row n (λ p l. ap (λ (c : ℕ). leb 2 (together c (at row) p)) (only p l))
      where
        none : (p : ℕ) → n ≤ p → p / 4 < (n + 3) / 4 → two p ≡ false
        none p l u = rw (zero_none (o p) p (at row) (absent given p l u) (get_or-eq_default row 0 l))

    few : (p : ℕ) → fields_at row p ≤ 9
    few p = go (ltb p n)
      where
        go : (t : Bool) → cond t (fields_of (at row p)) 0 ≤ 9
        go true = fields_most (at row p)
        go false = omega arith

    sum_are : (i : ℕ) → i < 2 → (s : ℕ) → s ≤ (n + 3) / 4 → role_sum i (at roles) s % 256 ≡ channel_to (i + 1) (fields_at row) (4 * s)
    unfolding role_sum
    sum_are i h zero l = refl
    sum_are i h (suc s) l =
        let e = sum_are i h s (omega arith) in
        let a = (whole s (omega arith)).1 i (omega arith) in
        let b = (whole s (omega arith)).1 (i + 2) (omega arith) in
        let g = channel_four i (fields_at row) s h in
        let m = channel_most (i + 1) (fields_at row) few (4 * s) in
        let f : 4 * suc s ≡ 4 * s + 4 = omega arith in
        let k : channel_to (i + 1) (fields_at row) (4 * s) + fields_at row (4 * s + i) + fields_at row (4 * s + (i + 2)) < 256 =
        omega (arith, few (4 * s + i), few (4 * s + (i + 2))) in
        rw (f, g) (added (role_sum i (at roles) s) (at roles (4 * s + i)) (at roles (4 * s + (i + 2))) _ _ _ e a b k)
      where
        added : (x y z a b c : ℕ) → x % 256 ≡ a → y % 256 ≡ b → z % 256 ≡ c → a + b + c < 256 → (x + (y + z)) % 256 ≡ a + b + c
        added x y z a b c e f g l = omega arith

    fields_are : (i : ℕ) → i < 2 → role_sum i (at roles) ((n + 3) / 4) % 256 ≡ fields_to (i + 1) (at row) n
    fields_are i h =
        sum_are i h ((n + 3) / 4) (omega arith)
        ∙ channel_past (i + 1) (fields_at row) n (4 * ((n + 3) / 4)) (omega arith) (λ p l u. rw (le-ltb p n l))
        ∙ channel_same (i + 1) (fields_at row) (at row) n (λ p l. rw (lt-ltb p n l))

    pub glance_plan : glance_of n roles ≡ plan_of row
    unfolding glance_of
    glance_plan = plan_is row _ _ _ _ passed kinds_are shared_is (fields_are 0 (omega arith)) (fields_are 1 (omega arith))

  marks_view : (s : ℕ) → Marks (marks_at s)
  unfolding segment_of
  marks_view s = settle_view _ _ _ _

  -- the marks of the places are four bits
  few_marks : (s : ℕ) → s < (n + 3) / 4 → marks_at s < 65536 → marks_at s < 16
  few_marks s l m =
      let v = values_of s in
      let k = kinds_at s in
      omega (
        arith,
        ((told s l).whole m).0.marks,
        mark_most (total_in k v 0),
        mark_most (total_in k v 1),
        mark_most (total_in k v 2),
        mark_most (total_in k v 3),
      )

  digit : (s : ℕ) → Digit (marks_of (at roles) ((n + 3) / 4) s)
  digit s = ⊎_elim inside past (below_or s ((n + 3) / 4))
    where
      inside : s < (n + 3) / 4 → Digit (marks_of (at roles) ((n + 3) / 4) s)
      inside l = rw (lt-ltb s ((n + 3) / 4) l) (go (marks_view s))
        where
          go : Marks (marks_at s) → Digit (marks_at s)
          go (inl m) = let f = few_marks s l m in record { places = omega arith; sign = omega arith }
          go (inr (inl e)) = record { places = omega arith; sign = omega arith }
          go (inr (inr e)) = record { places = omega arith; sign = omega arith }

      past : (n + 3) / 4 ≤ s → Digit (marks_of (at roles) ((n + 3) / 4) s)
      past l = rw (le-ltb s ((n + 3) / 4) l) (record { places = omega arith; sign = omega arith })

  -- ---- where every segment has a plan, and some a resource over eight: the lowest such is 8's
  module _ (z : ℕ) (first : Lowest (marks_of (at roles) ((n + 3) / 4)) z) where
    -- the marks of a segment, and past the row
    marks_in : (s : ℕ) → s < (n + 3) / 4 → marks_of (at roles) ((n + 3) / 4) s ≡ marks_at s
    marks_in s l = rw (lt-ltb s ((n + 3) / 4) l)

    z_in : z < (n + 3) / 4
    z_in = ⊎_elim (λ l. l) (λ (l : (n + 3) / 4 ≤ z). absurd (first.there (rw (le-ltb z ((n + 3) / 4) l) refl))) (below_or z ((n + 3) / 4))

    z_past : 65536 < marks_at z
    z_past = go (marks_view z)
      where
        go : Marks (marks_at z) → 65536 < marks_at z
        go (inl l) = absurd (first.there (ap (λ (x : ℕ). x / 65536) (marks_in z z_in) ∙ omega arith))
        go (inr (inl e)) = absurd (first.never z first.inside (ap (λ (x : ℕ). x / 65536) (marks_in z z_in) ∙ omega arith))
        go (inr (inr e)) = omega arith

    none_before : (s : ℕ) → s < z → marks_at s < 65536
    none_before s l =
        let e : marks_at s / 65536 ≡ 0 = ap (λ (x : ℕ). x / 65536) (sym (marks_in s (omega (arith, z_in)))) ∙ first.before s l in
        omega arith

    over_given : (s : ℕ) → s < (n + 3) / 4 → Given (values_of s) (kinds_at s)
    over_given s l = go (marks_view s)
      where
        go : Marks (marks_at s) → Given (values_of s) (kinds_at s)
        go (inl m) = ((told s l).whole m).0.given
        go (inr (inl e)) = absurd (first.never s (omega arith) (ap (λ (x : ℕ). x / 65536) (marks_in s l) ∙ omega arith))
        go (inr (inr e)) = ((told s l).past (omega arith)).given

    -- the fields of a place
    place_total : (s j : ℕ) → s < (n + 3) / 4 → j < 4 → together (o (4 * s + j)) (at row) (4 * s + j) ≡ total_in (kinds_at s) (values_of s) j
    unfolding glance_kind
    place_total s j l k =
        let a : (4 * s + j) / 4 ≡ s = omega arith in
        let b : (4 * s + j) % 4 ≡ j = omega arith in
        total over_given (4 * s + j) (omega arith) ∙ rw (a, b)

    over_there : Over o row z
    over_there =
        let w = ((told z z_in).past z_past).past in
        let p = 4 * z + w.0 in
        let e = place_total z w.0 z_in w.1 in
        ⊎_elim (λ (l : p < n). (p, l, omega (arith, w.1), omega (arith, w.2)))
        (λ (l : n ≤ p).
        let a = absent over_given p l (omega (arith, w.1, z_in)) in
        absurd (omega (arith, w.2, zero_none (o p) p (at row) a (get_or-eq_default row 0 l))))
        (below_or p n)

    over_before : (s : ℕ) → s < z → Over o row s → ⊥
    over_before s l w =
        let p = w.0 in
        let q : 4 * s + p % 4 ≡ p = omega (arith, w.2) in
        let f = ((told s (omega (arith, z_in))).whole (none_before s l)).0.eight (p % 4) (omega arith) in
        let e = ap (λ (x : ℕ). together (o x) (at row) x) (sym q) ∙ place_total s (p % 4) (omega (arith, z_in)) (omega arith) in
        omega (arith, w.3, f, e)

    pub over_outcome : plan_outcome row ≡ Err (OverEightFields z)
    over_outcome = sym (laid_is row (Err (OverEightFields z)) (over_eight o (signals over_given) z over_there over_before))

pub told_plan : (row roles : List ℕ) → length row ≤ 16 → ((p : ℕ) → p < 16 → Role (at row p) (fields_at row p) (at roles p)) → (x : Plan)
    → x ≡ glance_of (length row) roles → x.shared < 65536 → x ≡ plan_of row
unfolding glance_of
told_plan row roles short cast x e l =
    let f : x.shared ≡ glance_marks (at roles) ((length row + 3) / 4) = ap (λ (p : Plan). p.shared) e in
    e ∙ (unfold glance_of in glance_plan row roles short cast (omega arith))

-- and where they tell so, the row has a plan with a resource over eight
pub told_over : (row roles : List ℕ) → length row ≤ 16 → ((p : ℕ) → p < 16 → Role (at row p) (fields_at row p) (at roles p)) → (x : Plan)
    → x ≡ glance_of (length row) roles → over_in x.shared < 4 → plan_outcome row ≡ Err (OverEightFields (over_in x.shared))
unfolding glance_of
told_over row roles short cast x e l =
    let k = (length row + 3) / 4 in
    let f : x.shared ≡ glance_marks (at roles) k = ap (λ (p : Plan). p.shared) e in
    over_outcome row roles short cast (over_in x.shared)
    (lowest_over (marks_of (at roles) k) (λ s _. digit row roles short cast s) x.shared (f ∙ four_marks (at roles) k (omega arith)) l)

pub glance_passes : (t : Rest) (kinds : List ℕ) (n : ℕ) (roles : List ℕ) → with_kinds t kinds ≡ glance_of n roles → t.outcome ≡ Ok tt
unfolding with_kinds glance_of
glance_passes t kinds n roles e = ap (λ (p : Plan). p.outcome) e
