-- Two resources of one bandwidth share a subcarrier exactly where they take one 26 in common.
--
-- The channel, counted from its lower edge, is cut into cells, one around each 26. A resource has subcarriers in no cell but those of the 26s
-- that it takes, and in each of these it has the 26's first: so no two resources have to be compared.
use mathlib.Core.Path.{◌≡◌, refl, sym, ◌∙◌, ap, ap₂}
use mathlib.Core.Logic.{inl, inr, ⊎_elim}
use mathlib.Core.Bool.{Bool, true, false, cond, ◌&&◌, ◌||◌}
use mathlib.Core.List.{List, [], ◌∷◌, map}
use Prim.Native.Nat.{ℕ, zero, suc, ◌+◌, ◌*◌, ◌/◌, ◌%◌, ◌^◌, ◌≤◌, ◌<◌}
use native.Mathlib.Nat.{pow-suc, zero-div}
use native.Mathlib.Decide.{ℕ_discrete}
use native.Mathlib.Omega.{arith}
use lib.Bits.{bit_and, and_shr, and_mod, and_le_l}
use lib.Dec.{T, ltb, ltb→lt, lt→ltb, leb, leb→le, le→leb, eqb, eqb→eq}
use lib.Pow.{shr-shr}
use mir.Facts.{and_yes, yes_and, or_yes}
use Rattle.resource.specs.declared.Size.TheVariants.{S26}
use Rattle.resource.specs.declared.Resource.TheVariants.{Single}
use Rattle.resource.specs.declared.Run.{Run}
use Rattle.resource.specs.Values.{set_at}
use Rattle.resource.specs.Index.{position_of, place_of, from_positions}
use Rattle.resource.specs.Tones.{Among, tones_of, tones_at, tones_leaving_out}
use Rattle.resource.specs.Engine.{signed, span_of, places_runs, runs_of, wide, wide_with26, narrow, narrow_with26}
use Rattle.resource.specs.Engine.{offset26, offset52, offset106, narrow26, narrow52, narrow106}
use Rattle.resource.proofs.Test.{below_or, both_left, both_right, wherever, met, below, every_below}
use Rattle.resource.proofs.Edge.{In, in_among, among_in, among_counted}
use Rattle.resource.proofs.Apart.{ascending, bounded}
use Rattle.resource.proofs.Agree.{AgreesAt, agrees_test, tested_agrees}
use Rattle.trigger_values.specs.Values.{named, resource_of, reaches, taken}
use Rattle.trigger_values.proofs.Back.{named_low, taken_named}
use Rattle.overlaps.specs.Overlaps.{Share}
use Rattle.masks.specs.Engine.{mask_of}

-- ---- bits
abbrev bit : ℕ → ℕ → ℕ
bit m s = m / 2 ^ s % 2

and_bit : (a b s : ℕ) → bit (bit_and a b) s ≡ bit_and (bit a s) (bit b s)
and_bit a b s = ap (λ (x : ℕ). x % 2) (and_shr a b s) ∙ and_mod (a / 2 ^ s) (b / 2 ^ s) 1

both_set : (x y : ℕ) → x < 2 → y < 2 → bit_and x y ≡ 1 → (x ≡ 1) × (y ≡ 1)
both_set zero y l m e = absurd (omega (arith, e))
both_set (suc zero) zero l m e = absurd (omega (arith, e))
both_set (suc zero) (suc zero) l m e = (refl, refl)
both_set (suc zero) (suc (suc y)) l m e = absurd (omega arith)
both_set (suc (suc x)) y l m e = absurd (omega arith)

zero_bit : (s : ℕ) → bit 0 s ≡ 0
zero_bit s = ap (λ (x : ℕ). x % 2) (zero-div (2 ^ s))

half_bit : (m s : ℕ) → bit m (suc s) ≡ bit (m / 2) s
half_bit m s =
    let e : suc s ≡ 1 + s = omega arith in
    ap (λ (x : ℕ). m / 2 ^ x % 2) e ∙ ap (λ (x : ℕ). x % 2) (sym (shr-shr m 1 s))

-- a number that is not 0 has a bit set
some_bit : (k m : ℕ) → m < 2 ^ k → (m ≡ 0 → ⊥) → (s : ℕ) × (s < k) × (bit m s ≡ 1)
some_bit zero m l n = absurd (n (omega arith))
some_bit (suc k) m l n = go (ℕ_discrete (m % 2) 1) (some_bit k (m / 2))
  where
    go : Dec (m % 2 ≡ 1) → (m / 2 < 2 ^ k → (m / 2 ≡ 0 → ⊥) → (s : ℕ) × (s < k) × (bit (m / 2) s ≡ 1)) → (s : ℕ) × (s < suc k) × (bit m s ≡ 1)
    go (yes e) ih = (0, omega arith, omega arith)
    go (no e) ih =
        let r = ih (omega (arith, pow-suc 2 k)) (λ z. n (omega arith)) in
        (suc r.0, omega (arith, r.1), half_bit m r.0 ∙ r.2)

-- ---- cells
-- the runs of the 26 of cell s, in a channel of n positions
abbrev runs26 : ℕ → ℕ → List Run
runs26 n s = runs_of n 0 (Single S26 (cond (ltb s 18) (s + 1) (s + 2)))

abbrev start : List Run → ℕ
start [] = 0
start (r ∷ rs) = r.lo

-- the first subcarrier of the 26 of cell s; where the cell begins: there, but at the edge of a position for the first of its nine
abbrev first : ℕ → ℕ → ℕ
first n s = start (runs26 n s)

unfoldable low : ℕ → ℕ → ℕ
low n s = cond (eqb (s % 9) 0) (256 * (s / 9)) (first n s)

low_start : (n : ℕ) → low n 0 ≡ 0
unfolding low
low_start n = refl

low_end : (n : ℕ) → low n (9 * n) ≡ 256 * n
unfolding low
low_end n =
    let z : 9 * n % 9 ≡ 0 = omega arith in
    let q : 9 * n / 9 ≡ n = omega arith in
    rw (z, q)

-- a number between the first cell's lower edge and the last one's upper edge lies in a cell
in_cell : (f : ℕ → ℕ) (k u : ℕ) → f 0 ≤ u → u < f k → (s : ℕ) × (s < k) × (f s ≤ u) × (u < f (suc s))
in_cell f zero u l h = absurd (omega arith)
in_cell f (suc k) u l h =
    ⊎_elim
    (λ (i : u < f k). let r = in_cell f k u l i in (r.0, omega (arith, r.1), r.2, r.3))
    (λ (i : f k ≤ u). (k, omega arith, i, h))
    (below_or u (f k))

-- ---- the cells of a resource with runs rs and mask m
-- a run that has subcarriers in cell s has its bit
abbrev only_set : ℕ → ℕ → ℕ → List Run → Bool
only_set n m s [] = true
only_set n m s (r ∷ rs) = wherever (ltb r.lo (low n (suc s)) && leb (low n s) r.hi) (set_at s m) && only_set n m s rs

abbrev inb : ℕ → List Run → Bool
inb u [] = false
inb u (r ∷ rs) = (leb r.lo u && leb u r.hi) || inb u rs

abbrev cell_test : ℕ → ℕ → List Run → ℕ → Bool
cell_test n m rs s = only_set n m s rs && wherever (set_at s m) (inb (first n s) rs)

abbrev cells_test : ℕ → ℕ → List Run → Bool
cells_test n m rs = ltb m (2 ^ (9 * n)) && (ascending 0 (256 * n) rs && below (cell_test n m rs) (9 * n))

record Celled (n m : ℕ) (rs : List Run) : Type 0 where
  small : m < 2 ^ (9 * n)
  inside : (u : ℕ) → In u rs → u < 256 * n
  only : (s u : ℕ) → s < 9 * n → low n s ≤ u → u < low n (suc s) → In u rs → bit m s ≡ 1
  each : (s : ℕ) → s < 9 * n → bit m s ≡ 1 → In (first n s) rs

in_set : (n m s u : ℕ) (rs : List Run) → low n s ≤ u → u < low n (suc s) → T (only_set n m s rs) → In u rs → T (set_at s m)
in_set n m s u [] l h t i = absurd i
in_set n m s u (r ∷ rs) l h t (inl i) =
    let c = ltb r.lo (low n (suc s)) && leb (low n s) r.hi in
    met c (set_at s m) (both_left (wherever c (set_at s m)) (only_set n m s rs) t)
    (yes_and (ltb r.lo (low n (suc s))) (leb (low n s) r.hi)
    (lt→ltb r.lo (low n (suc s)) (omega arith)) (le→leb (low n s) r.hi (omega arith)))
in_set n m s u (r ∷ rs) l h t (inr i) =
    in_set n m s u rs l h (both_right (wherever (ltb r.lo (low n (suc s)) && leb (low n s) r.hi) (set_at s m)) (only_set n m s rs) t) i

in_tested : (u : ℕ) (rs : List Run) → T (inb u rs) → In u rs
in_tested u [] t = absurd t
in_tested u (r ∷ rs) t =
    ⊎_elim
    (λ h. let w = and_yes (leb r.lo u) (leb u r.hi) h in inl (leb→le r.lo u w.0, leb→le u r.hi w.1))
    (λ h. inr (in_tested u rs h))
    (or_yes (leb r.lo u && leb u r.hi) (inb u rs) t)

celled : (n m : ℕ) (rs : List Run) → T (cells_test n m rs) → Celled n m rs
celled n m rs t =
    let w = and_yes (ltb m (2 ^ (9 * n))) (ascending 0 (256 * n) rs && below (cell_test n m rs) (9 * n)) t in
    let z = and_yes (ascending 0 (256 * n) rs) (below (cell_test n m rs) (9 * n)) w.1 in
    let c : (s : ℕ) → s < 9 * n → T (only_set n m s rs) × T (wherever (set_at s m) (inb (first n s) rs))
    = λ s l. and_yes (only_set n m s rs) (wherever (set_at s m) (inb (first n s) rs)) (every_below (cell_test n m rs) (9 * n) z.1 s l) in
    record {
      small = ltb→lt m (2 ^ (9 * n)) w.0;
      inside = λ u i. (bounded (256 * n) 0 u rs z.0 i).1;
      only = λ s u l h k i. eqb→eq (bit m s) 1 (in_set n m s u rs h k (c s l).0 i);
      each = λ s l e. in_tested (first n s) rs (met (set_at s m) (inb (first n s) rs) (c s l).1 (rw e tt));
    }

-- ---- two of them
module _ (n a b : ℕ) (rs ss : List Run) (f : Celled n a rs) (g : Celled n b ss) where
  in_common : (bit_and a b ≡ 0 → ⊥) → (u : ℕ) × In u rs × In u ss
  in_common d =
      let m = bit_and a b in
      let l : m < 2 ^ (9 * n) = omega (arith, and_le_l a b, f.small) in
      let r = some_bit (9 * n) m l d in
      let e = both_set (bit a r.0) (bit b r.0) (omega arith) (omega arith) (sym (and_bit a b r.0) ∙ r.2) in
      (first n r.0, f.each r.0 r.1 e.0, g.each r.0 r.1 e.1)

  common_bit : (u : ℕ) → In u rs → In u ss → bit_and a b ≡ 0 → ⊥
  common_bit u i j e =
      let r = in_cell (low n) (9 * n) u (omega (arith, low_start n)) (omega (arith, low_end n, f.inside u i)) in
      let x = f.only r.0 u r.1 r.2 r.3 i in
      let y = g.only r.0 u r.1 r.2 r.3 j in
      let z : ◌≡◌ {A = ℕ} 0 1 = sym (ap (λ (m : ℕ). bit m r.0) e ∙ zero_bit r.0) ∙ and_bit a b r.0 ∙ ap₂ bit_and x y in
      omega arith

-- ---- what the bandwidth takes
abbrev runs : ℕ → ℕ → List Run
runs bw v = runs_of (2 ^ bw) 0 (resource_of v)

abbrev value_test : ℕ → ℕ → Bool
value_test bw v = wherever (taken bw v) (agrees_test (2 ^ bw) 0 (resource_of v) && cells_test (2 ^ bw) (mask_of v) (runs bw v))

tested : T (below (λ bw. below (value_test bw) 94) 3)
unfolding low named reaches taken resource_of mask_of position_of place_of from_positions tones_of tones_at tones_leaving_out runs_of places_runs wide
    wide_with26
    narrow narrow_with26 offset26 offset52 offset106 narrow26 narrow52 narrow106
tested = tt

value_tested : (bw v : ℕ) → bw ≤ 2 → T (taken bw v) → AgreesAt (2 ^ bw) 0 (resource_of v) × Celled (2 ^ bw) (mask_of v) (runs bw v)
value_tested bw v l t =
    let n = 2 ^ bw in
    let r = resource_of v in
    let a = agrees_test n 0 r in
    let c = cells_test n (mask_of v) (runs bw v) in
    let w = met (taken bw v) (a && c)
    (every_below (value_test bw) 94 (every_below (λ bw. below (value_test bw) 94) 3 tested bw (omega arith)) v (named_low v (taken_named bw v t))) t in
    let u = and_yes a c w in
    (tested_agrees n 0 r u.0, celled n (mask_of v) (runs bw v) u.1)

module _ (bw v w : ℕ) (l : bw ≤ 2) (t : T (taken bw v)) (u : T (taken bw w)) where
  pub meeting_share : (bit_and (mask_of v) (mask_of w) ≡ 0 → ⊥) → Share bw (resource_of v) (resource_of w)
  meeting_share d =
      let p = value_tested bw v l t in
      let q = value_tested bw w l u in
      let r = in_common (2 ^ bw) (mask_of v) (mask_of w) (runs bw v) (runs bw w) p.1 q.1 d in (
        signed (2 ^ bw) r.0,
        rw p.0.tones (in_among (2 ^ bw) r.0 (runs bw v) r.1),
        rw q.0.tones (in_among (2 ^ bw) r.0 (runs bw w) r.2),
      )

  pub share_meeting : Share bw (resource_of v) (resource_of w) → bit_and (mask_of v) (mask_of w) ≡ 0 → ⊥
  share_meeting (k, i, j) e =
      let n = 2 ^ bw in
      let p = value_tested bw v l t in
      let q = value_tested bw w l u in
      let x : Among k (map (span_of n) (runs bw v)) = rw p.0.tones at i in
      let y : Among k (map (span_of n) (runs bw w)) = rw q.0.tones at j in
      let c = among_counted n k (runs bw v) x in
      common_bit n (mask_of v) (mask_of w) (runs bw v) (runs bw w) p.1 q.1 c.0
      (among_in n c.0 (runs bw v) (rw c.1 at x)) (among_in n c.0 (runs bw w) (rw c.1 at y)) e
