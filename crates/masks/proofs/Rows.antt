-- A row of pairs, those with i for the earlier entry: they are pairs 32 i + j, of which those up to j = i and from j = n on are none.
use mathlib.Core.Path.{◌≡◌, refl, sym, ◌∙◌, ap}
use mathlib.Core.Bool.{Bool, true, false, ◌&&◌}
use mathlib.Core.List.{append-nil}
use Prim.Native.Nat.{ℕ, zero, suc, ◌+◌, ◌-◌, ◌*◌, ◌/◌, ◌%◌, ◌≤◌, ◌<◌}
use native.Mathlib.Omega.{arith}
use native.Mathlib.Nat.{add-zero, add-suc}
use mir.Val.{bool_byte}
use lib.Dec.{ltb}
use borrow.Author.Tests.{lt-ltb, le-ltb}
use Rattle.answer.specs.Tally.{tally}
use Rattle.answer.proofs.Tally.{tally_split, tally_none, tally_mono, tally_under}
use Rattle.masks.specs.Engine.{meet, hit, pairs_to}

pub hit_at : (m : ℕ → ℕ) (n i j : ℕ) → j < 32 → hit m n (32 * i + j) ≡ ((ltb i j && ltb j n) && meet (m i) (m j))
unfolding hit
hit_at m n i j l =
    let d : (32 * i + j) / 32 ≡ i = omega arith in
    let r : (32 * i + j) % 32 ≡ j = omega arith in
    rw (d, r)

pub hit_within : (m : ℕ → ℕ) (n i j : ℕ) → i < j → j < n → n ≤ 32 → hit m n (32 * i + j) ≡ meet (m i) (m j)
hit_within m n i j h l k = hit_at m n i j (omega arith) ∙ rw (lt-ltb i j h, lt-ltb j n l)

pub byte_le : (t : Bool) → bool_byte t ≤ 1
byte_le true = omega arith
byte_le false = omega arith

neither : (a b : Bool) → ((a && false) && b) ≡ false
neither true b = refl
neither false b = refl

-- where nothing is found, nothing is counted or written
pub tally_skip : (t : ℕ → Bool) (a b : ℕ) → a ≤ b → ((q : ℕ) → a ≤ q → q < b → t q ≡ false) → tally t a ≡ tally t b
tally_skip t a b l h =
    let s = tally_split t a (b - a) in
    let z = tally_none (λ k. t (a + k)) (b - a) (λ k m. h (a + k) (omega arith) (omega arith)) in
    let e : a + (b - a) ≡ b = omega arith in
    let w : tally t a ≡ tally t (a + (b - a)) = omega arith in
    w ∙ ap (tally t) e

pairs_more : (m : ℕ → ℕ) (n a k : ℕ) → ((q : ℕ) → a ≤ q → q < a + k → hit m n q ≡ false) → pairs_to m n a ≡ pairs_to m n (a + k)
unfolding pairs_to
pairs_more m n a zero h = rw (add-zero a)
pairs_more m n a (suc k) h =
    rw (add-suc a k, h (a + k) (omega arith) (omega arith), append-nil) (pairs_more m n a k (λ q i j. h q i (omega arith)))

pub pairs_skip : (m : ℕ → ℕ) (n a b : ℕ) → a ≤ b → ((q : ℕ) → a ≤ q → q < b → hit m n q ≡ false) → pairs_to m n a ≡ pairs_to m n b
pairs_skip m n a b l h =
    let e : a + (b - a) ≡ b = omega arith in
    pairs_more m n a (b - a) (λ q i j. h q i (omega arith)) ∙ ap (pairs_to m n) e

module _ (m : ℕ → ℕ) (n i : ℕ) (h : i < n) (k : n ≤ 32) where
  none_up_to : (q : ℕ) → 32 * i ≤ q → q < 32 * i + (i + 1) → hit m n q ≡ false
  none_up_to q a b =
      let j = q - 32 * i in
      let e : 32 * i + j ≡ q = omega arith in
      ap (hit m n) (sym e) ∙ hit_at m n i j (omega arith) ∙ rw (le-ltb i j (omega arith))

  none_from : (q : ℕ) → 32 * i + n ≤ q → q < 32 * (i + 1) → hit m n q ≡ false
  none_from q a b =
      let j = q - 32 * i in
      let e : 32 * i + j ≡ q = omega arith in
      ap (hit m n) (sym e) ∙ hit_at m n i j (omega arith) ∙ rw (le-ltb j n (omega arith)) (neither (ltb i j) (meet (m i) (m j)))

  pub tally_row_start : tally (hit m n) (32 * i) ≡ tally (hit m n) (32 * i + (i + 1))
  tally_row_start = tally_skip (hit m n) (32 * i) (32 * i + (i + 1)) (omega arith) none_up_to

  pub tally_row_end : tally (hit m n) (32 * i + n) ≡ tally (hit m n) (32 * (i + 1))
  tally_row_end = tally_skip (hit m n) (32 * i + n) (32 * (i + 1)) (omega arith) none_from

  pub pairs_row_start : pairs_to m n (32 * i) ≡ pairs_to m n (32 * i + (i + 1))
  pairs_row_start = pairs_skip m n (32 * i) (32 * i + (i + 1)) (omega arith) none_up_to

  pub pairs_row_end : pairs_to m n (32 * i + n) ≡ pairs_to m n (32 * (i + 1))
  pairs_row_end = pairs_skip m n (32 * i + n) (32 * (i + 1)) (omega arith) none_from

-- ---- no more than each two of 32 are hit
rising : ℕ → Bool
rising q = ltb (q / 32) (q % 32)

all_rising : tally rising 1024 ≡ 496
unfolding rising
all_rising = refl

hit_rising : (m : ℕ → ℕ) (n q : ℕ) → hit m n q ≡ true → rising q ≡ true
unfolding hit rising
hit_rising m n q e =
    let a = ltb (q / 32) (q % 32) in
    let b = ltb (q % 32) n in
    left_true a b (left_true (a && b) (meet (m (q / 32)) (m (q % 32))) e)
  where
    left_true : (a b : Bool) → a && b ≡ true → a ≡ true
    left_true true b e = refl
    left_true false b e = e

pub tally_most : (m : ℕ → ℕ) (n q : ℕ) → q ≤ 1024 → tally (hit m n) q ≤ 496
tally_most m n q h =
    up (tally_mono (hit m n) q 1024 h) (tally_under (hit m n) rising 1024 (λ k l. hit_rising m n k)) all_rising
  where
    up : {a b c d : ℕ} → a ≤ b → b ≤ c → c ≡ d → a ≤ d
    up h i e = omega arith
