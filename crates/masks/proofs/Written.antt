-- The pairs at the front of the bytes that are found: each pair is stored past them, and is one of them where its masks meet.
use mathlib.Core.Path.{◌≡◌, sym, ◌∙◌, ap}
use mathlib.Core.Bool.{Bool, true, false, cond}
use mathlib.Core.List.{List, [], ◌∷◌, ◌++◌, append_assoc, append-nil}
use Prim.Native.Nat.{ℕ, suc, ◌+◌, ◌*◌, ◌/◌, ◌%◌, ◌≤◌, ◌<◌}
use native.Mathlib.Omega.{arith}
use native.Mathlib.Numerals.{add-one}
use mir.Val.{bool_byte}
use lib.ListN.{length, set, take, length-set}
use lib.Seq.{take-set-le, take-suc-set}
use Rattle.answer.specs.Tally.{tally}
use Rattle.masks.specs.Engine.{meet, hit, pairs_to}
use Rattle.masks.proofs.Rows.{hit_within, tally_most}

-- two bytes stored past the first t
two_more : (d : List ℕ) (t x y : ℕ) → t + 2 ≤ length d → take (t + 2) (set (set d t x) (t + 1) y) ≡ take t d ++ (x ∷ y ∷ [])
two_more d t x y l =
    let e = set d t x in
    let p : t + 2 ≡ suc (t + 1) = omega arith in
    let k : length e ≡ length d = length-set d t x in
    let f : take (t + 1) e ≡ take t d ++ (x ∷ []) = ap (λ (k : ℕ). take k e) (add-one t) ∙ take-suc-set d t x (omega arith) in
    ap (λ (k : ℕ). take k (set e (t + 1) y)) p
    ∙ take-suc-set e (t + 1) y (omega arith)
    ∙ ap (λ (z : List ℕ). z ++ (y ∷ [])) f
    ∙ append_assoc (take t d) (x ∷ []) (y ∷ [])

-- ---- pair 32 i + j, with the masks of entries i and j looked at; those before it end at t
module _ (m : ℕ → ℕ) (n i j t : ℕ) (h : i < j) (l : j < n) (k : n ≤ 32) (e : t ≡ 2 * tally (hit m n) (32 * i + j)) where
  next : 32 * i + j + 1 ≡ 32 * i + (j + 1)
  next = omega arith

  is_hit : {b : Bool} → b ≡ meet (m i) (m j) → hit m n (32 * i + j) ≡ b
  is_hit f = hit_within m n i j h l k ∙ sym f

  one_more : {b : Bool} → b ≡ meet (m i) (m j) → tally (hit m n) (32 * i + (j + 1)) ≡ tally (hit m n) (32 * i + j) + cond b 1 0
  one_more f = ap (tally (hit m n)) (sym next) ∙ rw (add-one (32 * i + j), is_hit f)

  -- there is room for two bytes more
  room : t + 2 ≤ 1024
  room = omega (arith, tally_most m n (32 * i + j) (omega arith))

  pub end_found : (b : Bool) → b ≡ meet (m i) (m j) → t + 2 * bool_byte b ≡ 2 * tally (hit m n) (32 * i + (j + 1))
  end_found true f = omega (arith, one_more f)
  end_found false f = omega (arith, one_more f)

  -- of the bytes d
  pub pairs_found : (d : List ℕ) (b : Bool) → b ≡ meet (m i) (m j) → length d ≡ 1024 → take t d ≡ pairs_to m n (32 * i + j)
      → take (t + 2 * bool_byte b) (set (set d t (i + 1)) (t + 1) (j + 1)) ≡ pairs_to m n (32 * i + (j + 1))
  unfolding pairs_to
  pairs_found d true f s p =
      let q : (32 * i + j) / 32 ≡ i = omega arith in
      let o : (32 * i + j) % 32 ≡ j = omega arith in
      two_more d t (i + 1) (j + 1) (omega (arith, room)) ∙ rw (← next, add-one (32 * i + j), is_hit f, q, o, p)
  pairs_found d false f s p =
      let z : t + 2 * bool_byte false ≡ t = omega arith in
      ap (λ (k : ℕ). take k (set (set d t (i + 1)) (t + 1) (j + 1))) z
      ∙ take-set-le t (set d t (i + 1)) (t + 1) (j + 1) (omega arith)
      ∙ take-set-le t d t (i + 1) (omega arith)
      ∙ rw (← next, add-one (32 * i + j), is_hit f, append-nil) p
