-- Where the bits of a channel ran out whose common field is whole: in which field of which User block.
use mathlib.Core.Path.{◌≡◌, refl, sym, ◌∙◌, ap}
use mathlib.Core.Logic.{⊎_elim}
use mathlib.Core.Bool.{Bool, true, false, false≢true, cond, ◌&&◌}
use mathlib.Core.List.Memᴰ
use mathlib.Core.List.{List, [], ◌∷◌, Memᴰ}
use Prim.Native.Nat.{ℕ, suc, ◌+◌, ◌-◌, ◌*◌, ◌/◌, ◌%◌, ◌≤◌, ◌<◌}
use native.Mathlib.Omega.{arith}
use lib.Dec.{ltb}
use lib.ListN.{length}
use borrow.Author.Tests.{ltb-true, ltb-false}
use Rattle.channel.specs.Layout.{common, user_at, block_at, blocks, covered, end_of}
use Rattle.channel.specs.Fields.{Named, named_at, named_fields, nth_field, Has, OnList}
use Rattle.channel.proofs.Fields.{tiles, places_on_list}
use Rattle.faults.specs.Checks.{short_users}
use Rattle.faults.specs.RanOut.{ran_out_at}
use Rattle.faults.proofs.RanOut.{did_not_fit}

-- ---- the place is the first bit of the field that has the first bit that is not lent
on_list : (f : Named) (fs : List Named) → Memᴰ f fs → (k : ℕ) × (nth_field fs k ≡ f)
on_list f [] m = absurd (Memᴰ.not-nil m)
on_list f (x ∷ fs) m = ⊎_elim (λ e. (0, sym e)) (λ l. let w = on_list f fs l in (suc w.0, w.1)) (Memᴰ.cases_cons m)

pub ran_out_in : (bw n : ℕ) (s : List ℕ) (at w : ℕ) → 8 * length s < end_of bw n → OnList bw n at w → at ≤ 8 * length s → 8 * length s < at + w
    → at ≡ ran_out_at s (named_fields bw n)
ran_out_in bw n s at w l m i j =
    let a = on_list (named_at at w) (named_fields bw n) m in
    let f = did_not_fit bw n s l in
    let h : Has (nth_field (named_fields bw n) a.0) (8 * length s) = rw a.1 (record { from = i; below = j }) in
    let e = (tiles bw n).in_no_other (8 * length s) a.0 f.0 h f.2.has_first_missing in
    ap (λ (x : Named). x.first) (sym a.1) ∙ ap (λ (k : ℕ). (nth_field (named_fields bw n) k).first) e ∙ sym f.3

-- what 9's test says
pub users_short : (bw n : ℕ) (s : List ℕ) → short_users bw n s ≡ true → 8 * length s < end_of bw n
users_short bw n s e = go (ltb 0 n) e
  where
    go : (t : Bool) → t && ltb (8 * length s) (end_of bw n) ≡ true → 8 * length s < end_of bw n
    go true f = ltb-true (8 * length s) (end_of bw n) f
    go false f = absurd (false≢true f)

-- ---- which field that is, in block b at its bit r, past the x bits of the common field
module _ (bw n : ℕ) (s : List ℕ) (l : common bw ≤ 8 * length s) (m : 8 * length s < end_of bw n) (x : ℕ) (e : x ≡ common bw) where
  abbrev past : ℕ
  past = 8 * length s - x

  abbrev b : ℕ
  b = past / 54

  abbrev r : ℕ
  r = past % 54

  pub block_there : b < blocks n
  unfolding blocks end_of
  block_there = omega arith

  pub in_block : r < covered n b + 10
  unfolding covered end_of
  in_block = go (ltb (2 * b + 1) n) refl
    where
      go : (t : Bool) → ltb (2 * b + 1) n ≡ t → r < cond t 44 22 + 10
      go true f = omega arith
      go false f = let h : n ≤ 2 * b + 1 = ltb-false (2 * b + 1) n f in omega arith

  pub in_first : r < 22 → block_at bw b ≡ ran_out_at s (named_fields bw n)
  unfolding blocks end_of user_at block_at
  in_first h =
      let f : user_at bw (2 * b) ≡ block_at bw b = omega arith in
      sym f ∙ ran_out_in bw n s (user_at bw (2 * b)) 22 m ((places_on_list bw n).user (2 * b) (omega arith)) (omega arith) (omega arith)

  -- with y, the bits that its check covers
  module _ (y : ℕ) (g : y ≡ covered n b) where
    pub in_second : 22 ≤ r → r < y → block_at bw b + 22 ≡ ran_out_at s (named_fields bw n)
    unfolding covered user_at block_at
    in_second h k = go (ltb (2 * b + 1) n) refl g
      where
        go : (t : Bool) → ltb (2 * b + 1) n ≡ t → y ≡ cond t 44 22 → block_at bw b + 22 ≡ ran_out_at s (named_fields bw n)
        go true f z =
            let at : user_at bw (2 * b + 1) ≡ block_at bw b + 22 = omega arith in
            sym at
            ∙ ran_out_in bw n s (user_at bw (2 * b + 1)) 22 m ((places_on_list bw n).user (2 * b + 1) (ltb-true (2 * b + 1) n f)) (omega arith) (omega arith)
        go false f z = absurd (omega arith)

    pub in_check : y ≤ r → r < y + 4 → block_at bw b + y ≡ ran_out_at s (named_fields bw n)
    unfolding block_at
    in_check h k =
        ap (λ (z : ℕ). block_at bw b + z) g
        ∙ ran_out_in bw n s (block_at bw b + covered n b) 4 m ((places_on_list bw n).block_check b block_there) (omega arith) (omega arith)

    pub in_tail : y + 4 ≤ r → block_at bw b + y + 4 ≡ ran_out_at s (named_fields bw n)
    unfolding block_at
    in_tail h =
        ap (λ (z : ℕ). block_at bw b + z + 4) g
        ∙ ran_out_in bw n s (block_at bw b + covered n b + 4) 6 m ((places_on_list bw n).block_tail b block_there) (omega arith) (omega (arith, in_block))
