-- The turns of the loops that read the text.
use mathlib.Core.Path.{◌≡◌, refl, sym, subst, ◌∙◌}
use mathlib.Core.Bool.{Bool, true, false, not, cond, ◌&&◌}
use mathlib.Core.List.{List, [], ◌∷◌}
use Prim.Native.Nat.{ℕ, suc, ◌+◌, ◌-◌, ◌≤◌, ◌<◌, zero-le, suc-le-suc}
use native.Mathlib.Nat.{add-zero}
use native.Mathlib.Numerals.{add-one}
use native.Mathlib.Omega.{arith}
use lib.Dec.{T, ltb, eqb}
use lib.ListN.{length, take, drop, get_or, length-drop}
use lib.Seq.{get_or-drop, drop-drop, take-length}
use borrow.Author.Tests.{lt-ltb, eq-eqb, ne_eqb, eqb-true, eqb-false}
use Rattle.std.specs.List.{starts_with}
use Rattle.input.proofs.Tests.{and_then}
use Rattle.std.specs.Prelude.{Option, Some, None}
use Rattle.input.specs.Engine.{hex_of, pick, hex_line, starts}

pick_same : {A : Type 0} (b : Bool) (s : A) → pick b s s ≡ s
pick_same true s = refl
pick_same false s = refl

-- one turn
turn : (l : List ℕ) (n : ℕ)
    → hex_line l n
    ≡ pick (eqb (get_or l 0 0) 10) (Some n) (pick (ltb (hex_of (get_or l 0 0)) 16) (pick (ltb (hex_of (get_or l 1 0)) 16) (hex_line (drop 2 l) (suc n)) None)
    None)
turn [] n = refl
turn (a ∷ []) n = rw (pick_same {A = Option ℕ} (ltb (hex_of a) 16) None)
turn (a ∷ b ∷ l) n = refl

pub hex_turn : (s : List ℕ) (i n : ℕ)
    → hex_line (drop i s) n
    ≡ pick (eqb (get_or s i 0) 10) (Some n)
    (pick (ltb (hex_of (get_or s i 0)) 16) (pick (ltb (hex_of (get_or s (i + 1) 0)) 16) (hex_line (drop (i + 2) s) (n + 1)) None) None)
hex_turn s i n = turn (drop i s) n ∙ rw (get_or-drop i s 0 0, get_or-drop i s 1 0, drop-drop 2 i s, add-zero i, add-one n)

module _ (s : List ℕ) (i n : ℕ) where
  pub hex_next : {r q : ℕ} → (get_or s i 0 ≡ 10 → ⊥) → r ≡ hex_of (get_or s i 0) → r < 16 → q ≡ hex_of (get_or s (i + 1) 0) → q < 16
      → hex_line (drop i s) n ≡ hex_line (drop (i + 2) s) (n + 1)
  hex_next {r} {q} ne e h e' h' =
      hex_turn s i n ∙ rw (ne_eqb (get_or s i 0) 10 ne, lt-ltb (hex_of (get_or s i 0)) 16 (rw e at h), lt-ltb (hex_of (get_or s (i + 1) 0)) 16 (rw e' at h'))

-- ---- keys

-- the library's test of a slice's start, of bytes
turned : (a b : ℕ) → eqb a b ≡ eqb b a
turned a b = go (eqb b a) refl
  where
    go : (t : Bool) → eqb b a ≡ t → eqb a b ≡ eqb b a
    go true e = eq-eqb a b (sym (eqb-true b a e)) ∙ sym e
    go false e = ne_eqb a b (λ q. eqb-false b a e (sym q)) ∙ sym e

both_cond : (a b : Bool) → a && b ≡ cond a b false
both_cond true b = refl
both_cond false b = refl

pub starts_bytes : (k l : List ℕ) → starts_with eqb l k ≡ starts k l
starts_bytes [] l = refl
starts_bytes (k ∷ ks) [] = refl
starts_bytes (k ∷ ks) (x ∷ l) = rw (starts_bytes ks l, turned k x) (both_cond (eqb x k) (starts ks l))

pub rest_whole : (i : ℕ) (s : List ℕ) → take (length s - i) (drop i s) ≡ drop i s
rest_whole i s = rw (← length-drop i s) (take-length (drop i s))

-- ---- what the tests tell

pub starts_room : (k l : List ℕ) → starts k l ≡ true → length k ≤ length l
starts_room [] l h = zero-le
starts_room (k ∷ ks) [] h = absurd (subst (λ (b : Bool). T (not b)) h tt)
starts_room (k ∷ ks) (x ∷ l) h = suc-le-suc (starts_room ks l (and_then (eqb x k) (starts ks l) h).1)

pub key_room : (k s : List ℕ) (at : ℕ) {r : Bool} → at ≤ length s → r ≡ starts k (drop at s) → r ≡ true → at + length k ≤ length s
key_room k s at l e h = let q = starts_room k (drop at s) (sym e ∙ h) in let d = length-drop at s in omega arith
