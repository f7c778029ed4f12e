-- Hex digits, and pairs of them up to a line feed: what they are read to, and that nothing else is read.
use mathlib.Core.Path.{◌≡◌, refl, sym, ap, ◌∙◌}
use mathlib.Core.Bool.{Bool, true, false, cond}
use mathlib.Core.List.{List, [], ◌∷◌, ◌++◌}
use Prim.Native.Nat.{ℕ, zero, suc, ◌+◌, ◌*◌, ◌/◌, ◌%◌, ◌≤◌, ◌<◌}
use native.Mathlib.Nat.{add-zero}
use native.Mathlib.Omega.{arith}
use borrow.Author.Tests.{lt-ltb, le-ltb, ne_eqb, ltb-true, ltb-false, eqb-true, eqb-false}
use lib.Dec.{ltb, eqb}
use lib.ListN.{length, get_or}
use lib.Seq.{get_or-append-add}
use Rattle.answer.specs.Least.{least}
use Rattle.answer.proofs.Least.{least_all, equal_below}
use Rattle.answer.proofs.Lists.{build_is}
use Rattle.text.specs.Text.{codes}
use Rattle.std.specs.Prelude.{Some, None}
use Rattle.input.specs.Form.{Bytes, hex_digit, pairs}
use Rattle.input.specs.Engine.{hex_of, pick, hex_line, byte_of, bytes_at}

-- ---- hex digits: two rules computed at every digit, and at every byte that is one
hex_digit_lem : (v : ℕ) → v < 16 → hex_of (hex_digit v) ≡ v
unfolding hex_digit least
hex_digit_lem = equal_below (λ v. hex_of (hex_digit v)) (λ v. v) 16 refl

not_hex : (v : ℕ) → v < 16 → hex_digit v ≡ 10 → ⊥
unfolding hex_digit least
not_hex v l = eqb-false _ _ (least_all (λ v. eqb (hex_digit v) 10) 16 refl v l)

high_hex : (c : ℕ) → 71 ≤ c → hex_of c ≡ 16
high_hex c l = rw (le-ltb c 48 (omega arith), le-ltb c 58 (omega arith), le-ltb c 65 (omega arith), le-ltb c 71 l)

digit_hex : (c : ℕ) → hex_of c < 16 → hex_digit (hex_of c) ≡ c
unfolding hex_digit least
digit_hex c l = go (ltb c 71) refl
  where
    go : (b : Bool) → ltb c 71 ≡ b → get_or (codes "0123456789ABCDEF") (hex_of c) 0 ≡ c
    go true e =
        ap (λ (b : Bool). cond b (get_or (codes "0123456789ABCDEF") (hex_of c) 0) c) (sym (lt-ltb (hex_of c) 16 l))
        ∙ equal_below (λ c. cond (ltb (hex_of c) 16) (get_or (codes "0123456789ABCDEF") (hex_of c) 0) c) (λ c. c) 71 refl c (ltb-true c 71 e)
    go false e = absurd (omega (arith, high_hex c (ltb-false c 71 e)))

-- ---- pairs of hex digits up to a line feed
byte_at : (a : List ℕ) → Bytes a → (i : ℕ) → i < length a → get_or a i 0 < 256
byte_at [] h i l = absurd (omega arith)
byte_at (x ∷ a) h zero l = h.0
byte_at (x ∷ a) h (suc i) l = byte_at a h.1 i (omega arith)

pub length_pairs : (a : List ℕ) → length (pairs a) ≡ 2 * length a
length_pairs [] = refl
length_pairs (x ∷ a) = let h = length_pairs a in omega arith

pub hex_line_pairs : (a rest : List ℕ) (n : ℕ) → Bytes a → hex_line (pairs a ++ (10 ∷ rest)) n ≡ Some (n + length a)
hex_line_pairs [] [] n h = ap Some (sym (add-zero n))
hex_line_pairs [] (y ∷ rest) n h = ap Some (sym (add-zero n))
hex_line_pairs (x ∷ a) rest n h =
    let i : x / 16 < 16 = omega (arith, h.0) in
    let j : x % 16 < 16 = omega arith in
    let u : hex_of (hex_digit (x / 16)) < 16 = rw (hex_digit_lem (x / 16) i) i in
    let v : hex_of (hex_digit (x % 16)) < 16 = rw (hex_digit_lem (x % 16) j) j in
    let r : hex_line (pairs a ++ (10 ∷ rest)) (suc n) ≡ Some (suc n + length a) = hex_line_pairs a rest (suc n) h.1 in
    rw (ne_eqb (hex_digit (x / 16)) 10 (not_hex (x / 16) i), lt-ltb (hex_of (hex_digit (x / 16))) 16 u, lt-ltb (hex_of (hex_digit (x % 16))) 16 v)
    (r ∙ ap Some (omega arith))

-- what n - j pairs and a line feed before the rest hold
pub record Held (l : List ℕ) (j n : ℕ) : Type 0 where
  pub bytes : List ℕ
  pub rest : List ℕ
  pub are_bytes : Bytes bytes
  pub is : l ≡ pairs bytes ++ (10 ∷ rest)
  pub many : n ≡ j + length bytes

pub bad_pairs : {A : Type 0} {n : ℕ} → None ≡ Some n → A
bad_pairs e = let z : ◌≡◌ {A = ℕ} 0 1 = cc in absurd (omega arith)

pub hex_line_held : (l : List ℕ) (j n : ℕ) → hex_line l j ≡ Some n → Held l j n
hex_line_held [] j n e = bad_pairs e
hex_line_held (x ∷ []) j n e = go (eqb x 10) refl e
  where
    go : (b : Bool) → eqb x 10 ≡ b → pick b (Some j) None ≡ Some n → Held (x ∷ []) j n
    go true f e =
        record {
          bytes = [];
          rest = [];
          are_bytes = tt;
          is = ap (λ (y : ℕ). y ∷ []) (eqb-true x 10 f);
          many = let k : j ≡ n = cc in omega arith;
        }
    go false f e = bad_pairs e
hex_line_held (x ∷ y ∷ l) j n e = go (eqb x 10) (ltb (hex_of x) 16) (ltb (hex_of y) 16) refl refl refl (hex_line_held l (suc j) n) e
  where
    more : hex_of x < 16 → hex_of y < 16 → Held l (suc j) n → Held (x ∷ y ∷ l) j n
    more p q h =
        let v = 16 * hex_of x + hex_of y in
        let hi : v / 16 ≡ hex_of x = omega arith in
        let lo : v % 16 ≡ hex_of y = omega arith in
        record {
          bytes = v ∷ h.bytes;
          rest = h.rest;
          are_bytes = (omega arith, h.are_bytes);
          is =
              ap (λ (k : ℕ). k ∷ y ∷ l) (sym (digit_hex x p) ∙ ap hex_digit (sym hi))
              ∙ ap (λ (k : ℕ). hex_digit (v / 16) ∷ k ∷ l) (sym (digit_hex y q) ∙ ap hex_digit (sym lo))
              ∙ ap (λ (k : List ℕ). hex_digit (v / 16) ∷ hex_digit (v % 16) ∷ k) h.is;
          many = let k = h.many in omega arith;
        }

    go : (b c d : Bool) → eqb x 10 ≡ b → ltb (hex_of x) 16 ≡ c → ltb (hex_of y) 16 ≡ d → (hex_line l (suc j) ≡ Some n → Held l (suc j) n)
        → pick b (Some j) (pick c (pick d (hex_line l (suc j)) None) None) ≡ Some n → Held (x ∷ y ∷ l) j n
    go true c d f g k ih e =
        record {
          bytes = [];
          rest = y ∷ l;
          are_bytes = tt;
          is = ap (λ (z : ℕ). z ∷ y ∷ l) (eqb-true x 10 f);
          many = let k : j ≡ n = cc in omega arith;
        }
    go false true true f g k ih e = more (ltb-true (hex_of x) 16 g) (ltb-true (hex_of y) 16 k) (ih e)
    go false true false f g k ih e = bad_pairs e
    go false false d f g k ih e = bad_pairs e

-- the bytes are had back by their places
pairs_high : (a rest : List ℕ) (i : ℕ) → i < length a → get_or (pairs a ++ rest) (2 * i) 0 ≡ hex_digit (get_or a i 0 / 16)
pairs_high [] rest i l = absurd (omega arith)
pairs_high (x ∷ a) rest zero l = refl
pairs_high (x ∷ a) rest (suc i) l =
    let e : 2 * suc i ≡ suc (suc (2 * i)) = omega arith in rw e (pairs_high a rest i (omega arith))

pairs_low : (a rest : List ℕ) (i : ℕ) → i < length a → get_or (pairs a ++ rest) (2 * i + 1) 0 ≡ hex_digit (get_or a i 0 % 16)
pairs_low [] rest i l = absurd (omega arith)
pairs_low (x ∷ a) rest zero l = refl
pairs_low (x ∷ a) rest (suc i) l =
    let e : 2 * suc i + 1 ≡ suc (suc (2 * i + 1)) = omega arith in rw e (pairs_low a rest i (omega arith))

pub bytes_back : (s pre a rest : List ℕ) (at : ℕ) → length pre ≡ at → Bytes a → s ≡ pre ++ (pairs a ++ rest) → bytes_at s at (length a) ≡ a
unfolding byte_of
bytes_back s pre a rest at e h q = sym (build_is (byte_of s at) 0 a (length a) refl one)
  where
    from : (k : ℕ) → get_or s (at + k) 0 ≡ get_or (pairs a ++ rest) k 0
    from k =
        ap (λ (l : List ℕ). get_or l (at + k) 0) q
        ∙ ap (λ (n : ℕ). get_or (pre ++ (pairs a ++ rest)) (n + k) 0) (sym e)
        ∙ get_or-append-add pre (pairs a ++ rest) k 0

    one : (i : ℕ) → i < length a → get_or a i 0 ≡ byte_of s at i
    one i l =
        let v = get_or a i 0 in
        let b : v < 256 = byte_at a h i l in
        let hi : hex_of (get_or s (at + 2 * i) 0) ≡ v / 16 = ap hex_of (from (2 * i) ∙ pairs_high a rest i l) ∙ hex_digit_lem (v / 16) (omega arith) in
        let f : get_or s (at + 2 * i + 1) 0 ≡ get_or (pairs a ++ rest) (2 * i + 1) 0 = ap (λ (k : ℕ). get_or s k 0) (omega arith) ∙ from (2 * i + 1) in
        let lo : hex_of (get_or s (at + 2 * i + 1) 0) ≡ v % 16 = ap hex_of (f ∙ pairs_low a rest i l) ∙ hex_digit_lem (v % 16) (omega arith) in
        let t : v ≡ (16 * (v / 16) + v % 16) % 256 = omega arith in
        t ∙ ap (λ (k : ℕ). (16 * k + v % 16) % 256) (sym hi) ∙ ap (λ (k : ℕ). (16 * hex_of (get_or s (at + 2 * i) 0) + k) % 256) (sym lo)
