-- Keys and lines: what the three lines of a text hold, and that lines which are read are such lines.
use mathlib.Core.Path.{◌≡◌, refl, sym, ap, subst, ◌∙◌}
use mathlib.Core.Bool.{Bool, true, false, not}
use mathlib.Core.List.{List, [], ◌∷◌, ◌++◌, append_assoc}
use Prim.Native.Nat.{ℕ, ◌+◌, ◌-◌, ◌*◌, ◌≤◌, ◌<◌}
use native.Mathlib.Omega.{arith}
use borrow.Author.Tests.{lt-ltb, le-ltb, eq-eqb, ltb-true, ltb-false, eqb-true}
use lib.Dec.{T, ltb, eqb}
use lib.ListN.{length, drop, get_or, length-append}
use lib.Seq.{drop-cons, drop_at, drop-append_seam}
use Rattle.text.specs.Text.{codes}
use Rattle.std.specs.Prelude.{Some, None}
use Rattle.input.specs.Form.{Bytes, pairs, line1, line2, line3, text_of}
use Rattle.input.specs.Engine.{pick, hex_line, starts, keyed, line_bw}
use Rattle.input.proofs.Pairs.{length_pairs, hex_line_pairs, Held, bad_pairs, hex_line_held}
use Rattle.input.proofs.Tests.{and_then, not_then, at_ten}

-- ---- keys and lines
starts_append : (k l : List ℕ) → starts k (k ++ l) ≡ true
starts_append [] l = refl
starts_append (x ∷ k) l = rw (eq-eqb x x refl) (starts_append k l)

starts_is : (k l : List ℕ) → starts k l ≡ true → l ≡ k ++ drop (length k) l
starts_is [] l e = refl
starts_is (x ∷ k) [] e = absurd (subst (λ (b : Bool). T (not b)) e tt)
starts_is (x ∷ k) (y ∷ l) e =
    let h = and_then (eqb y x) (starts k l) e in
    ap (λ (z : ℕ). z ∷ l) (eqb-true y x h.0) ∙ ap (λ (m : List ℕ). x ∷ m) (starts_is k l h.1)

-- a line of pairs with its key
keyed_line : (k a rest : List ℕ) → Bytes a → keyed k (k ++ (pairs a ++ (10 ∷ rest))) ≡ Some (length a)
keyed_line k a rest h =
    rw (starts_append k (pairs a ++ (10 ∷ rest)), drop-append_seam k (pairs a ++ (10 ∷ rest)))
    (hex_line_pairs a rest 0 h ∙ ap Some (omega arith))

keyed_held : (k l : List ℕ) (n : ℕ) → keyed k l ≡ Some n → (l ≡ k ++ drop (length k) l) × Held (drop (length k) l) 0 n
keyed_held k l n e = go (starts k l) refl e
  where
    go : (b : Bool) → starts k l ≡ b → pick b (hex_line (drop (length k) l) 0) None ≡ Some n
        → (l ≡ k ++ drop (length k) l) × Held (drop (length k) l) 0 n
    go true f e = (starts_is k l f, hex_line_held (drop (length k) l) 0 n e)
    go false f e = bad_pairs e

-- the first line
pub bw_line : (d : ℕ) (rest : List ℕ) → d < 10 → line_bw (line1 d ++ rest) ≡ true
bw_line d rest l = rw (le-ltb (48 + d) 48 (omega arith), lt-ltb (48 + d) 58 (omega arith))

pub record Digit (s : List ℕ) : Type 0 where
  pub low : 48 ≤ get_or s 3 0
  pub high : get_or s 3 0 < 58
  pub is : s ≡ line1 (get_or s 3 0 - 48) ++ drop 5 s

pub bw_is : (s : List ℕ) → line_bw s ≡ true → Digit s
bw_is s e =
    let h = and_then (starts (codes "bw=") s) _ e in
    let k = not_then (ltb (get_or s 3 0) 48) _ h.1 in
    let m = and_then (ltb (get_or s 3 0) 58) (eqb (get_or s 4 0) 10) k.1 in
    let f : get_or s 4 0 ≡ 10 = eqb-true (get_or s 4 0) 10 m.1 in
    let l : 48 ≤ get_or s 3 0 = ltb-false (get_or s 3 0) 48 k.0 in
    let r : 4 < length s = at_ten s 4 f in
    record {
      low = l;
      high = ltb-true (get_or s 3 0) 58 m.0;
      is =
          starts_is (codes "bw=") s h.0
          ∙ ap (λ (t : List ℕ). codes "bw=" ++ t) (drop-cons s 3 0 (omega arith))
          ∙ ap (λ (t : List ℕ). codes "bw=" ++ (get_or s 3 0 ∷ t)) (drop-cons s 4 0 (omega arith))
          ∙ ap (λ (x : ℕ). codes "bw=" ++ (get_or s 3 0 ∷ x ∷ drop 5 s)) f
          ∙ ap (λ (x : ℕ). codes "bw=" ++ (x ∷ 10 ∷ drop 5 s)) (omega arith);
    }

-- ---- what the three lines hold
pub line_rest : (k a rest : List ℕ) → (k ++ (pairs a ++ codes "\n")) ++ rest ≡ k ++ (pairs a ++ (10 ∷ rest))
line_rest k a rest = simp append_assoc

pub length_line2 : (a : List ℕ) → length (line2 a) ≡ 5 + 2 * length a
length_line2 a = let h = length_pairs a in let k = length-append (pairs a) (codes "\n") in omega arith

length_line3 : (b : List ℕ) → length (line3 b) ≡ 5 + 2 * length b
length_line3 b = let h = length_pairs b in let k = length-append (pairs b) (codes "\n") in omega arith

pub second_line : (s : List ℕ) (d : ℕ) (a rest : List ℕ) → Bytes a → s ≡ line1 d ++ (line2 a ++ rest) → keyed (codes "cc1=") (drop 5 s) ≡ Some (length a)
second_line s d a rest h e =
    ap (λ (t : List ℕ). keyed (codes "cc1=") (drop 5 t)) e
    ∙ ap (keyed (codes "cc1=")) (line_rest (codes "cc1=") a rest)
    ∙ keyed_line (codes "cc1=") a rest h

past_two : (s : List ℕ) (d : ℕ) (a rest : List ℕ) → s ≡ line1 d ++ (line2 a ++ rest) → drop (10 + 2 * length a) s ≡ rest
past_two s d a rest e =
    ap (drop (10 + 2 * length a)) (e ∙ sym (append_assoc (line1 d) (line2 a) rest))
    ∙ drop_at (line1 d ++ line2 a) rest (10 + 2 * length a) (let h = length_line2 a in omega arith)

pub third_line : (s : List ℕ) (d : ℕ) (a b rest : List ℕ) → Bytes b → s ≡ line1 d ++ (line2 a ++ (line3 b ++ rest))
    → keyed (codes "cc2=") (drop (10 + 2 * length a) s) ≡ Some (length b)
third_line s d a b rest h e =
    ap (keyed (codes "cc2=")) (past_two s d a (line3 b ++ rest) e ∙ line_rest (codes "cc2=") b rest)
    ∙ keyed_line (codes "cc2=") b rest h

pub length_text : (d : ℕ) (a b : List ℕ) → length (text_of d a b) ≡ 15 + 2 * length a + 2 * length b
length_text d a b =
    let h = length_line2 a in
    let k = length_line3 b in
    let j = length-append (line2 a) (line3 b) in
    omega arith

-- two lines read
pub record Two (s : List ℕ) (n : ℕ) : Type 0 where
  pub bytes : List ℕ
  pub are_bytes : Bytes bytes
  pub many : n ≡ length bytes
  pub is : s ≡ line1 (get_or s 3 0 - 48) ++ (line2 bytes ++ drop (10 + 2 * n) s)

pub two_lines : (s : List ℕ) (n : ℕ) → line_bw s ≡ true → keyed (codes "cc1=") (drop 5 s) ≡ Some n → Two s n
two_lines s n e f =
    let d = bw_is s e in
    let k = keyed_held (codes "cc1=") (drop 5 s) n f in
    let h = k.1 in
    let a = h.bytes in
    let r = h.rest in
    let m : n ≡ length a = h.many ∙ omega arith in
    let q : drop 5 s ≡ line2 a ++ r =
    k.0 ∙ ap (λ (t : List ℕ). codes "cc1=" ++ t) h.is ∙ sym (line_rest (codes "cc1=") a r) in
    let w : s ≡ line1 (get_or s 3 0 - 48) ++ (line2 a ++ r) = d.is ∙ ap (λ (t : List ℕ). line1 (get_or s 3 0 - 48) ++ t) q in
    let p : drop (10 + 2 * n) s ≡ r = ap (λ (k : ℕ). drop (10 + 2 * k) s) m ∙ past_two s (get_or s 3 0 - 48) a r w in
    record {
      bytes = a;
      are_bytes = h.are_bytes;
      many = m;
      is = w ∙ ap (λ (t : List ℕ). line1 (get_or s 3 0 - 48) ++ (line2 a ++ t)) (sym p);
    }

-- three lines read
pub record Three (s : List ℕ) (n m : ℕ) : Type 0 where
  pub first : List ℕ
  pub second : List ℕ
  pub rest : List ℕ
  pub are_bytes : Bytes first × Bytes second
  pub many : (n ≡ length first) × (m ≡ length second)
  pub is : s ≡ line1 (get_or s 3 0 - 48) ++ (line2 first ++ (line3 second ++ rest))

pub three_lines : (s : List ℕ) (n m : ℕ) → Two s n → keyed (codes "cc2=") (drop (10 + 2 * n) s) ≡ Some m → Three s n m
three_lines s n m t f =
    let k = keyed_held (codes "cc2=") (drop (10 + 2 * n) s) m f in
    let h = k.1 in
    let b = h.bytes in
    let r = h.rest in
    let q : drop (10 + 2 * n) s ≡ line3 b ++ r =
    k.0 ∙ ap (λ (t : List ℕ). codes "cc2=" ++ t) h.is ∙ sym (line_rest (codes "cc2=") b r) in
    record {
      first = t.bytes;
      second = b;
      rest = r;
      are_bytes = (t.are_bytes, h.are_bytes);
      many = (t.many, h.many ∙ omega arith);
      is = t.is ∙ ap (λ (u : List ℕ). line1 (get_or s 3 0 - 48) ++ (line2 t.bytes ++ u)) q;
    }

pub digit_of : (s : List ℕ) → Digit s → get_or s 3 0 - 48 < 10
digit_of s d = let h = d.high in let l = d.low in omega arith
