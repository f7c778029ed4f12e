-- The three lines at the front of a text: what is read there is what stands there, and what stands there is read.
use mathlib.Core.Path.{◌≡◌, refl, sym, ap, subst, ◌∙◌}
use mathlib.Core.Bool.{Bool, true, false}
use mathlib.Core.List.{List, ◌∷◌, ◌++◌, append_assoc}
use Prim.Native.Nat.{ℕ, ◌+◌, ◌-◌, ◌*◌, ◌≤◌, ◌<◌}
use native.Mathlib.Omega.{arith}
use lib.ListN.{length, drop, get_or, length-append}
use lib.Seq.{drop_at}
use Rattle.text.specs.Text.{codes}
use Rattle.std.specs.Prelude.{Option, Some, None, Ok, Err}
use Rattle.input.specs.declared.Lines.{Lines}
use Rattle.input.specs.declared.WrongLine.{WrongLine}
use Rattle.input.specs.Form.{Bytes, pairs, line1, line2, line3, text_of}
use Rattle.input.specs.Engine.{Parsed, wrong_at, lines_of, pick, keyed, line_bw, after_one, after_two, first_three, past_three, bytes_at, second_at}
use Rattle.input.proofs.Pairs.{bytes_back}
use Rattle.input.proofs.Keyed.{bw_line, Digit, bw_is, line_rest, length_line2, second_line, third_line}
use Rattle.input.proofs.Keyed.{length_text, Two, two_lines, Three, three_lines, digit_of}

pub no_lines : {A : Type 0} {l : Lines} {w : WrongLine} → ◌≡◌ {A = Parsed} (Ok l) (Err w) → A
no_lines e = let z : ◌≡◌ {A = ℕ} 0 1 = cc in absurd (omega arith)

pub same_lines : {l t : Lines} → ◌≡◌ {A = Parsed} (Ok l) (Ok t) → l ≡ t
same_lines e = cc

pub same_line : {v w : WrongLine} → ◌≡◌ {A = Parsed} (Err v) (Err w) → v.line ≡ w.line
same_line {v} {w} e = let q : v ≡ w = cc in ap (λ (u : WrongLine). u.line) q

-- a text and what comes after it, line by line
pub text_rest : (d : ℕ) (a b rest : List ℕ) → text_of d a b ++ rest ≡ line1 d ++ (line2 a ++ (line3 b ++ rest))
text_rest d a b rest = ap (λ (t : List ℕ). line1 d ++ t) (append_assoc (line2 a) (line3 b) rest)

-- ---- what stands there is read
pub record FrontOf (s : List ℕ) (d : ℕ) (a b rest : List ℕ) : Type 0 where
  pub lines : first_three s ≡ lines_of d (length a) (length b)
  pub first : bytes_at s 9 (length a) ≡ a
  pub second : bytes_at s (second_at (length a)) (length b) ≡ b
  pub after : drop (past_three (length a) (length b)) s ≡ rest

module _ (s : List ℕ) (d : ℕ) (a b rest : List ℕ) (e : s ≡ line1 d ++ (line2 a ++ (line3 b ++ rest))) where
  first_back : Bytes a → bytes_at s 9 (length a) ≡ a
  first_back h =
      bytes_back s (line1 d ++ codes "cc1=") a (10 ∷ (line3 b ++ rest)) 9 refl h
      (e ∙ ap (λ (t : List ℕ). line1 d ++ t) (line_rest (codes "cc1=") a (line3 b ++ rest)))

  second_back : Bytes b → bytes_at s (second_at (length a)) (length b) ≡ b
  second_back h =
      bytes_back s (line1 d ++ (line2 a ++ codes "cc2=")) b (10 ∷ rest) (second_at (length a))
      (let j = length_line2 a in let k = length-append (line2 a) (codes "cc2=") in omega arith)
      h
      (e
      ∙ ap (λ (t : List ℕ). line1 d ++ (line2 a ++ t)) (line_rest (codes "cc2=") b rest)
      ∙ ap (λ (t : List ℕ). line1 d ++ t) (sym (append_assoc (line2 a) (codes "cc2=") (pairs b ++ (10 ∷ rest)))))

  past : drop (past_three (length a) (length b)) s ≡ rest
  past =
      ap (drop (past_three (length a) (length b))) (e ∙ sym (text_rest d a b rest))
      ∙ drop_at (text_of d a b) rest (past_three (length a) (length b)) (length_text d a b)

  front_lines : d < 10 → Bytes a → Bytes b → first_three s ≡ lines_of d (length a) (length b)
  unfolding first_three
  front_lines l h k =
      rw (
        ap line_bw e ∙ bw_line d (line2 a ++ (line3 b ++ rest)) l,
        second_line s d a (line3 b ++ rest) h e,
        third_line s d a b rest k e,
        ap (λ (t : List ℕ). get_or t 3 0) e,
      )
      (ap (λ (x : ℕ). lines_of x (length a) (length b)) (omega arith))

pub front_read : (s : List ℕ) (d : ℕ) (a b rest : List ℕ) → d < 10 → Bytes a × Bytes b → s ≡ text_of d a b ++ rest → FrontOf s d a b rest
front_read s d a b rest l h e =
    let q = e ∙ text_rest d a b rest in
    record {
      lines = front_lines s d a b rest q l h.0 h.1;
      first = first_back s d a b rest q h.0;
      second = second_back s d a b rest q h.1;
      after = past s d a b rest q;
    }

-- ---- what is read there stands there
pub record Front (s : List ℕ) (d n m : ℕ) : Type 0 where
  pub is_digit : d < 10
  pub are_bytes : Bytes (bytes_at s 9 n) × Bytes (bytes_at s (second_at n) m)
  pub is : s ≡ text_of d (bytes_at s 9 n) (bytes_at s (second_at n) m) ++ drop (past_three n m) s
  pub room : past_three n m ≤ length s

front_at : (s : List ℕ) (d n m : ℕ) (a b rest : List ℕ) → d < 10 → Bytes a × Bytes b → n ≡ length a → m ≡ length b → s ≡ text_of d a b ++ rest
    → Front s d n m
front_at s d n m a b rest l h x y e =
    let f = front_read s d a b rest l h e in
    rw (x, y)
    record {
      is_digit = l;
      are_bytes = (subst Bytes (sym f.first) h.0, subst Bytes (sym f.second) h.1);
      is = rw (f.first, f.second, f.after) e;
      room = let k = ap length e ∙ length-append (text_of d a b) rest in let j = length_text d a b in omega arith;
    }

pub front_is : (s : List ℕ) (d n m : ℕ) → first_three s ≡ lines_of d n m → Front s d n m
unfolding first_three
front_is s d n m e = go1 (line_bw s) refl e
  where
    found : (n' m' : ℕ) → Digit s → Three s n' m' → lines_of (get_or s 3 0 - 48) n' m' ≡ lines_of d n m → Front s d n m
    found n' m' g t e =
        let q = same_lines e in
        let p : get_or s 3 0 - 48 ≡ d = ap (λ (l : Lines). l.bw) q in
        let x : n' ≡ n = ap (λ (l : Lines). l.first) q in
        let y : m' ≡ m = ap (λ (l : Lines). l.second) q in
        front_at s d n m t.first t.second t.rest
        (let q = digit_of s g in omega arith)
        t.are_bytes
        (sym x ∙ t.many.0)
        (sym y ∙ t.many.1)
        (t.is ∙ sym (text_rest (get_or s 3 0 - 48) t.first t.second t.rest) ∙ ap (λ (k : ℕ). text_of k t.first t.second ++ t.rest) p)

    go3 : (n' : ℕ) → Digit s → Two s n' → (r : Option ℕ) → keyed (codes "cc2=") (drop (10 + 2 * n') s) ≡ r → after_two s n' r ≡ lines_of d n m → Front s d n m
    go3 n' g t None q e = no_lines (sym e)
    go3 n' g t (Some m') q e = found n' m' g (three_lines s n' m' t q) e

    go2 : line_bw s ≡ true → (r : Option ℕ) → keyed (codes "cc1=") (drop 5 s) ≡ r → after_one s r ≡ lines_of d n m → Front s d n m
    go2 h None f e = no_lines (sym e)
    go2 h (Some n') f e = go3 n' (bw_is s h) (two_lines s n' h f) (keyed (codes "cc2=") (drop (10 + 2 * n') s)) refl e

    go1 : (b : Bool) → line_bw s ≡ b → pick b (after_one s (keyed (codes "cc1=") (drop 5 s))) (wrong_at 1) ≡ lines_of d n m → Front s d n m
    go1 true h e = go2 h (keyed (codes "cc1=") (drop 5 s)) refl e
    go1 false h e = no_lines (sym e)

pub front_room : (s : List ℕ) {r : Parsed} {l : Lines} → r ≡ first_three s → r ≡ Ok l → past_three l.first l.second ≤ length s
front_room s e h = (front_is s _ _ _ (sym e ∙ h)).room
