-- The line that the program names in a text that it does not read is the first that is wrong.
use mathlib.Core.Path.{◌≡◌, refl, sym, ap, subst, ◌∙◌}
use mathlib.Core.Bool.{Bool, true, false}
use mathlib.Core.List.{List, [], ◌++◌, append-nil}
use Prim.Native.Nat.{ℕ, ◌+◌, ◌-◌, ◌*◌, ◌≤◌}
use native.Mathlib.Omega.{arith}
use borrow.Author.Tests.{eqb-false}
use lib.Dec.{eqb}
use lib.ListN.{length, drop, get_or}
use Rattle.text.specs.Text.{codes}
use Rattle.std.specs.Prelude.{Option, Some, None, Ok, Err}
use Rattle.input.specs.declared.Lines.{Lines}
use Rattle.input.specs.Form.{line3, IsWrongLine}
use Rattle.input.specs.Engine.{Parsed, wrong_at, lines_of, pick, keyed, line_bw, after_one, after_two, first_three}
use Rattle.input.specs.Engine.{past_three, nothing_after, three_lines, bytes_at, second_at}
use Rattle.input.proofs.Pairs.{bad_pairs}
use Rattle.input.proofs.Keyed.{bw_line, Digit, bw_is, second_line, third_line, length_text, Two, two_lines, digit_of}
use Rattle.input.proofs.Front.{no_lines, same_lines, same_line, text_rest, front_read, front_is}
use Rattle.input.proofs.Tests.{false_true}

-- a text that does not begin with the three lines: the line that the program names is the first that is wrong, and one of them
pub front_wrong : (s : List ℕ) (k : ℕ) → first_three s ≡ wrong_at k → (k ≤ 3) × IsWrongLine k s
unfolding first_three
front_wrong s k e = go1 (line_bw s) refl e
  where
    at : (j : ℕ) → j ≤ 3 → wrong_at j ≡ wrong_at k → IsWrongLine j s → (k ≤ 3) × IsWrongLine k s
    at j l e w = let q = same_line e in (omega arith, rw q at w)

    go3 : (n : ℕ) → keyed (codes "cc1=") (drop 5 s) ≡ Some n → Digit s → Two s n
        → (r : Option ℕ) → keyed (codes "cc2=") (drop (10 + 2 * n) s) ≡ r → after_two s n r ≡ wrong_at k → (k ≤ 3) × IsWrongLine k s
    go3 n f d t None g e =
        at 3 (omega arith) e (
          record {
            digit = get_or s 3 0 - 48;
            first = t.bytes;
            second = [];
            rest = drop (10 + 2 * n) s;
            is_digit = digit_of s d;
            are_bytes = (t.are_bytes, tt);
            is = t.is;
          },
          λ w.
              let a = w.first in
              let b = w.second in
              let x : n ≡ length a =
              let y : Some n ≡ Some (length a) = sym f ∙ second_line s w.digit a (line3 b ++ w.rest) w.are_bytes.0 w.is in
              cc in
              bad_pairs
              (sym g ∙ ap (λ (j : ℕ). keyed (codes "cc2=") (drop (10 + 2 * j) s)) x ∙ third_line s w.digit a b w.rest w.are_bytes.1 w.is),
        )
    go3 n f d t (Some m) g e = no_lines e

    go2 : line_bw s ≡ true → (r : Option ℕ) → keyed (codes "cc1=") (drop 5 s) ≡ r → after_one s r ≡ wrong_at k → (k ≤ 3) × IsWrongLine k s
    go2 h None f e =
        at 2 (omega arith) e (
          record {
            digit = get_or s 3 0 - 48;
            first = [];
            second = [];
            rest = drop 5 s;
            is_digit = digit_of s (bw_is s h);
            are_bytes = (tt, tt);
            is = (bw_is s h).is;
          },
          λ w. bad_pairs (sym f ∙ second_line s w.digit w.first w.rest w.are_bytes.0 w.is),
        )
    go2 h (Some n) f e = go3 n f (bw_is s h) (two_lines s n h f) (keyed (codes "cc2=") (drop (10 + 2 * n) s)) refl e

    go1 : (b : Bool) → line_bw s ≡ b → pick b (after_one s (keyed (codes "cc1=") (drop 5 s))) (wrong_at 1) ≡ wrong_at k → (k ≤ 3) × IsWrongLine k s
    go1 true h e = go2 h (keyed (codes "cc1=") (drop 5 s)) refl e
    go1 false h e =
        at 1 (omega arith) e (
          record { digit = 0; first = []; second = []; rest = s; is_digit = omega arith; are_bytes = (tt, tt); is = refl },
          λ w. false_true h (ap line_bw w.is ∙ bw_line w.digit w.rest w.is_digit),
        )

-- the three lines with text after them: the fourth line is wrong
more_after : (s : List ℕ) (d n m : ℕ) → first_three s ≡ lines_of d n m → (length s ≡ past_three n m → ⊥) → IsWrongLine 4 s
more_after s d n m e ne =
    let f = front_is s d n m e in
    let a = bytes_at s 9 n in
    let b = bytes_at s (second_at n) m in (
      record {
        digit = d;
        first = a;
        second = b;
        rest = drop (past_three n m) s;
        is_digit = f.is_digit;
        are_bytes = f.are_bytes;
        is = f.is ∙ text_rest d a b (drop (past_three n m) s);
      },
      λ w.
          let g = front_read s w.digit w.first w.second [] w.is_digit w.are_bytes (w.is ∙ sym (append-nil _)) in
          let q : lines_of d n m ≡ lines_of w.digit (length w.first) (length w.second) = sym e ∙ g.lines in
          let x : n ≡ length w.first = ap (λ (l : Lines). l.first) (same_lines q) in
          let y : m ≡ length w.second = ap (λ (l : Lines). l.second) (same_lines q) in
          ne (ap length w.is ∙ length_text w.digit w.first w.second ∙ omega arith),
    )

-- a text that is not the three lines: the line that the program names is the first that is wrong
pub wrong_line : (s : List ℕ) (k : ℕ) → three_lines s ≡ wrong_at k → IsWrongLine k s
unfolding three_lines
wrong_line s k e = go (first_three s) refl e
  where
    fourth : (d n m : ℕ) → first_three s ≡ lines_of d n m → (b : Bool) → eqb (length s) (past_three n m) ≡ b
        → pick b (lines_of d n m) (wrong_at 4) ≡ wrong_at k → IsWrongLine k s
    fourth d n m f true q e = no_lines e
    fourth d n m f false q e =
        let j = same_line e in subst (λ (x : ℕ). IsWrongLine x s) j (more_after s d n m f (eqb-false (length s) (past_three n m) q))

    go : (r : Parsed) → first_three s ≡ r → nothing_after (length s) r ≡ wrong_at k → IsWrongLine k s
    go (Err w) f e = (front_wrong s k (f ∙ e)).1
    go (Ok l) f e = fourth l.bw l.first l.second f (eqb (length s) (past_three l.first l.second)) refl e
