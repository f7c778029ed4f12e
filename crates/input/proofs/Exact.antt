-- The program reads exactly the texts of `Form`, and in any other names the first wrong line.
use mathlib.Core.Path.{◌≡◌, refl, sym, ap, ◌∙◌}
use mathlib.Core.Bool.{Bool, true, false}
use mathlib.Core.List.{List, [], ◌∷◌, ◌++◌, append-nil}
use Prim.Native.Nat.{ℕ, ◌+◌, ◌*◌, ◌≤◌, ◌<◌}
use native.Mathlib.Omega.{arith}
use mathlib.Core.Logic.{inl, inr}
use borrow.Author.Tests.{le-ltb, eq-eqb, ltb-true, ltb-false, eqb-true}
use lib.Dec.{ltb, eqb}
use lib.ListN.{length, drop, length-drop}
use Rattle.std.specs.Prelude.{Ok, Err}
use Rattle.answer.proofs.Lists.{length_build}
use Rattle.input.specs.declared.Lines.{Lines}
use Rattle.input.specs.Form.{Bytes, text_of}
use Rattle.input.specs.Engine.{Parsed, wrong_at, lines_of, pick, first_three, past_three, nothing_after, three_lines, parsed}
use Rattle.input.specs.Engine.{byte_of, bytes_at, second_at}
use Rattle.input.specs.Worked.{PlaceOf22}
use Rattle.input.proofs.Keyed.{length_text}
use Rattle.input.proofs.Front.{no_lines, same_lines, same_line, front_read, Front, front_is}
use Rattle.input.proofs.Wrong.{wrong_line}

-- ---- the three lines
-- a text that the program reads is the text of what it reads
pub record Reads (s : List ℕ) (d n m : ℕ) : Type 0 where
  pub is_digit : d < 10
  pub are_bytes : Bytes (bytes_at s 9 n) × Bytes (bytes_at s (second_at n) m)
  pub is : s ≡ text_of d (bytes_at s 9 n) (bytes_at s (second_at n) m)

empty : (l : List ℕ) → length l ≡ 0 → l ≡ []
empty [] e = refl
empty (x ∷ l) e = absurd (omega arith)

only_read : (s : List ℕ) (d n m : ℕ) → Front s d n m → length s ≡ past_three n m → Reads s d n m
only_read s d n m f l =
    let t = text_of d (bytes_at s 9 n) (bytes_at s (second_at n) m) in
    let z : drop (past_three n m) s ≡ [] = empty _ (let k = length-drop (past_three n m) s in omega arith) in
    record { is_digit = f.is_digit; are_bytes = f.are_bytes; is = f.is ∙ ap (λ (r : List ℕ). t ++ r) z ∙ append-nil t }

pub lines_read : (s : List ℕ) (d n m : ℕ) → three_lines s ≡ lines_of d n m → Reads s d n m
unfolding three_lines
lines_read s d n m e = go (first_three s) refl e
  where
    found : (d' n' m' : ℕ) → first_three s ≡ lines_of d' n' m' → (b : Bool) → eqb (length s) (past_three n' m') ≡ b
        → pick b (lines_of d' n' m') (wrong_at 4) ≡ lines_of d n m → Reads s d n m
    found d' n' m' f true q e =
        let x : n' ≡ n = ap (λ (l : Lines). l.first) (same_lines e) in
        let y : m' ≡ m = ap (λ (l : Lines). l.second) (same_lines e) in
        only_read s d n m (front_is s d n m (f ∙ e)) (let l = eqb-true (length s) (past_three n' m') q in omega arith)
    found d' n' m' f false q e = no_lines (sym e)

    go : (r : Parsed) → first_three s ≡ r → nothing_after (length s) r ≡ lines_of d n m → Reads s d n m
    go (Err w) f e = no_lines (sym e)
    go (Ok l) f e = found l.bw l.first l.second f (eqb (length s) (past_three l.first l.second)) refl e

-- every text of the form is read, to its digit and its bytes
pub record ReadsTo (s : List ℕ) (d : ℕ) (a b : List ℕ) : Type 0 where
  pub lines : three_lines s ≡ lines_of d (length a) (length b)
  pub first : bytes_at s 9 (length a) ≡ a
  pub second : bytes_at s (second_at (length a)) (length b) ≡ b

pub text_read : (d : ℕ) (a b : List ℕ) → d < 10 → Bytes a → Bytes b → ReadsTo (text_of d a b) d a b
unfolding three_lines
text_read d a b l h k =
    let f = front_read (text_of d a b) d a b [] l (h, k) (sym (append-nil (text_of d a b))) in
    record {
      lines = rw (f.lines, eq-eqb (length (text_of d a b)) (past_three (length a) (length b)) (length_text d a b));
      first = f.first;
      second = f.second;
    }

-- ---- 22: "program text over 8,192 bytes, else not the three lines named under Listing | 0, 0; else first wrong line"
pub refused : (s : List ℕ) (k : ℕ) → parsed s ≡ wrong_at k → PlaceOf22 k s
unfolding parsed
refused s k e = go (ltb 8192 (length s)) refl e
  where
    go : (b : Bool) → ltb 8192 (length s) ≡ b → pick b (wrong_at 0) (three_lines s) ≡ wrong_at k → PlaceOf22 k s
    go true f e = inl (ltb-true 8192 (length s) f, sym (same_line e))
    go false f e = inr (ltb-false 8192 (length s) f, wrong_line s k e)

pub accepted : (s : List ℕ) (d n m : ℕ) → parsed s ≡ lines_of d n m → (length s ≤ 8192) × Reads s d n m
unfolding parsed
accepted s d n m e = go (ltb 8192 (length s)) refl e
  where
    go : (b : Bool) → ltb 8192 (length s) ≡ b → pick b (wrong_at 0) (three_lines s) ≡ lines_of d n m → (length s ≤ 8192) × Reads s d n m
    go true f e = no_lines (sym e)
    go false f e = (ltb-false 8192 (length s) f, lines_read s d n m e)

pub text_accepted : (d : ℕ) (a b : List ℕ) → d < 10 → Bytes a → Bytes b → length (text_of d a b) ≤ 8192
    → parsed (text_of d a b) ≡ lines_of d (length a) (length b)
unfolding parsed
text_accepted d a b l h k f = rw (le-ltb 8192 (length (text_of d a b)) f) (text_read d a b l h k).lines

-- so the channels' bytes are few
pub few : (s : List ℕ) (d n m : ℕ) → parsed s ≡ lines_of d n m → 15 + 2 * n + 2 * m ≤ 8192
few s d n m e =
    let h = accepted s d n m e in
    let l = ap length h.1.is ∙ length_text d (bytes_at s 9 n) (bytes_at s (second_at n) m) in
    omega (arith, h.0, length_build (byte_of s 9) n, length_build (byte_of s (second_at n)) m)
