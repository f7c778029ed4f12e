-- Exactly the texts of `Form` are read, to their frames, and in any other the first wrong line is named.
use mathlib.Core.Path.{◌≡◌, refl, sym, ap, subst, ◌∙◌}
use mathlib.Core.Bool.{Bool, true, false}
use mathlib.Core.List.{List, ◌++◌}
use mathlib.Core.Logic.{◌⊎◌, inl, inr}
use Prim.Native.Nat.{ℕ, zero, suc, ◌+◌, ◌*◌, ◌≤◌, ◌<◌}
use native.Mathlib.Nat.{zero-add}
use native.Mathlib.Omega.{arith}
use borrow.Author.Tests.{le-ltb, ltb-true, ltb-false}
use lib.Dec.{ltb}
use lib.ListN.{length, drop, get_or}
use lib.Seq.{get_or-drop}
use Rattle.std.specs.Prelude.{Ok, Err}
use Rattle.answer.proofs.Lists.{build_cong}
use Rattle.input.specs.Form.{Bytes, text_of, IsWrongLine}
use Rattle.input.specs.Engine.{Parsed, pick, first_three, past_three, three_lines, pair_of, byte_of, bytes_at, second_at}
use Rattle.input.proofs.Front.{Front, front_is, front_read}
use Rattle.input.proofs.Wrong.{front_wrong, wrong_line}
use Rattle.input.proofs.Exact.{Reads, lines_read, text_read}
use Rattle.captures.specs.declared.Capture.{Capture}
use Rattle.captures.specs.Form.{WrongAfter, WrongOfSix}
use Rattle.captures.specs.Engine.{Captures, wrong_of_six, both, capture_at, past_of, then_second, from_first, six_lines}
use Rattle.captures.specs.Engine.{two_parsed, first_bytes, second_bytes}
use Rattle.captures.specs.Worked.{TextOfTwo}

-- the pairs of a part of the text, by their places in the whole
pub bytes_past : (s : List ℕ) (p at n : ℕ) → bytes_at (drop p s) at n ≡ bytes_at s (p + at) n
unfolding byte_of
bytes_past s p at n =
    build_cong (byte_of (drop p s) at) (byte_of s (p + at)) n (λ k l.
    let u : get_or (drop p s) (at + 2 * k) 0 ≡ get_or s (p + at + 2 * k) 0 = get_or-drop p s (at + 2 * k) 0 ∙ ap (λ (i : ℕ). get_or s i 0) (omega arith) in
    let v : get_or (drop p s) (at + 2 * k + 1) 0 ≡ get_or s (p + at + 2 * k + 1) 0 =
    get_or-drop p s (at + 2 * k + 1) 0 ∙ ap (λ (i : ℕ). get_or s i 0) (omega arith) in
    ap (λ (x : ℕ). pair_of x (get_or (drop p s) (at + 2 * k + 1) 0)) u ∙ ap (pair_of (get_or s (p + at + 2 * k) 0)) v)

-- ---- what is read stands there
-- two captures that were read
pub record Found (s : List ℕ) (c c' : Capture) : Type 0 where
  pub text : TextOfTwo s c.bw (first_bytes s c) (second_bytes s c) c'.bw (first_bytes s c') (second_bytes s c')
  pub starts : c.at ≡ 0
  pub starts_second : c'.at ≡ past_of c

-- what the reading comes to, whichever it is
abbrev pub Verdict : List ℕ → Captures → Type 0
Verdict s (Err w) = ((16384 < length s) × (w.line ≡ 0)) ⊎ ((length s ≤ 16384) × WrongOfSix w.line s)
Verdict s (Ok (c, c')) = Found s c c'

of_first : (k : ℕ) (s : List ℕ) → k ≤ 3 → IsWrongLine k s → WrongOfSix k s
of_first zero s l w = w
of_first (suc zero) s l w = w
of_first (suc (suc zero)) s l w = w
of_first (suc (suc (suc zero))) s l w = w
of_first (suc (suc (suc (suc k)))) s l w = absurd (omega arith)

module _ (s : List ℕ) (d n m : ℕ) (f : Front s d n m) where
  wrong_after : (k : ℕ) → IsWrongLine k (drop (past_three n m) s) → WrongAfter k s
  wrong_after k w =
      record {
        capture = text_of d (bytes_at s 9 n) (bytes_at s (second_at n) m);
        rest = drop (past_three n m) s;
        is_whole =
            record {
              digit = d;
              first = bytes_at s 9 n;
              second = bytes_at s (second_at n) m;
              is_digit = f.is_digit;
              are_bytes = f.are_bytes;
              is = refl;
            };
        is = f.is;
        is_wrong = w;
      }

  -- the second capture's line k is line 3 + k of the text
  of_second : (k : ℕ) → IsWrongLine k (drop (past_three n m) s) → WrongOfSix (3 + k) s
  of_second zero w = absurd w
  of_second (suc k) w = let e : suc (suc (suc (suc k))) ≡ 3 + suc k = omega arith in subst (λ (i : ℕ). WrongOfSix i s) e (wrong_after (suc k) w)

  both_found : (d' n' m' : ℕ) → length s ≤ 16384 → Reads (drop (past_three n m) s) d' n' m'
      → Found s (capture_at 0 d n m) (capture_at (past_three n m) d' n' m')
  both_found d' n' m' l g =
      let p = past_three n m in
      let x = bytes_past s p 9 n' in
      let y = bytes_past s p (second_at n') m' in
      record {
        text =
            record {
              are_digits = (f.is_digit, g.is_digit);
              first_bytes_fact = rw (zero-add (second_at n)) f.are_bytes;
              second_bytes_fact = (subst Bytes x g.are_bytes.0, subst Bytes y g.are_bytes.1);
              is =
                  rw (zero-add (second_at n))
                  (f.is
                  ∙ ap (λ (t : List ℕ). text_of d (bytes_at s 9 n) (bytes_at s (second_at n) m) ++ t)
                  (g.is ∙ ap (λ (t : List ℕ). text_of d' t (bytes_at (drop p s) (second_at n') m')) x ∙ ap (text_of d' (bytes_at s (p + 9) n')) y));
              most = l;
            };
        starts = refl;
        starts_second = refl;
      }

pub verdict : (s : List ℕ) → Verdict s (two_parsed s)
unfolding two_parsed six_lines
verdict s = go (ltb 16384 (length s)) refl
  where
    second : length s ≤ 16384 → (d n m : ℕ) → Front s d n m → (r : Parsed) → three_lines (drop (past_three n m) s) ≡ r
        → Verdict s (then_second (capture_at 0 d n m) r)
    second l d n m f (Err w) e = inr (l, of_second s d n m f w.line (wrong_line (drop (past_three n m) s) w.line e))
    second l d n m f (Ok t) e =
        both_found s d n m f t.bw t.first t.second l (lines_read (drop (past_three n m) s) t.bw t.first t.second e)

    first : length s ≤ 16384 → (r : Parsed) → first_three s ≡ r → Verdict s (from_first s r)
    first l (Err w) e = let h = front_wrong s w.line e in inr (l, of_first w.line s h.0 h.1)
    first l (Ok t) e =
        second l t.bw t.first t.second (front_is s t.bw t.first t.second e) (three_lines (drop (past_three t.first t.second) s)) refl

    go : (b : Bool) → ltb 16384 (length s) ≡ b → Verdict s (pick b (wrong_of_six 0) (from_first s (first_three s)))
    go true f = inl (ltb-true 16384 (length s) f, refl)
    go false f = first (ltb-false 16384 (length s) f) (first_three s) refl

-- ---- what stands there is read
pub record FoundIn (s : List ℕ) (d : ℕ) (a b : List ℕ) (d' : ℕ) (a' b' : List ℕ) : Type 0 where
  pub one : Capture
  pub other : Capture
  pub parsed : two_parsed s ≡ both one other
  pub digits : (one.bw ≡ d) × (other.bw ≡ d')
  pub first_bytes_fact : (first_bytes s one ≡ a) × (second_bytes s one ≡ b)
  pub second_bytes_fact : (first_bytes s other ≡ a') × (second_bytes s other ≡ b')

pub text_found : (s : List ℕ) (d : ℕ) (a b : List ℕ) (d' : ℕ) (a' b' : List ℕ) → TextOfTwo s d a b d' a' b' → FoundIn s d a b d' a' b'
unfolding two_parsed six_lines
text_found s d a b d' a' b' t =
    let n = length a in
    let m = length b in
    let p = past_three n m in
    let f = front_read s d a b (text_of d' a' b') t.are_digits.0 t.first_bytes_fact t.is in
    let g = text_read d' a' b' t.are_digits.1 t.second_bytes_fact.0 t.second_bytes_fact.1 in
    record {
      one = capture_at 0 d n m;
      other = capture_at p d' (length a') (length b');
      parsed = rw (le-ltb 16384 (length s) t.most, f.lines, f.after, g.lines);
      digits = (refl, refl);
      first_bytes_fact = (f.first, rw (zero-add (second_at n)) f.second);
      second_bytes_fact = (
        sym (bytes_past s p 9 (length a')) ∙ ap (λ (u : List ℕ). bytes_at u 9 (length a')) f.after ∙ g.first,
        sym (bytes_past s p (second_at (length a')) (length b'))
            ∙ ap (λ (u : List ℕ). bytes_at u (second_at (length a')) (length b')) f.after
            ∙ g.second,
      );
    }
