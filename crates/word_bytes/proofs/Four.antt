-- The four bytes of a word stored.
use mathlib.Core.Path.{◌≡◌, sym, ◌∙◌, ap}
use mathlib.Core.List.{List, [], ◌∷◌}
use Prim.Native.Nat.{ℕ, suc, ◌+◌, ◌*◌, ◌/◌, ◌%◌, ◌^◌, ◌≤◌, ◌<◌}
use native.Mathlib.Omega.{arith}
use native.Mathlib.Nat.{add-zero, div-one}
use lib.ListN.{length, set}
use Rattle.answer.specs.Lists.{filled, at}
use Rattle.answer.proofs.Lists.{filled_start, filled_step}
use Rattle.word_bytes.specs.Bytes.{byte_at}
use Rattle.word_bytes.specs.Engine.{word_put, words_put}

-- byte k of word i
pub byte_of : (ws : List ℕ) (i k : ℕ) → k < 4 → byte_at ws (4 * i + k) ≡ at ws i / 256 ^ k % 256
unfolding byte_at
byte_of ws i k l =
    let d : (4 * i + k) / 4 ≡ i = omega arith in
    let m : (4 * i + k) % 4 ≡ k = omega arith in
    rw (d, m)

module _ (ws w out : List ℕ) (i x : ℕ) (l : 4 * i + 4 ≤ length w) (e : out ≡ filled (byte_at ws) (4 * i) w) (ex : x ≡ at ws i) where
  -- the words of a text are put from the first on
  pub word_put_lem : word_put out i x ≡ filled (byte_at ws) (4 * (i + 1)) w
  unfolding word_put
  word_put_lem =
      let b0 : x % 256 ≡ byte_at ws (4 * i) = rw (ex) (sym (ap (byte_at ws) (sym (add-zero (4 * i))) ∙ byte_of ws i 0 (omega arith) ∙ rw (div-one (at ws i))))
      in
      let b1 : x / 256 % 256 ≡ byte_at ws (4 * i + 1) = rw ex (sym (byte_of ws i 1 (omega arith))) in
      let b2 : x / 65536 % 256 ≡ byte_at ws (4 * i + 2) = rw ex (sym (byte_of ws i 2 (omega arith))) in
      let b3 : x / 16777216 % 256 ≡ byte_at ws (4 * i + 3) = rw ex (sym (byte_of ws i 3 (omega arith))) in
      let e1 : set out (4 * i) (x % 256) ≡ filled (byte_at ws) (4 * i + 1) w = rw e (filled_step (byte_at ws) (4 * i) (x % 256) w (omega arith) b0) in
      let e2 : set (set out (4 * i) (x % 256)) (4 * i + 1) (x / 256 % 256) ≡ filled (byte_at ws) (4 * i + 1 + 1) w =
      rw e1 (filled_step (byte_at ws) (4 * i + 1) (x / 256 % 256) w (omega arith) b1) in
      let q2 : 4 * i + 1 + 1 ≡ 4 * i + 2 = omega arith in
      let e3 =
      ap (λ (z : List ℕ). set z (4 * i + 2) (x / 65536 % 256)) (e2 ∙ ap (λ (k : ℕ). filled (byte_at ws) k w) q2)
      ∙ filled_step (byte_at ws) (4 * i + 2) (x / 65536 % 256) w (omega arith) b2 in
      let q3 : 4 * i + 2 + 1 ≡ 4 * i + 3 = omega arith in
      let q4 : 4 * i + 3 + 1 ≡ 4 * (i + 1) = omega arith in
      ap (λ (z : List ℕ). set z (4 * i + 3) (x / 16777216 % 256)) (e3 ∙ ap (λ (k : ℕ). filled (byte_at ws) k w) q3)
      ∙ filled_step (byte_at ws) (4 * i + 3) (x / 16777216 % 256) w (omega arith) b3
      ∙ ap (λ (k : ℕ). filled (byte_at ws) k w) q4

-- words put one after the other
words_put_lem : (ws w xs t : List ℕ) (i : ℕ) → 4 * (i + length xs) ≤ length w → t ≡ filled (byte_at ws) (4 * i) w
    → ((k : ℕ) → k < length xs → at xs k ≡ at ws (i + k)) → words_put t i xs ≡ filled (byte_at ws) (4 * (i + length xs)) w
unfolding words_put
words_put_lem ws w [] t i l e h = e ∙ ap (λ (k : ℕ). filled (byte_at ws) (4 * k) w) (sym (add-zero i))
words_put_lem ws w (x ∷ xs) t i l e h =
    let first : x ≡ at ws i = h 0 (omega arith) ∙ ap (at ws) (add-zero i) in
    let next : (k : ℕ) → i + suc k ≡ i + 1 + k = λ k. omega arith in
    words_put_lem ws w xs (word_put t i x) (i + 1) (omega arith) (word_put_lem ws w t i x (omega arith) e first)
    (λ k m. h (suc k) (omega arith) ∙ ap (at ws) (next k))
    ∙ ap (λ (k : ℕ). filled (byte_at ws) (4 * k) w) (sym (next (length xs)))

pub all_put : (ws w : List ℕ) → 4 * length ws ≤ length w → words_put w 0 ws ≡ filled (byte_at ws) (4 * length ws) w
all_put ws w l =
    let same : (k : ℕ) → k ≡ 0 + k = λ k. omega arith in
    words_put_lem ws w ws w 0 (omega arith) (filled_start (byte_at ws) w) (λ k m. ap (at ws) (same k))
    ∙ ap (λ (k : ℕ). filled (byte_at ws) (4 * k) w) (sym (same (length ws)))
