-- Words and their bytes are the same, both ways: `Inverse`.
use mathlib.Core.Path.{◌≡◌, refl, sym, ◌∙◌, ap}
use mathlib.Core.List.{List, ◌++◌}
use Prim.Native.Nat.{ℕ, ◌+◌, ◌*◌, ◌/◌, ◌%◌, ◌≤◌}
use native.Mathlib.Omega.{arith}
use native.Mathlib.Nat.{add-zero}
use lib.ListN.{length, take, drop, length-append, take-append-drop, get_or-append}
use lib.Seq.{take_at, drop_at, length-take-le, get_or-append-add}
use Rattle.answer.specs.Lists.{build, filled, at}
use Rattle.answer.proofs.Lists.{length_build, build_cong, build_is, build_append}
use Rattle.word_bytes.specs.Bytes.{byte_at, word_at, words_in, bytes_in}
use Rattle.word_bytes.specs.Inverse.{AreWords, AreBytes, worth, Inverse}
use Rattle.word_bytes.proofs.Back.{words_back, bytes_back, word_same}

four_worth : (t : List ℕ) (i : ℕ) → word_at t i ≡ worth t (4 * i) + worth t (4 * i + 1) + worth t (4 * i + 2) + worth t (4 * i + 3)
unfolding word_at
four_worth t i =
    let m0 : (4 * i) % 4 ≡ 0 = omega arith in
    let m1 : (4 * i + 1) % 4 ≡ 1 = omega arith in
    let m2 : (4 * i + 2) % 4 ≡ 2 = omega arith in
    let m3 : (4 * i + 3) % 4 ≡ 3 = omega arith in
    rw (m0, m1, m2, m3) (omega arith)

words_again : (ws : List ℕ) → AreWords ws → words_in (bytes_in ws) ≡ ws
words_again ws h =
    let n = length ws in
    let e : length (bytes_in ws) / 4 ≡ n = omega (arith, length_build (byte_at ws) (4 * n)) in
    ap (build (word_at (bytes_in ws))) e ∙ sym (build_is (word_at (bytes_in ws)) 0 ws n refl (λ i l. sym (words_back ws n i l (h i))))

bytes_again : (t : List ℕ) → AreBytes t → length t % 4 ≡ 0 → bytes_in (words_in t) ≡ t
bytes_again t h z =
    let n = 4 * length (words_in t) in
    let e : length t ≡ n = omega (arith, length_build (word_at t) (length t / 4)) in
    sym (build_is (byte_at (words_in t)) 0 t n e (λ j l. sym (bytes_back t j h (omega arith))))

pub inverse : Inverse
unfolding build byte_at word_at
inverse = record {
  is_worth = four_worth;
  known_bytes = refl;
  known_word = refl;
  words_again = words_again;
  bytes_again = bytes_again;
}

-- ---- the words of a text that is cut between words

word_after : (x y : List ℕ) (n i : ℕ) → length x ≡ 4 * n → word_at (x ++ y) (n + i) ≡ word_at y i
unfolding word_at
word_after x y n i e =
    let byte : (k : ℕ) → at (x ++ y) (4 * (n + i) + k) ≡ at y (4 * i + k)
    = λ k.
    let p : 4 * (n + i) + k ≡ length x + (4 * i + k) = omega arith in
    ap (at (x ++ y)) p ∙ get_or-append-add x y (4 * i + k) 0 in
    let zeroth : at (x ++ y) (4 * (n + i)) ≡ at y (4 * i) =
    ap (at (x ++ y)) (sym (add-zero (4 * (n + i)))) ∙ byte 0 ∙ ap (at y) (add-zero (4 * i)) in
    rw (zeroth, byte 1, byte 2, byte 3)

pub words_append : (x y : List ℕ) (n : ℕ) → length x ≡ 4 * n → words_in (x ++ y) ≡ words_in x ++ words_in y
words_append x y n e =
    let m = length y / 4 in
    let a : length (x ++ y) / 4 ≡ n + m = omega (arith, length-append x y, e) in
    let b : n ≡ length x / 4 = omega (arith, e) in
    ap (build (word_at (x ++ y))) a
    ∙ build_append (word_at (x ++ y)) n m
    ∙ ap (λ (t : List ℕ). t ++ build (λ i. word_at (x ++ y) (n + i)) m)
    (build_cong (word_at (x ++ y)) (word_at x) n
    (λ i l. word_same (x ++ y) x i (λ j k. get_or-append x y 0 j (omega (arith, e)))))
    ∙ ap (λ (t : List ℕ). build (word_at x) n ++ t) (build_cong (λ i. word_at (x ++ y) (n + i)) (word_at y) m (λ i l. word_after x y n i e))
    ∙ ap (λ (k : ℕ). build (word_at x) k ++ words_in y) b

module _ (t : List ℕ) (n : ℕ) (l : n ≤ length t / 4) where
  cut_length : length (take (4 * n) t) ≡ 4 * n
  cut_length = length-take-le (4 * n) t (omega arith)

  cut_count : length (words_in (take (4 * n) t)) ≡ n
  cut_count = length_build (word_at (take (4 * n) t)) (length (take (4 * n) t) / 4) ∙ omega (arith, cut_length)

  cut : words_in t ≡ words_in (take (4 * n) t) ++ words_in (drop (4 * n) t)
  cut = ap words_in (sym (take-append-drop (4 * n) t)) ∙ words_append (take (4 * n) t) (drop (4 * n) t) n cut_length

  pub words_take : words_in (take (4 * n) t) ≡ take n (words_in t)
  words_take = sym (ap (take n) cut ∙ take_at (words_in (take (4 * n) t)) (words_in (drop (4 * n) t)) n cut_count)

  pub words_drop : words_in (drop (4 * n) t) ≡ drop n (words_in t)
  words_drop = sym (ap (drop n) cut ∙ drop_at (words_in (take (4 * n) t)) (words_in (drop (4 * n) t)) n cut_count)

-- words put at the front of a text
pub words_filled : (ws t : List ℕ) → AreWords ws → length ws ≤ length t / 4
    → words_in (filled (byte_at ws) (4 * length ws) t) ≡ ws ++ drop (length ws) (words_in t)
unfolding filled
words_filled ws t h l =
    words_append (bytes_in ws) (drop (4 * length ws) t) (length ws) (length_build (byte_at ws) (4 * length ws))
    ∙ ap (λ (v : List ℕ). v ++ words_in (drop (4 * length ws) t)) (words_again ws h)
    ∙ ap (λ (v : List ℕ). ws ++ v) (words_drop t (length ws) l)
