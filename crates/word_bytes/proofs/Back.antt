-- Words as bytes are the same words, and bytes as words the same bytes.
use mathlib.Core.Path.{◌≡◌, refl, sym, ◌∙◌, ap}
use mathlib.Core.List.{List}
use Prim.Native.Nat.{ℕ, zero, suc, ◌+◌, ◌*◌, ◌/◌, ◌%◌, ◌^◌, ◌<◌}
use native.Mathlib.Omega.{arith}
use native.Mathlib.Nat.{add-zero, div-one}
use lib.ListN.{length}
use Rattle.answer.specs.Lists.{build, at}
use Rattle.answer.proofs.Lists.{get_d_build}
use Rattle.word_bytes.specs.Bytes.{byte_at, word_at, words_in}
use Rattle.word_bytes.proofs.Four.{byte_of}

four_bytes : (x a b c d : ℕ) → x < 4294967296 → a ≡ x % 256 → b ≡ x / 256 % 256 → c ≡ x / 65536 % 256 → d ≡ x / 16777216 % 256
    → a + 256 * (b + 256 * (c + 256 * d)) ≡ x
four_bytes x a b c d l ea eb ec ed =
    let two : x / 65536 ≡ x / 256 / 256 = omega arith in
    let three : x / 16777216 ≡ x / 256 / 256 / 256 = omega arith in
    let last : d ≡ x / 256 / 256 / 256 = omega (arith, three, ed, l) in
    let upper : c + 256 * d ≡ x / 256 / 256 = omega (arith, two, ec, last) in
    let most : b + 256 * (c + 256 * d) ≡ x / 256 = omega (arith, eb, upper) in
    omega (arith, ea, most)

-- word i of the bytes of n words
pub words_back : (ws : List ℕ) (n i : ℕ) → i < n → at ws i < 4294967296 → word_at (build (byte_at ws) (4 * n)) i ≡ at ws i
unfolding word_at
words_back ws n i l h =
    let byte : (k : ℕ) → k < 4 → at (build (byte_at ws) (4 * n)) (4 * i + k) ≡ at ws i / 256 ^ k % 256
    = λ k m. get_d_build (byte_at ws) (4 * n) (4 * i + k) 0 (omega arith) ∙ byte_of ws i k m in
    four_bytes (at ws i) _ _ _ _ h
    (ap (at (build (byte_at ws) (4 * n))) (sym (add-zero (4 * i))) ∙ byte 0 (omega arith) ∙ ap (λ (x : ℕ). x % 256) (div-one (at ws i)))
    (byte 1 (omega arith)) (byte 2 (omega arith)) (byte 3 (omega arith))

byte_in : (a b c d k : ℕ) → a < 256 → b < 256 → c < 256 → d < 256 → k < 4 → (f : ℕ → ℕ) → f 0 ≡ a → f 1 ≡ b → f 2 ≡ c → f 3 ≡ d
    → (a + 256 * (b + 256 * (c + 256 * d))) / 256 ^ k % 256 ≡ f k
byte_in a b c d zero la lb lc ld l f e0 e1 e2 e3 = omega (arith, e0)
byte_in a b c d (suc zero) la lb lc ld l f e0 e1 e2 e3 = omega (arith, e1)
byte_in a b c d (suc (suc zero)) la lb lc ld l f e0 e1 e2 e3 = omega (arith, e2)
byte_in a b c d (suc (suc (suc zero))) la lb lc ld l f e0 e1 e2 e3 = omega (arith, e3)
byte_in a b c d (suc (suc (suc (suc k)))) la lb lc ld l f e0 e1 e2 e3 = absurd (omega arith)

-- byte j of the words of bytes
pub bytes_back : (t : List ℕ) (j : ℕ) → ((k : ℕ) → at t k < 256) → j < 4 * (length t / 4) → byte_at (words_in t) j ≡ at t j
unfolding byte_at word_at
bytes_back t j s l =
    let i = j / 4 in
    let e : 4 * i + j % 4 ≡ j = omega arith in
    ap (λ (x : ℕ). x / 256 ^ (j % 4) % 256) (get_d_build (word_at t) (length t / 4) i 0 (omega arith))
    ∙ byte_in (at t (4 * i)) (at t (4 * i + 1)) (at t (4 * i + 2)) (at t (4 * i + 3)) (j % 4) (s (4 * i)) (s (4 * i + 1)) (s (4 * i + 2)) (s (4 * i + 3))
    (omega arith) (λ k. at t (4 * i + k)) (ap (at t) (add-zero (4 * i))) refl refl refl
    ∙ ap (at t) e

-- a word is known by its four bytes
pub word_same : (s t : List ℕ) (i : ℕ) → ((j : ℕ) → j < 4 * (i + 1) → at s j ≡ at t j) → word_at s i ≡ word_at t i
unfolding word_at
word_same s t i f = rw (f (4 * i) (omega arith), f (4 * i + 1) (omega arith), f (4 * i + 2) (omega arith), f (4 * i + 3) (omega arith))
