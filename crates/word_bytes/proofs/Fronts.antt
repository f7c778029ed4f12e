-- Words put one after the other, from the first on, are the front of what is lent.
use Rattle.std.proofs.Common.{◌≡◌, ℕ, suc, ◌+◌, ◌*◌, ◌/◌, ◌%◌, ◌^◌, ◌≤◌, List, [], ◌∷◌, ◌++◌, length, take, drop, slice_set, refl, ap, ◌∙◌, add-one, arith}
use Rattle.std.proofs.lemmas.List.{get_or-take, length-take-le}
use Rattle.std.proofs.lemmas.List.Edits.{sets}
use Rattle.std.proofs.Math.Seq.{sets-eq}
use native.Mathlib.Nat.{zero-add, add-zero}
use Rattle.answer.specs.Lists.{filled}
use Rattle.answer.proofs.Lists.{filled_cong}
use Rattle.word_bytes.specs.Bytes.{byte_at}
use Rattle.word_bytes.specs.Engine.{word_put, words_put}
use Rattle.word_bytes.specs.Lent.{puts}
use Rattle.word_bytes.proofs.Four.{all_put}

puts_sets : (t : List ℕ) (i : ℕ) (xs : List ℕ) → puts slice_set t i xs ≡ sets t i xs
puts_sets t i [] = refl
puts_sets t i (x ∷ xs) = rw add-one (puts_sets (slice_set t i x) (suc i) xs)

-- as numbers
pub numbers_front : (t xs : List ℕ) → length xs ≤ length t → puts slice_set t 0 xs ≡ xs ++ drop (length xs) t
numbers_front t xs h =
    puts_sets t 0 xs ∙ sets-eq xs t 0 (rw zero-add h) ∙ ap (λ (k : ℕ). xs ++ drop k t) (zero-add (length xs))

puts_bytes : (t : List ℕ) (i : ℕ) (xs : List ℕ) → puts word_put t i xs ≡ words_put t i xs
unfolding words_put
puts_bytes t i [] = refl
puts_bytes t i (x ∷ xs) = puts_bytes (word_put t i x) (i + 1) xs

-- as bytes
pub bytes_front : (t xs : List ℕ) → 4 * length xs ≤ length t → puts word_put t 0 xs ≡ filled (byte_at xs) (4 * length xs) t
bytes_front t xs h = puts_bytes t 0 xs ∙ all_put xs t h

-- the first n of the words
pub taken_bytes : (t ws : List ℕ) (n : ℕ) → n ≤ length ws → 4 * n ≤ length t → puts word_put t 0 (take n ws) ≡ filled (byte_at ws) (4 * n) t
unfolding byte_at
taken_bytes t ws n l h =
    let k : length (take n ws) ≡ n = length-take-le n ws l in
    bytes_front t (take n ws) (rw k h)
    ∙ ap (λ (i : ℕ). filled (byte_at (take n ws)) (4 * i) t) k
    ∙ filled_cong (byte_at (take n ws)) (byte_at ws) (4 * n) t (λ j m. ap (λ (x : ℕ). x / 256 ^ (j % 4) % 256) (get_or-take n ws (j / 4) 0 (omega arith)))

-- words after words
pub puts_append : (put : List ℕ → ℕ → ℕ → List ℕ) (t : List ℕ) (i : ℕ) (xs ys : List ℕ)
    → puts put (puts put t i xs) (i + length xs) ys ≡ puts put t i (xs ++ ys)
puts_append put t i [] ys = ap (λ (k : ℕ). puts put t k ys) (add-zero i)
puts_append put t i (x ∷ xs) ys =
    let e : i + length (x ∷ xs) ≡ i + 1 + length xs = omega arith in
    rw e (puts_append put (put t i x) (i + 1) xs ys)
