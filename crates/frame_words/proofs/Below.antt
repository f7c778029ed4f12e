-- Each word of a frame is of 32 bits. 01, "What comes back": "Words, lent as 32-bit numbers".
use mathlib.Core.Bool.{Bool, true, false, cond}
use mathlib.Core.List.{List, [], ◌∷◌, ◌++◌}
use Prim.Native.Nat.{ℕ, zero, suc, ◌+◌, ◌^◌, ◌<◌}
use native.Mathlib.Omega.{arith}
use lib.Dec.{ltb}
use Rattle.answer.specs.Lists.{build, at}
use Rattle.bits.specs.Bits.{field}
use Rattle.bits.proofs.Fields.{field_lt}
use Rattle.bits.proofs.Pack.{pack_lt}
use Rattle.header_values.specs.Header.{known}
use Rattle.channel.specs.Layout.{overflow, first_bits, second_at, second_bits, row, count, user_at}
use Rattle.words.specs.Words.{value_slot, first_word, triple_word, second_word}
use Rattle.words.proofs.Laws.{user_word_lt, overflow_word_lt, slot_lt}
use Rattle.frame_words.specs.Words.{giver, position_in, shared_at, user_word_at, user_words, header_of, words_of_row, words_of}

-- ---- lists of numbers below 2 ^ 32
record Below (l : List ℕ) : Type 0 where
  pub below : (i : ℕ) → at l i < 2 ^ 32

none : Below []
none = record { below = λ i. omega arith }

more : {x : ℕ} {l : List ℕ} → x < 2 ^ 32 → Below l → Below (x ∷ l)
more {x} {l} h w = record { below = go }
  where
    go : (i : ℕ) → at (x ∷ l) i < 2 ^ 32
    go zero = h
    go (suc i) = w.below i

both : (l m : List ℕ) → Below l → Below m → Below (l ++ m)
both [] m v w = w
both (x ∷ l) m v w = more (v.below 0) (both l m (record { below = λ i. v.below (suc i) }) w)

each : (f : ℕ → ℕ) (n : ℕ) → ((i : ℕ) → f i < 2 ^ 32) → Below (build f n)
unfolding build
each f zero h = none
each f (suc n) h = both (build f n) (f n ∷ []) (each f n h) (more (h n) none)

-- ---- the words
known_below : (bw : ℕ) → known bw < 2 ^ 32
unfolding known
known_below bw = go (ltb bw 3)
  where
    go : (t : Bool) → cond t 0x61F6 0x1E1F6 < 2 ^ 32
    go true = omega arith
    go false = omega arith

first_below : (r : ℕ → ℕ) (n : ℕ) → first_word r n < 2 ^ 32
unfolding first_word
first_below r n = omega (arith, pack_lt (13 ∷ 10 ∷ []) (0 ∷ value_slot r n 0 ∷ []) (omega arith, (slot_lt r n 0, tt)))

triple_below : (r : ℕ → ℕ) (n p : ℕ) → triple_word r n p < 2 ^ 32
unfolding triple_word
triple_below r n p =
    omega (
      arith,
      pack_lt (10 ∷ 10 ∷ 10 ∷ []) (value_slot r n p ∷ value_slot r n (p + 1) ∷ value_slot r n (p + 2) ∷ [])
          (slot_lt r n p, (slot_lt r n (p + 1), (slot_lt r n (p + 2), tt))),
    )

second_below : (bw t : ℕ) → t < 2 ^ 10 → second_word bw t < 2 ^ 32
unfolding second_word
second_below bw t l = go (ltb bw 3)
  where
    go : (b : Bool) → cond b 0 t < 2 ^ 32
    go true = omega arith
    go false = omega arith

header_below : (bw : ℕ) (r a : List ℕ) → Below (header_of bw r a)
header_below bw r a =
    more (known_below bw)
    (more (overflow_word_lt (overflow a) (field a (first_bits bw) 10) (field_lt a (first_bits bw) 10))
    (more (first_below _ _)
    (more (triple_below _ _ 1)
    (more (triple_below _ _ 4)
    (more (triple_below _ _ 7)
    (more (triple_below _ _ 10)
    (more (triple_below _ _ 13)
    (more (second_below bw _ (field_lt a (second_at bw + second_bits bw) 10))
    (more (omega arith) none)))))))))

users_below : (bw : ℕ) (r : List ℕ) (c : ℕ) (s : List ℕ) → Below (user_words bw r c s)
unfolding user_word_at
users_below bw r c s =
    each (user_word_at bw r c s) (count bw c s)
    (λ j. omega (arith, user_word_lt (shared_at r (position_in c (giver bw c s j))) (field s (user_at bw j) 22)))

pub words_below : (bw : ℕ) (a b : List ℕ) (i : ℕ) → at (words_of bw a b) i < 2 ^ 32
unfolding words_of words_of_row
words_below bw a b =
    let r = row bw a b in
    (both (header_of bw r a) _ (header_below bw r a) (both (user_words bw r 1 a) _ (users_below bw r 1 a) (users_below bw r 2 b))).below
