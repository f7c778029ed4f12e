-- Which value of a channel gives a User field.
use mathlib.Core.Path.{◌≡◌, refl, sym, ◌∙◌, ap}
use mathlib.Core.Bool.{false, cond}
use mathlib.Core.List.{List}
use mathlib.Core.Logic.{⊎_elim}
use Prim.Native.Nat.{ℕ, zero, suc, ◌+◌, ◌-◌, ◌^◌, ◌≤◌, ◌<◌}
use native.Mathlib.Omega.{arith}
use native.Mathlib.Nat.{eq-or-lt_of_le, zero-div}
use native.Mathlib.Decide.{dec_lt}
use lib.Dec.{ltb}
use lib.ListN.{length, get_or, take, drop}
use lib.Seq.{get_or-drop}
use borrow.Author.Tests.{lt-ltb, le-ltb}
use Rattle.answer.specs.Lists.{at, filled, Front}
use Rattle.answer.proofs.Lists.{get_d_kept}
use Rattle.answer.specs.Least.{least}
use Rattle.answer.proofs.Grow.{part_tail}
use Rattle.answer.proofs.Least.{least_is, least_below}
use Rattle.resource.specs.Values.{fields_of}
use Rattle.channel.specs.Layout.{subfields_in, value, total, count, user, user_of}
use Rattle.channel.proofs.Laws.{total_next, count_le}
use Rattle.words.specs.Words.{user_word}
use Rattle.user_words.specs.Engine.{run_word}
use Rattle.frame_words.specs.Engine.{Holds, Formats, user_word_of}
use Rattle.frame_words.specs.Words.{before, giver, shared_at, position_in, user_word_at}

-- from the fields that are words on, those behind are as they were
past_filled : (f : ℕ → ℕ) (j : ℕ) (w fields : List ℕ) (i : ℕ) → w ≡ filled f j fields → j ≤ length w → at (take (length w - j) (drop j w)) i ≡ at fields (j + i)
past_filled f j w fields i o q =
    ap (λ (z : List ℕ). at z i) (part_tail w j q)
    ∙ get_or-drop j w i 0
    ∙ ap (λ (z : List ℕ). at z (j + i)) o
    ∙ get_d_kept f j fields (j + i) 0 (omega arith)

total_rises : (f : ℕ → ℕ) (m n : ℕ) → m ≤ n → total f m ≤ total f n
unfolding total
total_rises f m zero l = let e : m ≡ 0 = omega arith in rw e (omega arith)
total_rises f m (suc n) l =
    ⊎_elim (λ (e : m ≡ suc n). rw e (unfold total in omega arith)) (λ (h : m < suc n). let r = total_rises f m n (omega arith) in omega arith)
    (eq-or-lt_of_le {n = m} {m = suc n} l)

module _ (bw c : ℕ) (s : List ℕ) (k : ℕ) (l : k < subfields_in bw c) where
  pub before_next : before bw s k + fields_of (value bw s k) ≡ before bw s (k + 1)
  before_next = total_next (λ i. fields_of (value bw s i)) k

  -- a value's fields are some of the channel's
  pub before_count : before bw s (k + 1) ≤ count bw c s
  unfolding count
  before_count = total_rises (λ i. fields_of (value bw s i)) (k + 1) (subfields_in bw c) (omega arith)

  -- the k-th value gives the fields from those before it up to those before the next
  pub giver_is : (j : ℕ) → before bw s k ≤ j → j < before bw s (k + 1) → giver bw c s j ≡ k
  unfolding giver
  giver_is j a z =
      least_is (λ i. ltb j (before bw s (i + 1))) (subfields_in bw c) k (omega arith)
      (λ h. lt-ltb j (before bw s (k + 1)) z)
      (λ i h. le-ltb j (before bw s (i + 1)) (omega (arith, total_rises (λ q. fields_of (value bw s q)) (i + 1) k (omega arith))))

  -- so its run of words, of the channel's fields as numbers, is the channel's from there on: those before are words already
  pub run_words : (row fields w : List ℕ) (j i : ℕ) → w ≡ filled (user_word_at bw row c s) j fields → j ≡ before bw s k → j ≤ length w
      → Front (user bw s) (count bw c s) fields → i < fields_of (value bw s k)
      → run_word (take (length w - j) (drop j w)) (shared_at row (position_in c k)) i ≡ user_word_at bw row c s (j + i)
  unfolding user_word_at run_word
  run_words row fields w j i o b q f h =
      let e = f.front (j + i) (omega (arith, before_next, before_count)) in
      rw (past_filled (user_word_at bw row c s) j w fields i o q, e, giver_is (j + i) (omega arith) (omega (arith, before_next)))

-- a turn of the loop over a channel's values: at value k, which the row r has at its position, j fields came before and m are its own
pub record Turn (bw c : ℕ) (s r : List ℕ) (j k m : ℕ) : Type 0 where
  pub there : k < subfields_in bw c
  pub inside : position_in c k < length r
  pub own : m ≡ fields_of (value bw s k)
  pub next : j + m ≡ before bw s (k + 1)
  pub fits : j + m ≤ count bw c s
  pub few : j + m ≤ 72

pub turn : (bw c : ℕ) (s r : List ℕ) (j k m : ℕ) → Holds bw c s r → k < subfields_in bw c → j ≡ before bw s k → m ≡ fields_of (get_or r (position_in c k) 0)
    → Turn bw c s r j k m
turn bw c s r j k m h l e f =
    let g : m ≡ fields_of (value bw s k) = f ∙ ap fields_of (h.holds k l) in
    let n : j + m ≡ before bw s (k + 1) = omega (arith, before_next bw c s k l) in
    let i : j + m ≤ count bw c s = omega (arith, before_count bw c s k l) in
    record { there = l; inside = h.inside k l; own = g; next = n; fits = i; few = omega (arith, count_le bw c s) }

pub count_before : (bw c : ℕ) (s : List ℕ) → before bw s (subfields_in bw c) ≡ count bw c s
unfolding count
count_before bw c s = refl

pub before_none : (bw : ℕ) (s : List ℕ) → 0 ≡ before bw s 0
unfolding total
before_none bw s = refl

-- the channel has a value that gives each of its fields
pub giver_below : (bw c : ℕ) (s : List ℕ) (j : ℕ) → j < count bw c s → giver bw c s j < subfields_in bw c
unfolding count giver
giver_below bw c s j l = go (subfields_in bw c) refl
  where
    go : (n : ℕ) → subfields_in bw c ≡ n → least (λ k. ltb j (before bw s (k + 1))) (subfields_in bw c) < subfields_in bw c
    go zero e = absurd (let h : j < before bw s 0 = rw e at l in unfold total in omega arith)
    go (suc n) e =
        let h : j < before bw s (n + 1) = let f : subfields_in bw c ≡ n + 1 = omega arith in rw f at l in
        omega (arith, least_below (λ k. ltb j (before bw s (k + 1))) (subfields_in bw c) n (omega arith) (lt-ltb j (before bw s (n + 1)) h))

-- where no position's fields share their resource, each word is that of a field alone
lone_word : (bw c : ℕ) (s r : List ℕ) → Holds bw c s r → Formats r 0 → (j : ℕ) → j < count bw c s → user_word false (user bw s j) ≡ user_word_at bw r c s j
unfolding user_word_at
lone_word bw c s r h f j l =
    let g = giver_below bw c s j l in
    let p = position_in c (giver bw c s j) in
    let e : shared_at r p ≡ false = sym (f.format p (h.inside (giver bw c s j) g)) ∙ rw (zero-div (2 ^ p)) refl in
    rw e

-- ---- both channels, of whose fields n are channel 1's and m channel 2's

module _ (bw : ℕ) (a b r : List ℕ) (n : ℕ) where
  pub word_one : (i : ℕ) → i < n → user_word_at bw r 1 a i ≡ user_word_of bw r a b n i
  unfolding user_word_of
  word_one i l = rw (lt-ltb i n l)

  pub word_other : (i : ℕ) → user_word_at bw r 2 b i ≡ user_word_of bw r a b n (n + i)
  unfolding user_word_of
  word_other i = let e : n + i - n ≡ i = omega arith in rw (le-ltb (n + i) n (omega arith), e)

  -- one run, where all fields are alone
  pub lone_words : (fields : List ℕ) (m : ℕ) → Holds bw 1 a r → Holds bw 2 b r → Formats r 0 → n ≡ count bw 1 a → m ≡ count bw 2 b
      → Front (user_of bw a b n) (n + m) fields → (j : ℕ) → j < n + m → run_word fields false j ≡ user_word_of bw r a b n j
  unfolding run_word user_word_of user_of
  lone_words fields m h k f e d w j l =
      ap (user_word false) (w.front j l) ∙ go (dec_lt j n)
    where
      go : Dec (j < n)
          → user_word false (cond (ltb j n) (user bw a j) (user bw b (j - n))) ≡ cond (ltb j n) (user_word_at bw r 1 a j) (user_word_at bw r 2 b (j - n))
      go (yes q) = rw (lt-ltb j n q) (lone_word bw 1 a r h f j (omega arith))
      go (no q) = rw (le-ltb j n (omega arith)) (lone_word bw 2 b r k f (j - n) (omega arith))

  -- the numbers of one channel
  pub front_1 : (fields : List ℕ) (m k : ℕ) → k ≡ n → Front (user_of bw a b n) (n + m) fields → Front (user bw a) k fields
  unfolding user_of
  front_1 fields m k e w = record {
    front = λ i l. w.front i (omega arith) ∙ rw (lt-ltb i n (omega arith));
  }

  -- of the second, where the first's are words already
  pub front_2 : (f : ℕ → ℕ) (fields w : List ℕ) (m : ℕ) → w ≡ filled f n fields → n ≤ length w → Front (user_of bw a b n) (n + m) fields
      → Front (user bw b) m (take (length w - n) (drop n w))
  unfolding user_of
  front_2 f fields w m o l k = record {
    front = λ i h.
        let e : n + i - n ≡ i = omega arith in
        past_filled f n w fields i o l
        ∙ k.front (n + i) (omega arith)
        ∙ rw (le-ltb (n + i) n (omega arith), e);
  }
