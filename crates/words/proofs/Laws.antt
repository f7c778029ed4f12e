-- The parts of a frame are had back from its words.
use mathlib.Core.Path.{◌≡◌, refl, ◌∙◌, ap}
use mathlib.Core.Bool.{Bool, true, false, cond}
use mathlib.Core.List.{List, [], ◌∷◌, ◌++◌}
use Prim.Native.Nat.{ℕ, zero, suc, ◌+◌, ◌-◌, ◌*◌, ◌/◌, ◌%◌, ◌^◌, ◌≤◌, ◌<◌}
use native.Mathlib.Omega.{arith}
use native.Mathlib.Nat.{mod-lt, mod-eq_of_lt, add-zero, div-one}
use lib.Dec.{ltb, eqb}
use borrow.Author.Tests.{lt-ltb, ne_eqb}
use Rattle.channel.specs.Fields.{overflow_widths}
use Rattle.bits.specs.Pack.{pack, unpack, Fit}
use Rattle.answer.specs.Lists.{at}
use Rattle.header_values.specs.Header.{ltf_size_of, gi_of}
use Rattle.words.specs.Words.{header, data0_widths, data0_of, overflow_word, value_slot, first_word, triple_word}
use Rattle.words.specs.Words.{alone_widths, alone_word_widths, alone_of, shared_widths, shared_word_widths, shared_of, user_word}
use Rattle.words.specs.Engine.{gi_ltf, overflow_in, overflow_of, value_of, known_of, alone_in, shared_in, field_in, user_field}
use Rattle.bits.proofs.Pack.{unpack_pack, pack_unpack, unpack_fit, pack_lt}

-- ---- User words
alone_fit : (f : ℕ) → Fit alone_word_widths (alone_of (unpack alone_widths f))
alone_fit f =
    let u = unpack_fit alone_widths f in
    (omega arith, (u.0, (u.1.1.1.1.1.0, (u.1.0, (u.1.1.1.0, (u.1.1.0, (u.1.1.1.1.0, tt)))))))

shared_fit : (f : ℕ) → Fit shared_word_widths (shared_of (unpack shared_widths f))
shared_fit f =
    let u = unpack_fit shared_widths f in
    (omega arith, (u.0, (u.1.1.0, (u.1.0, (u.1.1.1.0, tt)))))

-- a User word fits 30 bits
pub user_word_lt : (b : Bool) (f : ℕ) → user_word b f < 2 ^ 30
unfolding user_word
user_word_lt true f = pack_lt shared_word_widths (shared_of (unpack shared_widths f)) (shared_fit f)
user_word_lt false f = pack_lt alone_word_widths (alone_of (unpack alone_widths f)) (alone_fit f)

-- its fields are the User field's
pub shared_parts : (f : ℕ) → unpack shared_word_widths (user_word true f) ≡ shared_of (unpack shared_widths f)
unfolding user_word
shared_parts f = unpack_pack shared_word_widths (shared_of (unpack shared_widths f)) (shared_fit f)

pub alone_parts : (f : ℕ) → unpack alone_word_widths (user_word false f) ≡ alone_of (unpack alone_widths f)
unfolding user_word
alone_parts f = unpack_pack alone_word_widths (alone_of (unpack alone_widths f)) (alone_fit f)

-- its known bits tell its format
known_shared : (f : ℕ) → user_word true f % 256 ≡ 0x47
known_shared f = ap (λ (vs : List ℕ). at vs 0) (shared_parts f)

known_alone : (f : ℕ) → user_word false f % 256 ≡ 0x3F
known_alone f = ap (λ (vs : List ℕ). at vs 0) (alone_parts f)

field_in_word : (b : Bool) (f : ℕ) → f < 2 ^ 22 → field_in b (user_word b f) ≡ f
field_in_word true f l =
    ap (λ (vs : List ℕ). pack shared_widths (shared_in vs)) (shared_parts f)
    ∙ pack_unpack shared_widths f l
field_in_word false f l =
    ap (λ (vs : List ℕ). pack alone_widths (alone_in vs)) (alone_parts f)
    ∙ pack_unpack alone_widths f l

-- a User field of 22 bits is had back from its word, whatever its format
pub user_field_word : (b : Bool) (f : ℕ) → f < 2 ^ 22 → user_field (user_word b f) ≡ f
unfolding user_field
user_field_word true f l = rw (known_shared f) (field_in_word true f l)
user_field_word false f l = rw (known_alone f) (field_in_word false f l)

-- and fits its 22 bits, whatever the word
pub user_field_lt : (w : ℕ) → user_field w < 2 ^ 22
unfolding user_field
user_field_lt w = go (eqb (w % 256) 0x47)
  where
    go : (b : Bool) → field_in b w < 2 ^ 22
    go true =
        let u = unpack_fit shared_word_widths w in
        pack_lt shared_widths (shared_in (unpack shared_word_widths w)) (u.1.0, (u.1.1.1.0, (u.1.1.0, (u.1.1.1.1.0, tt))))
    go false =
        let u = unpack_fit alone_word_widths w in
        pack_lt alone_widths (alone_in (unpack alone_word_widths w))
        (u.1.0, (u.1.1.1.0, (u.1.1.1.1.1.0, (u.1.1.1.1.0, (u.1.1.1.1.1.1.0, (u.1.1.0, tt))))))

-- ---- data[0]
gi_lt : (g : ℕ) → g < 4 → (gi_of g < 4) × (ltf_size_of g < 4) × (gi_ltf (gi_of g) (ltf_size_of g) ≡ g)
gi_lt zero l = (omega arith, omega arith, refl)
gi_lt (suc zero) l = (omega arith, omega arith, refl)
gi_lt (suc (suc zero)) l = (omega arith, omega arith, refl)
gi_lt (suc (suc (suc zero))) l = (omega arith, omega arith, refl)
gi_lt (suc (suc (suc (suc g)))) l = absurd (omega arith)

data0_fit : (v t : ℕ) → t < 2 ^ 10 → Fit data0_widths (data0_of (unpack overflow_widths v) t)
data0_fit v t l =
    let u = unpack_fit overflow_widths v in
    let g = gi_lt (at (unpack overflow_widths v) 1) u.1.0 in
    (omega arith, (u.0, (g.0, (g.1, (u.1.1.0, (u.1.1.1.0, (u.1.1.1.1.0, (u.1.1.1.1.1.0, (u.1.1.1.1.1.1.0, (l, tt))))))))))

pub overflow_word_lt : (v t : ℕ) → t < 2 ^ 10 → overflow_word v t < 2 ^ 32
unfolding overflow_word
overflow_word_lt v t l = pack_lt data0_widths (data0_of (unpack overflow_widths v) t) (data0_fit v t l)

-- the overflow of 17 bits is had back from data[0]
pub overflow_of_word : (v t : ℕ) → v < 2 ^ 17 → t < 2 ^ 10 → overflow_of (overflow_word v t) ≡ v
unfolding overflow_of overflow_word
overflow_of_word v t lv lt =
    let u = unpack overflow_widths v in
    let g = (gi_lt (at u 1) (unpack_fit overflow_widths v).1.0).2 in
    ap (λ (vs : List ℕ). pack overflow_widths (overflow_in vs)) (unpack_pack data0_widths (data0_of u t) (data0_fit v t lt))
    ∙ ap (λ (x : ℕ). pack overflow_widths (at u 0 ∷ x ∷ at u 2 ∷ at u 3 ∷ at u 4 ∷ at u 5 ∷ at u 6 ∷ [])) g
    ∙ pack_unpack overflow_widths v lv

-- ---- the row
pub slot_lt : (row : ℕ → ℕ) (n p : ℕ) → value_slot row n p < 2 ^ 10
unfolding value_slot
slot_lt row n p = go (ltb p n)
  where
    go : (b : Bool) → cond b (pack (9 ∷ 1 ∷ []) (row p % 2 ^ 9 ∷ 1 ∷ [])) 0 < 2 ^ 10
    go true = pack_lt (9 ∷ 1 ∷ []) (row p % 2 ^ 9 ∷ 1 ∷ []) (mod-lt (row p) (omega arith), (omega arith, tt))
    go false = omega arith

-- a slot's value, and its known bit
pub slot_value : (row : ℕ → ℕ) (n p : ℕ) → p < n → row p < 2 ^ 9 → value_slot row n p % 2 ^ 9 ≡ row p
unfolding value_slot
slot_value row n p l h =
    rw (lt-ltb p n l, mod-eq_of_lt h)
    (ap (λ (vs : List ℕ). at vs 0) (unpack_pack (9 ∷ 1 ∷ []) (row p ∷ 1 ∷ []) (h, (omega arith, tt))))

pub slot_known : (row : ℕ → ℕ) (n p : ℕ) → value_slot row n p / 2 ^ 9 ≡ cond (ltb p n) 1 0
unfolding value_slot
slot_known row n p = go (ltb p n)
  where
    go : (b : Bool) → cond b (pack (9 ∷ 1 ∷ []) (row p % 2 ^ 9 ∷ 1 ∷ [])) 0 / 2 ^ 9 ≡ cond b 1 0
    go true = omega (arith, mod-lt (row p) {m = 2 ^ 9} (omega arith))
    go false = refl

-- the j-th slot of a word of three
triple_slot : (row : ℕ → ℕ) (n q j : ℕ) → j < 3 → triple_word row n q / 2 ^ (10 * j) % 2 ^ 10 ≡ value_slot row n (q + j)
unfolding triple_word
triple_slot row n q j l = go j l
  where
    u : unpack (10 ∷ 10 ∷ 10 ∷ []) (pack (10 ∷ 10 ∷ 10 ∷ []) (value_slot row n q ∷ value_slot row n (q + 1) ∷ value_slot row n (q + 2) ∷ []))
        ≡ (value_slot row n q ∷ value_slot row n (q + 1) ∷ value_slot row n (q + 2) ∷ [])
    u =
        unpack_pack (10 ∷ 10 ∷ 10 ∷ []) (value_slot row n q ∷ value_slot row n (q + 1) ∷ value_slot row n (q + 2) ∷ [])
        (slot_lt row n q, (slot_lt row n (q + 1), (slot_lt row n (q + 2), tt)))

    w : ℕ
    w = pack (10 ∷ 10 ∷ 10 ∷ []) (value_slot row n q ∷ value_slot row n (q + 1) ∷ value_slot row n (q + 2) ∷ [])

    go : (i : ℕ) → i < 3 → w / 2 ^ (10 * i) % 2 ^ 10 ≡ value_slot row n (q + i)
    go zero k = rw (add-zero q, div-one w) (ap (λ (vs : List ℕ). at vs 0) u)
    go (suc zero) k = ap (λ (vs : List ℕ). at vs 1) u
    go (suc (suc zero)) k = let e : w / 2 ^ 20 % 2 ^ 10 ≡ w / 2 ^ 10 / 2 ^ 10 % 2 ^ 10 = omega arith in e ∙ ap (λ (vs : List ℕ). at vs 2) u
    go (suc (suc (suc i))) k = absurd (omega arith)

module _ (bw v t t₂ : ℕ) (row : ℕ → ℕ) (n : ℕ) (rest : List ℕ) where
  nth_triple : (k : ℕ) → k < 5 → at (header bw v t t₂ row n ++ rest) (3 + k) ≡ triple_word row n (1 + 3 * k)
  nth_triple zero l = refl
  nth_triple (suc zero) l = refl
  nth_triple (suc (suc zero)) l = refl
  nth_triple (suc (suc (suc zero))) l = refl
  nth_triple (suc (suc (suc (suc zero)))) l = refl
  nth_triple (suc (suc (suc (suc (suc k))))) l = absurd (omega arith)

  -- the ten bits of a position's slot
  first_slot : at (header bw v t t₂ row n ++ rest) 2 / 2 ^ 13 ≡ value_slot row n 0
  first_slot = unfold first_word in omega arith

  later_slot : (p : ℕ) → 0 < p → p < 16
      → at (header bw v t t₂ row n ++ rest) (3 + (p - 1) / 3) / 2 ^ (10 * ((p - 1) % 3)) % 2 ^ 10 ≡ value_slot row n p
  later_slot p l u =
      rw (nth_triple ((p - 1) / 3) (omega arith))
      (triple_slot row n (1 + 3 * ((p - 1) / 3)) ((p - 1) % 3) (omega arith)
      ∙ ap (value_slot row n) (omega arith))

  -- the row is had back, and which positions there are
  pub value_of_header : (p : ℕ) → p < n → n ≤ 16 → row p < 2 ^ 9 → value_of (header bw v t t₂ row n ++ rest) p ≡ row p
  unfolding value_of
  value_of_header zero l u h = rw first_slot (slot_value row n 0 l h)
  value_of_header (suc p) l u h =
      let e = later_slot (suc p) (omega arith) (omega arith) in
      let s = slot_value row n (suc p) l h in
      rw (ne_eqb (suc p) 0 (λ z. omega arith)) (omega arith)

  pub known_of_header : (p : ℕ) → p < 16 → known_of (header bw v t t₂ row n ++ rest) p ≡ cond (ltb p n) 1 0
  unfolding known_of
  known_of_header zero l =
      let e = first_slot in
      let s = slot_known row n 0 in
      let m = slot_lt row n 0 in
      omega arith
  known_of_header (suc p) l =
      let e = later_slot (suc p) (omega arith) l in
      let s = slot_known row n (suc p) in
      rw (ne_eqb (suc p) 0 (λ z. omega arith), ← s) (omega arith)

-- it is nine bits
pub value_of_lt : (w : List ℕ) (p : ℕ) → value_of w p < 512
unfolding value_of
value_of_lt w p = go (eqb p 0)
  where
    go : (t : Bool) → cond t (at w 2 / 2 ^ 13 % 2 ^ 9) (at w (3 + (p - 1) / 3) / 2 ^ (10 * ((p - 1) % 3)) % 2 ^ 9) < 512
    go true = mod-lt (at w 2 / 2 ^ 13) (omega arith)
    go false = mod-lt (at w (3 + (p - 1) / 3) / 2 ^ (10 * ((p - 1) % 3))) (omega arith)
