-- Single words: the tests of the code decide whether a word is one that is made of the parts which it tells.
use mathlib.Core.Path.{◌≡◌, refl, sym, ◌∙◌, ap}
use mathlib.Core.Bool.{Bool, true, false, ◌&&◌, ◌||◌, true≢false}
use mathlib.Core.List.{List, [], ◌∷◌}
use Prim.Native.Nat.{ℕ, zero, suc, ◌+◌, ◌*◌, ◌/◌, ◌%◌, ◌^◌, ◌≤◌, ◌<◌}
use native.Mathlib.Nat.{mod-lt, mod-eq_of_lt}
use native.Mathlib.Omega.{arith}
use lib.Dec.{eqb, leb, ltb}
use lib.Pow.{shr-shr}
use borrow.Author.Tests.{eq-eqb, eqb-true, ne_eqb, lt-ltb, le-ltb, ltb-true, le-leb, leb-true}
use Rattle.answer.specs.Decides.{Decides}
use Rattle.answer.specs.Lists.{at}
use Rattle.answer.proofs.Every.{both_left, both_right}
use Rattle.bits.specs.Pack.{pack, unpack}
use Rattle.bits.proofs.Pack.{pack_unpack, unpack_pack, unpack_fit}
use Rattle.channel.specs.Fields.{overflow_widths}
use Rattle.header_values.specs.Header.{ltf_size_of, gi_of}
use Rattle.words.specs.Words.{data0_widths, data0_of, overflow_word, user_word}
use Rattle.words.specs.Words.{alone_widths, alone_word_widths, alone_of, shared_widths, shared_word_widths, shared_of}
use Rattle.words.specs.Engine.{gi_ltf, overflow_of, value_of, alone_in, shared_in, field_in, user_field}
use Rattle.words.specs.Engine as W
use Rattle.words.proofs.Laws.{user_word_lt, shared_parts, alone_parts}
use Rattle.judge.specs.Engine.{Overflow, first_from, three_from, formatted}
use Rattle.candidate.proofs.Said.{gi_ltf_lt}

-- a test that is true exactly where a fact holds
pub decides : {A : Type 0} (t : Bool) → (t ≡ true → A) → (A → t ≡ true) → Decides t A
decides t f g = record { yes = f; no = λ e a. true≢false (sym (g a) ∙ e) }

pub both : {x y : Bool} → x ≡ true → y ≡ true → x && y ≡ true
both e f = rw (e, f)

-- ---- data[0]

-- the pairs of GI and LTF size that a GI+LTF gives
abbrev pub is_pair : ℕ → Bool
is_pair y = eqb y 8 || eqb y 9 || eqb y 12 || eqb y 14

pair_has : (y : ℕ) → is_pair y ≡ true → (gi_of (gi_ltf (y % 4) (y / 4)) ≡ y % 4) × (ltf_size_of (gi_ltf (y % 4) (y / 4)) ≡ y / 4)
pair_has y e = go (eqb y 8) (eqb y 9) (eqb y 12) (eqb y 14) refl refl refl refl e
  where
    is : (n : ℕ) → eqb y n ≡ true → (gi_of (gi_ltf (n % 4) (n / 4)) ≡ n % 4) × (ltf_size_of (gi_ltf (n % 4) (n / 4)) ≡ n / 4)
        → (gi_of (gi_ltf (y % 4) (y / 4)) ≡ y % 4) × (ltf_size_of (gi_ltf (y % 4) (y / 4)) ≡ y / 4)
    is n h p = rw (eqb-true y n h) p

    go : (p q r s : Bool) → eqb y 8 ≡ p → eqb y 9 ≡ q → eqb y 12 ≡ r → eqb y 14 ≡ s → p || q || r || s ≡ true
        → (gi_of (gi_ltf (y % 4) (y / 4)) ≡ y % 4) × (ltf_size_of (gi_ltf (y % 4) (y / 4)) ≡ y / 4)
    go true q r s a b c d f = is 8 a (refl, refl)
    go false true r s a b c d f = is 9 b (refl, refl)
    go false false true s a b c d f = is 12 c (refl, refl)
    go false false false true a b c d f = is 14 d (refl, refl)
    go false false false false a b c d f = absurd (true≢false (sym f))

has_pair : (g : ℕ) → g < 4 → is_pair (gi_of g + 4 * ltf_size_of g) ≡ true
has_pair zero l = refl
has_pair (suc zero) l = refl
has_pair (suc (suc zero)) l = refl
has_pair (suc (suc (suc zero))) l = refl
has_pair (suc (suc (suc (suc g)))) l = absurd (omega arith)

pub few_size : (g : ℕ) → g < 4 → (gi_of g < 4) × (ltf_size_of g < 4)
few_size zero l = (omega arith, omega arith)
few_size (suc zero) l = (omega arith, omega arith)
few_size (suc (suc zero)) l = (omega arith, omega arith)
few_size (suc (suc (suc zero))) l = (omega arith, omega arith)
few_size (suc (suc (suc (suc g)))) l = absurd (omega arith)

low_pair : (x : ℕ) → x / 2 ^ 3 / 2 ^ 4 % 2 ^ 2 ≡ x / 128 % 16 % 4
low_pair x = let e : x / 2 ^ 3 / 2 ^ 4 ≡ x / 128 = omega arith in rw e (go (x / 128))
  where
    go : (y : ℕ) → y % 2 ^ 2 ≡ y % 16 % 4
    go y = omega arith

high_pair : (x : ℕ) → x / 2 ^ 3 / 2 ^ 4 / 2 ^ 2 % 2 ^ 2 ≡ x / 128 % 16 / 4
high_pair x = let e : x / 2 ^ 3 / 2 ^ 4 ≡ x / 128 = omega arith in rw e (go (x / 128))
  where
    go : (y : ℕ) → y / 2 ^ 2 % 2 ^ 2 ≡ y % 16 / 4
    go y = omega arith

pub top_part : (x : ℕ) → x < 2 ^ 32 → at (unpack data0_widths x) 9 ≡ x / 2 ^ 22
top_part x l =
    rw (
      shr-shr x 3 4,
      shr-shr x 7 2,
      shr-shr x 9 2,
      shr-shr x 11 3,
      shr-shr x 14 1,
      shr-shr x 15 2,
      shr-shr x 17 1,
      shr-shr x 18 4,
    )
    (mod-eq_of_lt (omega arith))

module _ (x : ℕ) where
  abbrev parts : List ℕ
  parts = unpack data0_widths x

  abbrev gi : ℕ
  gi = gi_ltf (at parts 2) (at parts 3)

  -- the overflow's fields are had back from it
  overflow_parts : unpack overflow_widths (overflow_of x) ≡ W.overflow_in parts
  unfolding overflow_of
  overflow_parts =
      let u = unpack_fit data0_widths x in
      unpack_pack overflow_widths (W.overflow_in parts) (
        u.1.0,
        (
          gi_ltf_lt (at parts 2) (at parts 3),
          (u.1.1.1.1.0, (u.1.1.1.1.1.0, (u.1.1.1.1.1.1.0, (u.1.1.1.1.1.1.1.0, (u.1.1.1.1.1.1.1.1.0, tt))))),
        ),
      )

  pub symbols_are : overflow_of x / 2 ^ 6 % 2 ^ 3 ≡ x / 2048 % 8
  symbols_are =
      let e : overflow_of x / 2 ^ 4 / 2 ^ 2 % 2 ^ 3 ≡ x / 2 ^ 3 / 2 ^ 4 / 2 ^ 2 / 2 ^ 2 % 2 ^ 3 = ap (λ (vs : List ℕ). at vs 2) overflow_parts in
      omega arith

  abbrev from_reserved : ℕ → ℕ
  from_reserved v =
      pack data0_widths (v ∷ at parts 1 ∷ at parts 2 ∷ at parts 3 ∷ at parts 4 ∷ at parts 5 ∷ at parts 6 ∷ at parts 7 ∷ at parts 8 ∷ at parts 9 ∷ [])

  remade : overflow_word (overflow_of x) (x / 2 ^ 22) ≡ pack data0_widths (data0_of (W.overflow_in parts) (x / 2 ^ 22))
  unfolding overflow_word
  remade = ap (λ (vs : List ℕ). pack data0_widths (data0_of vs (x / 2 ^ 22))) overflow_parts

  pub overflow_test : x < 2 ^ 32 → Decides (eqb (x % 8) 0 && is_pair (x / 128 % 16) && leb (x / 2048 % 8) 4) (Overflow x)
  overflow_test l = decides (eqb (x % 8) 0 && is_pair (x / 128 % 16) && leb (x / 2048 % 8) 4) yes no
    where
      yes : eqb (x % 8) 0 && is_pair (x / 128 % 16) && leb (x / 2048 % 8) 4 ≡ true → Overflow x
      yes e =
          let f = both_left (eqb (x % 8) 0 && is_pair (x / 128 % 16)) (leb (x / 2048 % 8) 4) e in
          let z : x % 8 ≡ 0 = eqb-true (x % 8) 0 (both_left _ (is_pair (x / 128 % 16)) f) in
          let p = pair_has (x / 128 % 16) (both_right (eqb (x % 8) 0) _ f) in
          let s : x / 2048 % 8 ≤ 4 = leb-true (x / 2048 % 8) 4 (both_right (eqb (x % 8) 0 && is_pair (x / 128 % 16)) _ e) in
          let a : at parts 2 ≡ x / 128 % 16 % 4 = low_pair x in
          let b : at parts 3 ≡ x / 128 % 16 / 4 = high_pair x in
          let c : gi_of gi ≡ at parts 2 = rw (a, b) p.0 in
          let d : ltf_size_of gi ≡ at parts 3 = rw (a, b) p.1 in
          let t : x / 2 ^ 22 ≡ at parts 9 = sym (top_part x l) in
          record {
            made = sym (remade ∙ rw (c, d, t) (ap from_reserved (sym z) ∙ pack_unpack data0_widths x l));
            few = rw symbols_are s;
          }

      places : (x a p q r : ℕ) → x ≡ 0 + 2 ^ 3 * (a + 2 ^ 4 * (p + 2 ^ 2 * (q + 2 ^ 2 * r))) → a < 16 → p < 4 → q < 4 → (x % 8 ≡ 0) × (x / 128 % 16 ≡ p + 4 * q)
      places x a p q r e i j k = (omega arith, omega arith)

      no : Overflow x → eqb (x % 8) 0 && is_pair (x / 128 % 16) && leb (x / 2048 % 8) 4 ≡ true
      no o =
          let g = gi_ltf_lt (at parts 2) (at parts 3) in
          let h = few_size gi g in
          let r = places x (at parts 1) (gi_of gi) (ltf_size_of gi) _ (o.made ∙ remade) (unpack_fit data0_widths x).1.0 h.0 h.1 in
          both (both (eq-eqb (x % 8) 0 r.0) (ap is_pair r.1 ∙ has_pair gi g)) (le-leb (x / 2048 % 8) 4 (rw (← symbols_are) o.few))

-- ---- data[1] to data[6]

pub first_test : (x : ℕ) → Decides (eqb (x / 4194304) 1 && eqb (x % 8192) 0) (x ≡ first_from x)
first_test x =
    decides (eqb (x / 4194304) 1 && eqb (x % 8192) 0)
    (λ e.
    let a : x / 4194304 ≡ 1 = eqb-true _ _ (both_left _ (eqb (x % 8192) 0) e) in
    let b : x % 8192 ≡ 0 = eqb-true _ _ (both_right (eqb (x / 4194304) 1) _ e) in
    omega arith)
    (λ e. both (eq-eqb (x / 4194304) 1 (omega arith)) (eq-eqb (x % 8192) 0 (omega arith)))

-- the known bits of slots, and nothing past them, say the word from its values
one_known : (x : ℕ) → x / 512 % 2 ≡ 1 → x ≡ x % 512 + 512 + 1024 * (x / 1024)
one_known x a = omega arith

known_one : (x v y : ℕ) → v < 512 → x ≡ v + 512 + 1024 * y → (x / 512 % 2 ≡ 1) × (x / 1024 ≡ y)
known_one x v y l e = (omega arith, omega arith)

two_known : (x : ℕ) → x / 512 % 2 ≡ 1 → x / 524288 % 2 ≡ 1 → x ≡ x % 512 + 512 + 1024 * (x / 1024 % 512 + 512 + 1024 * (x / 1048576))
two_known x a b =
    let e : x / 1024 / 512 ≡ x / 524288 = shr-shr x 10 9 in
    let g : x / 1024 / 1024 ≡ x / 1048576 = shr-shr x 10 10 in
    one_known x a
    ∙ ap (λ (y : ℕ). x % 512 + 512 + 1024 * y) (one_known (x / 1024) (rw e b) ∙ ap (λ (y : ℕ). x / 1024 % 512 + 512 + 1024 * y) g)

known_two : (x v u y : ℕ) → v < 512 → u < 512 → x ≡ v + 512 + 1024 * (u + 512 + 1024 * y)
    → (x / 512 % 2 ≡ 1) × (x / 524288 % 2 ≡ 1) × (x / 1048576 ≡ y)
known_two x v u y l m e =
    let k = known_one x v (u + 512 + 1024 * y) l e in
    let j = known_one (x / 1024) u y m k.1 in
    (k.0, ap (λ (z : ℕ). z % 2) (sym (shr-shr x 10 9)) ∙ j.0, sym (shr-shr x 10 10) ∙ j.1)

top_known : (x : ℕ) → x / 512 ≡ 1 → x ≡ x % 512 + 512
top_known x e = omega arith

known_top : (x v : ℕ) → v < 512 → x ≡ v + 512 → x / 512 ≡ 1
known_top x v l e = omega arith

module _ (p n x : ℕ) where
  pub none_test : n ≤ p → Decides (eqb x 0) (x ≡ three_from p n x)
  unfolding three_from
  none_test l =
      rw (le-ltb p n l, le-ltb (p + 1) n (omega arith), le-ltb (p + 2) n (omega arith))
      (decides (eqb x 0) (λ e. eqb-true x 0 e) (λ e. eq-eqb x 0 (omega arith)))

  pub all_test : p + 2 < n → Decides (eqb (x / 512 % 2) 1 && eqb (x / 524288 % 2) 1 && eqb (x / 536870912) 1) (x ≡ three_from p n x)
  unfolding three_from
  all_test l =
      rw (lt-ltb p n (omega arith), lt-ltb (p + 1) n (omega arith), lt-ltb (p + 2) n l)
      (decides (eqb (x / 512 % 2) 1 && eqb (x / 524288 % 2) 1 && eqb (x / 536870912) 1) yes no)
    where
      yes : eqb (x / 512 % 2) 1 && eqb (x / 524288 % 2) 1 && eqb (x / 536870912) 1 ≡ true
          → x ≡ x % 512 + 512 + 1024 * (x / 1024 % 512 + 512 + 1024 * (x / 1048576 % 512 + 512))
      yes e =
          let f = both_left (eqb (x / 512 % 2) 1 && eqb (x / 524288 % 2) 1) _ e in
          let a : x / 512 % 2 ≡ 1 = eqb-true _ _ (both_left _ (eqb (x / 524288 % 2) 1) f) in
          let b : x / 524288 % 2 ≡ 1 = eqb-true _ _ (both_right (eqb (x / 512 % 2) 1) _ f) in
          let c : x / 536870912 ≡ 1 = eqb-true _ _ (both_right (eqb (x / 512 % 2) 1 && eqb (x / 524288 % 2) 1) _ e) in
          two_known x a b
          ∙ ap (λ (y : ℕ). x % 512 + 512 + 1024 * (x / 1024 % 512 + 512 + 1024 * y)) (top_known (x / 1048576) (shr-shr x 20 9 ∙ c))

      no : x ≡ x % 512 + 512 + 1024 * (x / 1024 % 512 + 512 + 1024 * (x / 1048576 % 512 + 512))
          → eqb (x / 512 % 2) 1 && eqb (x / 524288 % 2) 1 && eqb (x / 536870912) 1 ≡ true
      no e =
          let v = x / 1048576 % 512 in
          let k = known_two x (x % 512) (x / 1024 % 512) (v + 512) (mod-lt x (omega arith)) (mod-lt (x / 1024) (omega arith)) e in
          let t = sym (shr-shr x 20 9) ∙ known_top (x / 1048576) v (mod-lt (x / 1048576) (omega arith)) k.2 in
          both (both (eq-eqb (x / 512 % 2) 1 k.0) (eq-eqb (x / 524288 % 2) 1 k.1)) (eq-eqb (x / 536870912) 1 t)

  pub two_test : p + 1 < n → n ≤ p + 2 → Decides (eqb (x / 512 % 2) 1 && eqb (x / 524288) 1) (x ≡ three_from p n x)
  unfolding three_from
  two_test l m =
      rw (lt-ltb p n (omega arith), lt-ltb (p + 1) n l, le-ltb (p + 2) n m) (decides (eqb (x / 512 % 2) 1 && eqb (x / 524288) 1) yes no)
    where
      yes : eqb (x / 512 % 2) 1 && eqb (x / 524288) 1 ≡ true → x ≡ x % 512 + 512 + 1024 * (x / 1024 % 512 + 512 + 1024 * 0)
      yes e =
          let a : x / 512 % 2 ≡ 1 = eqb-true _ _ (both_left _ (eqb (x / 524288) 1) e) in
          let b : x / 524288 ≡ 1 = eqb-true _ _ (both_right (eqb (x / 512 % 2) 1) _ e) in
          let t = top_known (x / 1024) (shr-shr x 10 9 ∙ b) in
          one_known x a ∙ omega arith

      no : x ≡ x % 512 + 512 + 1024 * (x / 1024 % 512 + 512 + 1024 * 0) → eqb (x / 512 % 2) 1 && eqb (x / 524288) 1 ≡ true
      no e =
          let v = x / 1024 % 512 in
          let k = known_one x (x % 512) (v + 512) (mod-lt x (omega arith)) (omega arith) in
          let t = sym (shr-shr x 10 9) ∙ known_top (x / 1024) v (mod-lt (x / 1024) (omega arith)) k.1 in
          both (eq-eqb (x / 512 % 2) 1 k.0) (eq-eqb (x / 524288) 1 t)

  pub one_test : p < n → n ≤ p + 1 → Decides (eqb (x / 512) 1) (x ≡ three_from p n x)
  unfolding three_from
  one_test l m =
      rw (lt-ltb p n l, le-ltb (p + 1) n m, le-ltb (p + 2) n (omega arith))
      (decides (eqb (x / 512) 1)
      (λ e. let a : x / 512 ≡ 1 = eqb-true _ _ e in omega arith)
      (λ e. eq-eqb (x / 512) 1 (omega arith)))

-- ---- User words

module _ (x : ℕ) where
  pub formatted_made : (t : Bool) → formatted t x ≡ true → user_word t (user_field x) ≡ x
  unfolding formatted user_word user_field
  formatted_made true e =
      let k : x % 256 ≡ 0x47 = eqb-true _ _ (both_left _ (ltb x (2 ^ 30)) e) in
      let l : x < 2 ^ 30 = ltb-true _ _ (both_right (eqb (x % 2 ^ 8) 0x47) _ e) in
      let u = unpack shared_word_widths x in
      let f = unpack_fit shared_word_widths x in
      let g = unpack_pack shared_widths (shared_in u) (f.1.0, (f.1.1.1.0, (f.1.1.0, (f.1.1.1.1.0, tt)))) in
      rw (eq-eqb (x % 256) 0x47 k)
      (ap (λ (vs : List ℕ). pack shared_word_widths (shared_of vs)) g
      ∙ ap (λ (v : ℕ). pack shared_word_widths (v ∷ at u 1 ∷ at u 2 ∷ at u 3 ∷ at u 4 ∷ [])) (sym k)
      ∙ pack_unpack shared_word_widths x l)
  formatted_made false e =
      let k : x % 256 ≡ 0x3F = eqb-true _ _ (both_left _ (ltb x (2 ^ 30)) e) in
      let l : x < 2 ^ 30 = ltb-true _ _ (both_right (eqb (x % 2 ^ 8) 0x3F) _ e) in
      let u = unpack alone_word_widths x in
      let f = unpack_fit alone_word_widths x in
      let g =
      unpack_pack alone_widths (alone_in u)
      (f.1.0, (f.1.1.1.0, (f.1.1.1.1.1.0, (f.1.1.1.1.0, (f.1.1.1.1.1.1.0, (f.1.1.0, tt)))))) in
      rw (ne_eqb (x % 256) 0x47 (λ z. omega arith))
      (ap (λ (vs : List ℕ). pack alone_word_widths (alone_of vs)) g
      ∙ ap (λ (v : ℕ). pack alone_word_widths (v ∷ at u 1 ∷ at u 2 ∷ at u 3 ∷ at u 4 ∷ at u 5 ∷ at u 6 ∷ [])) (sym k)
      ∙ pack_unpack alone_word_widths x l)

  pub made_formatted : (t : Bool) (f : ℕ) → x ≡ user_word t f → formatted t x ≡ true
  unfolding formatted
  made_formatted true f e =
      rw e (both (eq-eqb _ _ (ap (λ (vs : List ℕ). at vs 0) (shared_parts f))) (lt-ltb _ _ (user_word_lt true f)))
  made_formatted false f e =
      rw e (both (eq-eqb _ _ (ap (λ (vs : List ℕ). at vs 0) (alone_parts f))) (lt-ltb _ _ (user_word_lt false f)))

  -- the STA-ID stands in the same bits of both formats
  pub station_bits : user_field x % 2048 ≡ x / 256 % 2048
  unfolding user_field
  station_bits = go (eqb (x % 256) 0x47)
    where
      low : (v m : ℕ) → v < 2048 → (v + 2 ^ 11 * m) % 2048 ≡ v
      low v m l = omega arith

      go : (t : Bool) → field_in t x % 2048 ≡ x / 256 % 2048
      go true = low (x / 256 % 2048) _ (mod-lt (x / 256) (omega arith))
      go false = low (x / 256 % 2048) _ (mod-lt (x / 256) (omega arith))
