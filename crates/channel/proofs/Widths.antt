-- The widths of the named fields, one by one, as the code goes through them.
use mathlib.Core.Path.{◌≡◌, refl, ◌∙◌, ap}
use mathlib.Core.Bool.{Bool, true, false, cond, ◌&&◌}
use mathlib.Core.List.{List, [], ◌∷◌, ◌++◌}
use Prim.Native.Nat.{ℕ, zero, suc, ◌+◌, ◌-◌, ◌*◌, ◌/◌, ◌%◌, ◌≤◌, ◌<◌}
use native.Mathlib.Decide.{dec_lt}
use native.Mathlib.Omega.{arith}
use lib.Dec.{leb, leb→le}
use lib.ListN.{length, replicate, length-append, length-replicate, get_or-replicate, get_or-append, get_or-eq_default}
use lib.Seq.{get_or-append-add}
use Rattle.answer.specs.Lists.{at}
use Rattle.resource.proofs.Test.{both_left, both_right, every_below}
use Rattle.channel.specs.Layout.{firsts, seconds, has_second}
use Rattle.channel.specs.Fields.{overflow_widths, checked_widths, first_widths, second_widths, user_widths, widths, fields_from, named_fields, nth_field}

-- ---- one list after another

at_left : (xs ys : List ℕ) (k : ℕ) → k < length xs → at (xs ++ ys) k ≡ at xs k
at_left xs ys k l = get_or-append xs ys 0 k l

at_right : (xs ys : List ℕ) (k : ℕ) → length xs ≤ k → at (xs ++ ys) k ≡ at ys (k - length xs)
at_right xs ys k l =
    let e : k ≡ length xs + (k - length xs) = omega arith in
    ap (at (xs ++ ys)) e ∙ get_or-append-add xs ys (k - length xs) 0

-- ---- fields with their check and tail

module _ (w n : ℕ) where
  pub checked_length : length (checked_widths w n) ≡ n + 2
  unfolding checked_widths
  checked_length = length-append (replicate n w) (4 ∷ 6 ∷ []) ∙ ap (λ (x : ℕ). x + 2) (length-replicate n w)

  pub checked_fields : (k : ℕ) → k < n → at (checked_widths w n) k ≡ w
  unfolding checked_widths
  checked_fields k l = at_left (replicate n w) (4 ∷ 6 ∷ []) k (omega (arith, length-replicate n w)) ∙ get_or-replicate n k w 0 l

  past : (k j : ℕ) → k ≡ n + j → at (replicate n w ++ (4 ∷ 6 ∷ [])) k ≡ at (4 ∷ 6 ∷ []) j
  past k j e =
      let f : k - length (replicate n w) ≡ j = omega (arith, length-replicate n w) in
      at_right (replicate n w) (4 ∷ 6 ∷ []) k (omega (arith, length-replicate n w)) ∙ ap (at (4 ∷ 6 ∷ [])) f

  pub checked_at_check : (k : ℕ) → k ≡ n → at (checked_widths w n) k ≡ 4
  unfolding checked_widths
  checked_at_check k e = past k 0 (omega arith)

  pub checked_at_tail : (k : ℕ) → k ≡ n + 1 → at (checked_widths w n) k ≡ 6
  unfolding checked_widths
  checked_at_tail k e = past k 1 e

  pub checked_past : (k : ℕ) → n + 2 ≤ k → at (checked_widths w n) k ≡ 0
  checked_past k l = get_or-eq_default (checked_widths w n) 0 (omega (arith, checked_length))

-- ---- the lines

pub second_there : (bw : ℕ) → has_second bw ≡ true → second_widths bw ≡ checked_widths 9 (seconds bw)
unfolding second_widths
second_there bw e = rw e

pub second_none : (bw : ℕ) → has_second bw ≡ false → second_widths bw ≡ []
unfolding second_widths
second_none bw e = rw e

users_length : (n : ℕ) → length (user_widths n) ≡ 4 * (n / 2) + 3 * (n % 2)
unfolding user_widths
users_length zero = omega arith
users_length (suc zero) = checked_length 22 1
users_length (suc (suc n)) = length-append (checked_widths 22 2) (user_widths n) ∙ omega (arith, checked_length 22 2, users_length n)

first_length : (bw : ℕ) → length (first_widths bw) ≡ firsts bw + 2
unfolding first_widths
first_length bw = checked_length 9 (firsts bw)

pub widths_length : (bw n : ℕ) → length (widths bw n) ≡ firsts bw + 9 + length (second_widths bw) + 4 * (n / 2) + 3 * (n % 2)
unfolding widths
widths_length bw n =
    let x = length-append (first_widths bw) (second_widths bw ++ user_widths n) in
    let y = length-append (second_widths bw) (user_widths n) in
    omega (arith, x, y, first_length bw, users_length n)

-- the User blocks: four named fields each, the last of one User field three

pub users_none : (n k : ℕ) → n ≤ 2 * (k / 4) → at (user_widths n) k ≡ 0
users_none n k l = get_or-eq_default (user_widths n) 0 (omega (arith, users_length n))

pub users_two : (n k : ℕ) → 2 * (k / 4) + 1 < n → at (user_widths n) k ≡ at (checked_widths 22 2) (k % 4)
unfolding user_widths
users_two zero k l = absurd (omega arith)
users_two (suc zero) k l = absurd (omega arith)
users_two (suc (suc n)) k l = go (users_two n (k - 4)) (dec_lt k 4)
  where
    go : (2 * ((k - 4) / 4) + 1 < n → at (user_widths n) (k - 4) ≡ at (checked_widths 22 2) ((k - 4) % 4)) → Dec (k < 4)
        → at (checked_widths 22 2 ++ user_widths n) k ≡ at (checked_widths 22 2) (k % 4)
    go ih (yes m) =
        let e : k ≡ k % 4 = omega arith in
        at_left (checked_widths 22 2) (user_widths n) k (omega (arith, checked_length 22 2)) ∙ ap (at (checked_widths 22 2)) e
    go ih (no m) =
        let e : k - length (checked_widths 22 2) ≡ k - 4 = omega (arith, checked_length 22 2) in
        let f : (k - 4) % 4 ≡ k % 4 = omega arith in
        at_right (checked_widths 22 2) (user_widths n) k (omega (arith, checked_length 22 2))
        ∙ ap (at (user_widths n)) e
        ∙ ih (omega arith)
        ∙ ap (at (checked_widths 22 2)) f

pub users_one : (n k : ℕ) → 2 * (k / 4) + 1 ≡ n → at (user_widths n) k ≡ at (checked_widths 22 1) (k % 4)
unfolding user_widths
users_one zero k e = absurd (omega arith)
users_one (suc zero) k e = let f : k ≡ k % 4 = omega arith in ap (at (checked_widths 22 1)) f
users_one (suc (suc n)) k e =
    let f : k - length (checked_widths 22 2) ≡ k - 4 = omega (arith, checked_length 22 2) in
    let g : (k - 4) % 4 ≡ k % 4 = omega arith in
    at_right (checked_widths 22 2) (user_widths n) k (omega (arith, checked_length 22 2))
    ∙ ap (at (user_widths n)) f
    ∙ users_one n (k - 4) (omega arith)
    ∙ ap (at (checked_widths 22 1)) g

-- ---- the whole

module _ (bw n k : ℕ) where
  pub whole_overflow : k < 7 → at (widths bw n) k ≡ at overflow_widths k
  unfolding widths
  whole_overflow l = at_left overflow_widths (first_widths bw ++ (second_widths bw ++ user_widths n)) k l

  pub whole_first : 7 ≤ k → k < firsts bw + 9 → at (widths bw n) k ≡ at (checked_widths 9 (firsts bw)) (k - 7)
  unfolding widths first_widths
  whole_first l m =
      at_right overflow_widths (first_widths bw ++ (second_widths bw ++ user_widths n)) k l
      ∙ at_left (first_widths bw) (second_widths bw ++ user_widths n) (k - 7) (omega (arith, first_length bw))

  past_first : firsts bw + 9 ≤ k → at (widths bw n) k ≡ at (second_widths bw ++ user_widths n) (k - (firsts bw + 9))
  unfolding widths
  past_first l =
      let e : k - 7 - length (first_widths bw) ≡ k - (firsts bw + 9) = omega (arith, first_length bw) in
      at_right overflow_widths (first_widths bw ++ (second_widths bw ++ user_widths n)) k (omega arith)
      ∙ at_right (first_widths bw) (second_widths bw ++ user_widths n) (k - 7) (omega (arith, first_length bw))
      ∙ ap (at (second_widths bw ++ user_widths n)) e

  pub whole_second : firsts bw + 9 ≤ k → k < firsts bw + 9 + length (second_widths bw) → at (widths bw n) k ≡ at (second_widths bw) (k - (firsts bw + 9))
  whole_second l m = past_first l ∙ at_left (second_widths bw) (user_widths n) (k - (firsts bw + 9)) (omega arith)

  pub whole_users : firsts bw + 9 + length (second_widths bw) ≤ k
      → at (widths bw n) k ≡ at (user_widths n) (k - (firsts bw + 9 + length (second_widths bw)))
  whole_users l =
      let e : k - (firsts bw + 9) - length (second_widths bw) ≡ k - (firsts bw + 9 + length (second_widths bw)) = omega arith in
      past_first (omega arith)
      ∙ at_right (second_widths bw) (user_widths n) (k - (firsts bw + 9)) (omega arith)
      ∙ ap (at (user_widths n)) e

-- ---- none is wider than a User field, and none is empty

-- between 1 and m bits, each that there is
abbrev Wide : ℕ → List ℕ → Type 0
Wide m ws = (k : ℕ) → k < length ws → (1 ≤ at ws k) × (at ws k ≤ m)

append_wide : (m : ℕ) (xs ys : List ℕ) → Wide m xs → Wide m ys → Wide m (xs ++ ys)
append_wide m xs ys f g k l = go (dec_lt k (length xs))
  where
    go : Dec (k < length xs) → (1 ≤ at (xs ++ ys) k) × (at (xs ++ ys) k ≤ m)
    go (yes h) = let r = f k h in let e = at_left xs ys k h in (omega (arith, r.0), omega (arith, r.1))
    go (no h) =
        let r = g (k - length xs) (omega (arith, length-append xs ys)) in
        let e = at_right xs ys k (omega arith) in
        (omega (arith, r.0), omega (arith, r.1))

checked_wide : (w n : ℕ) → 1 ≤ w → w ≤ 22 → Wide 22 (checked_widths w n)
checked_wide w n l u k h = go (dec_lt k n) (dec_lt k (n + 1))
  where
    go : Dec (k < n) → Dec (k < n + 1) → (1 ≤ at (checked_widths w n) k) × (at (checked_widths w n) k ≤ 22)
    go (yes a) b = let e = checked_fields w n k a in (omega arith, omega arith)
    go (no a) (yes b) = let e = checked_at_check w n k (omega arith) in (omega arith, omega arith)
    go (no a) (no b) = let e = checked_at_tail w n k (omega (arith, checked_length w n)) in (omega arith, omega arith)

overflow_test : ℕ → Bool
overflow_test k = leb 1 (at overflow_widths k) && leb (at overflow_widths k) 22

overflow_wide : Wide 22 overflow_widths
unfolding overflow_test
overflow_wide k l =
    let t = every_below overflow_test 7 tt k l in
    (leb→le _ _ (both_left (leb 1 (at overflow_widths k)) _ t), leb→le _ _ (both_right (leb 1 (at overflow_widths k)) _ t))

first_wide : (bw : ℕ) → Wide 22 (first_widths bw)
unfolding first_widths
first_wide bw = checked_wide 9 (firsts bw) (omega arith) (omega arith)

second_wide : (bw : ℕ) → Wide 22 (second_widths bw)
unfolding second_widths
second_wide bw = go (has_second bw)
  where
    go : (t : Bool) → Wide 22 (cond t (checked_widths 9 (seconds bw)) [])
    go true = checked_wide 9 (seconds bw) (omega arith) (omega arith)
    go false = λ k l. absurd (omega arith)

users_wide : (n : ℕ) → Wide 22 (user_widths n)
unfolding user_widths
users_wide zero = λ k l. absurd (omega arith)
users_wide (suc zero) = checked_wide 22 1 (omega arith) (omega arith)
users_wide (suc (suc n)) = append_wide 22 (checked_widths 22 2) (user_widths n) (checked_wide 22 2 (omega arith) (omega arith)) (users_wide n)

widths_wide : (bw n : ℕ) → Wide 22 (widths bw n)
unfolding widths
widths_wide bw n =
    append_wide 22 overflow_widths (first_widths bw ++ (second_widths bw ++ user_widths n)) overflow_wide
    (append_wide 22 (first_widths bw) (second_widths bw ++ user_widths n) (first_wide bw)
    (append_wide 22 (second_widths bw) (user_widths n) (second_wide bw) (users_wide n)))

widths_le : (bw n k : ℕ) → at (widths bw n) k ≤ 22
widths_le bw n k = go (dec_lt k (length (widths bw n)))
  where
    go : Dec (k < length (widths bw n)) → at (widths bw n) k ≤ 22
    go (yes l) = (widths_wide bw n k l).1
    go (no l) = omega (arith, get_or-eq_default (widths bw n) 0 {n = k} (omega arith))

pub as_wide : (r bw n k : ℕ) → r ≡ at (widths bw n) k → (r ≡ at (widths bw n) k) × (r ≤ 22)
as_wide r bw n k e = (e, omega (arith, widths_le bw n k))

-- the same of the named fields
field_width : (from : ℕ) (ws : List ℕ) (k : ℕ) → (nth_field (fields_from from ws) k).width ≡ at ws k
field_width from [] k = refl
field_width from (w ∷ ws) zero = refl
field_width from (w ∷ ws) (suc k) = field_width (from + w) ws k

fields_length : (from : ℕ) (ws : List ℕ) → length (fields_from from ws) ≡ length ws
fields_length from [] = refl
fields_length from (w ∷ ws) = ap suc (fields_length (from + w) ws)

pub named_le : (bw n k : ℕ) → (nth_field (named_fields bw n) k).width ≤ 22
unfolding named_fields
named_le bw n k = omega (arith, field_width 0 (widths bw n) k, widths_le bw n k)

pub named_ge : (bw n k : ℕ) → k < length (named_fields bw n) → 1 ≤ (nth_field (named_fields bw n) k).width
unfolding named_fields
named_ge bw n k l =
    omega (arith, field_width 0 (widths bw n) k, (widths_wide bw n k (omega (arith, fields_length 0 (widths bw n)))).0)
