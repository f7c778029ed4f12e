-- The list of a channel's named fields: it tiles the channel from its first bit to its end, and has every place that `Layout.antt` names.
use mathlib.Core.Path.{◌≡◌, refl, sym, ◌∙◌, ap}
use mathlib.Core.Bool.{Bool, true, false, cond}
use mathlib.Core.List.Memᴰ
use mathlib.Core.List.{List, [], ◌∷◌, ◌++◌, Memᴰ}
use Prim.Native.Nat.{ℕ, zero, suc, ◌+◌, ◌-◌, ◌*◌, ◌/◌, ◌%◌, ◌≤◌, ◌<◌}
use native.Mathlib.Decide.{dec_lt}
use native.Mathlib.Nat.{mul-suc, mul-zero}
use native.Mathlib.Omega.{arith}
use lib.ListN.{length, replicate}
use Rattle.channel.specs.Layout.{firsts, seconds, first_bits, second_at, second_bits, has_second, common, subfields, value_at, user_at, block_at, blocks}
use Rattle.channel.specs.Layout.{covered, end_of}
use Rattle.channel.specs.Fields.{overflow_widths, checked_widths, first_widths, second_widths, user_widths, widths, Named, named_at, fields_from}
use Rattle.channel.specs.Fields.{named_fields, nth_field, Has, Tiles, OnList, PlacesOnList}
use Rattle.channel.proofs.Values.{value_first, value_second}
use Rattle.channel.proofs.Blocks.{covered_two, covered_one}
use Rattle.channel.proofs.Widths.{named_ge}

-- ---- fields one after the other

-- how many bits fields of these widths have
abbrev pub bits_in : List ℕ → ℕ
bits_in [] = 0
bits_in (w ∷ ws) = w + bits_in ws

bits_append : (xs ys : List ℕ) → bits_in (xs ++ ys) ≡ bits_in xs + bits_in ys
bits_append [] ys = omega arith
bits_append (x ∷ xs) ys = omega (arith, bits_append xs ys)

fields_append : (at : ℕ) (xs ys : List ℕ) → fields_from at (xs ++ ys) ≡ fields_from at xs ++ fields_from (at + bits_in xs) ys
fields_append at [] ys = let e : at + 0 ≡ at = omega arith in rw e refl
fields_append at (x ∷ xs) ys =
    let e : at + x + bits_in xs ≡ at + (x + bits_in xs) = omega arith in
    ap (λ (fs : List Named). named_at at x ∷ fs) (fields_append (at + x) xs ys ∙ rw e refl)

-- a field of them has no bit before the first, and none ends after the last
after : (at : ℕ) (ws : List ℕ) (k i : ℕ) → Has (nth_field (fields_from at ws) k) i → at ≤ i
after at [] k i h = absurd (let l = h.from in let m = h.below in omega arith)
after at (w ∷ ws) zero i h = h.from
after at (w ∷ ws) (suc k) i h = let l = after (at + w) ws k i h in omega arith

ends : (at : ℕ) (ws : List ℕ) (k : ℕ) → (nth_field (fields_from at ws) k).first + (nth_field (fields_from at ws) k).width ≤ at + bits_in ws
ends at [] k = omega arith
ends at (w ∷ ws) zero = omega arith
ends at (w ∷ ws) (suc k) = let l = ends (at + w) ws k in omega arith

starts : (at : ℕ) (ws : List ℕ) (k : ℕ) → k < length (fields_from at ws) → at ≤ (nth_field (fields_from at ws) k).first
starts at [] k l = absurd (omega arith)
starts at (w ∷ ws) zero l = omega arith
starts at (w ∷ ws) (suc k) l = let m = starts (at + w) ws k (omega arith) in omega arith

in_one_of : (at : ℕ) (ws : List ℕ) (i : ℕ) → at ≤ i → i < at + bits_in ws → (k : ℕ) × (k < length (fields_from at ws)) × Has (nth_field (fields_from at ws) k) i
in_one_of at [] i l m = absurd (omega arith)
in_one_of at (w ∷ ws) i l m = go (in_one_of (at + w) ws i) (dec_lt i (at + w))
  where
    go : (at + w ≤ i → i < at + w + bits_in ws → (k : ℕ) × (k < length (fields_from (at + w) ws)) × Has (nth_field (fields_from (at + w) ws) k) i)
        → Dec (i < at + w)
        → (k : ℕ) × (k < length (fields_from at (w ∷ ws))) × Has (nth_field (fields_from at (w ∷ ws)) k) i
    go ih (yes n) = (0, omega arith, record { from = l; below = n })
    go ih (no n) = let r = ih (omega arith) (omega arith) in (suc r.0, omega (arith, r.1), r.2)

in_no_other_of : (at : ℕ) (ws : List ℕ) (i j k : ℕ) → Has (nth_field (fields_from at ws) j) i → Has (nth_field (fields_from at ws) k) i → j ≡ k
in_no_other_of at [] i j k p q = absurd (let l = p.from in let m = p.below in omega arith)
in_no_other_of at (w ∷ ws) i zero zero p q = refl
in_no_other_of at (w ∷ ws) i zero (suc k) p q = absurd (let l = p.below in let m = after (at + w) ws k i q in omega arith)
in_no_other_of at (w ∷ ws) i (suc j) zero p q = absurd (let l = q.below in let m = after (at + w) ws j i p in omega arith)
in_no_other_of at (w ∷ ws) i (suc j) (suc k) p q = ap suc (in_no_other_of (at + w) ws i j k p q)

in_order_of : (at : ℕ) (ws : List ℕ) (j k : ℕ) → j < k → k < length (fields_from at ws)
    → (nth_field (fields_from at ws) j).first + (nth_field (fields_from at ws) j).width ≤ (nth_field (fields_from at ws) k).first
in_order_of at [] j k l m = absurd (omega arith)
in_order_of at (w ∷ ws) j zero l m = absurd (omega arith)
in_order_of at (w ∷ ws) zero (suc k) l m = starts (at + w) ws k (omega arith)
in_order_of at (w ∷ ws) (suc j) (suc k) l m = in_order_of (at + w) ws j k (omega arith) (omega arith)

-- ---- how many bits each line of the layout has

bits_replicate : (n w : ℕ) → bits_in (replicate n w) ≡ w * n
bits_replicate zero w = sym (mul-zero w)
bits_replicate (suc n) w = let e = mul-suc w n in omega (arith, bits_replicate n w)

bits_checked : (w n : ℕ) → bits_in (checked_widths w n) ≡ w * n + 10
unfolding checked_widths
bits_checked w n = bits_append (replicate n w) (4 ∷ 6 ∷ []) ∙ rw (bits_replicate n w) refl

bits_first : (bw : ℕ) → 17 + bits_in (first_widths bw) ≡ second_at bw
unfolding first_widths second_at first_bits
bits_first bw = omega (arith, bits_checked 9 (firsts bw))

bits_second : (bw : ℕ) → second_at bw + bits_in (second_widths bw) ≡ common bw
unfolding second_widths common second_bits
bits_second bw = go (has_second bw)
  where
    go : (t : Bool) → second_at bw + bits_in (cond t (checked_widths 9 (seconds bw)) []) ≡ second_at bw + cond t (9 * seconds bw + 10) 0
    go true = omega (arith, bits_checked 9 (seconds bw))
    go false = omega arith

bits_users : (n : ℕ) → bits_in (user_widths n) ≡ 54 * (n / 2) + 32 * (n % 2)
unfolding user_widths
bits_users zero = omega arith
bits_users (suc zero) = bits_checked 22 1
bits_users (suc (suc n)) = bits_append (checked_widths 22 2) (user_widths n) ∙ omega (arith, bits_checked 22 2, bits_users n)

pub bits_widths : (bw n : ℕ) → bits_in (widths bw n) ≡ end_of bw n
unfolding widths end_of
bits_widths bw n =
    let x = bits_append (first_widths bw) (second_widths bw ++ user_widths n) in
    let y = bits_append (second_widths bw) (user_widths n) in
    omega (arith, x, y, bits_first bw, bits_second bw, bits_users n)

-- ---- "without gap or overlap"

pub tiles : (bw n : ℕ) → Tiles (named_fields bw n) (end_of bw n)
unfolding named_fields
tiles bw n =
    record {
      in_one = λ i l. in_one_of 0 (widths bw n) i (omega arith) (omega (arith, bits_widths bw n));
      in_no_other = λ i j k. in_no_other_of 0 (widths bw n) i j k;
      in_order = λ j k. in_order_of 0 (widths bw n) j k;
      inside = λ k. omega (arith, ends 0 (widths bw n) k, bits_widths bw n);
      none_empty = named_ge bw n;
    }

-- ---- "every place": the fields of each line are entries

left : {f : Named} (at : ℕ) (xs ys : List ℕ) → Memᴰ f (fields_from at xs) → Memᴰ f (fields_from at (xs ++ ys))
left at xs ys m = rw (fields_append at xs ys) (Memᴰ.append_left (fields_from (at + bits_in xs) ys) m)

right : {f : Named} (at : ℕ) (xs ys : List ℕ) → Memᴰ f (fields_from (at + bits_in xs) ys) → Memᴰ f (fields_from at (xs ++ ys))
right at xs ys m = rw (fields_append at xs ys) (Memᴰ.append_right (fields_from at xs) m)

-- the same field, its first bit told otherwise
moved : {w at at' : ℕ} {fs : List Named} → at' ≡ at → Memᴰ (named_at at w) fs → Memᴰ (named_at at' w) fs
moved {w} e m = Memᴰ.cast (ap (λ (x : ℕ). named_at x w) e) m

row_field : (at w n k : ℕ) → k < n → Memᴰ (named_at (at + w * k) w) (fields_from at (replicate n w))
row_field at w zero k l = absurd (omega arith)
row_field at w (suc n) zero l = let e : at + w * 0 ≡ at = omega (arith, mul-zero w) in Memᴰ.head (ap (λ (x : ℕ). named_at x w) e)
row_field at w (suc n) (suc k) l =
    Memᴰ.tail (moved (omega (arith, mul-suc w k)) (row_field (at + w) w n k (omega arith)))

-- of n fields of w bits with their check and tail
module _ (at w n : ℕ) where
  checked_field : (k : ℕ) → k < n → Memᴰ (named_at (at + w * k) w) (fields_from at (checked_widths w n))
  unfolding checked_widths
  checked_field k l = left at (replicate n w) (4 ∷ 6 ∷ []) (row_field at w n k l)

  its_check : at + w * n ≡ at + bits_in (replicate n w)
  its_check = ap (λ (x : ℕ). at + x) (sym (bits_replicate n w))

  checked_check : Memᴰ (named_at (at + w * n) 4) (fields_from at (checked_widths w n))
  unfolding checked_widths
  checked_check = right at (replicate n w) (4 ∷ 6 ∷ []) (Memᴰ.head (ap (λ (x : ℕ). named_at x 4) its_check))

  checked_tail : Memᴰ (named_at (at + w * n + 4) 6) (fields_from at (checked_widths w n))
  unfolding checked_widths
  checked_tail = right at (replicate n w) (4 ∷ 6 ∷ []) (Memᴰ.tail (Memᴰ.head (ap (λ (x : ℕ). named_at (x + 4) 6) its_check)))

-- the User blocks' fields ..
users_field : (at n i : ℕ) → i < n → Memᴰ (named_at (at + 54 * (i / 2) + 22 * (i % 2)) 22) (fields_from at (user_widths n))
unfolding user_widths
users_field at zero i l = absurd (omega arith)
users_field at (suc zero) i l = moved (omega arith) (checked_field at 22 1 0 (omega arith))
users_field at (suc (suc n)) i l = go (users_field (at + 54) n (i - 2)) (dec_lt i 2)
  where
    go : (i - 2 < n → Memᴰ (named_at (at + 54 + 54 * ((i - 2) / 2) + 22 * ((i - 2) % 2)) 22) (fields_from (at + 54) (user_widths n)))
        → Dec (i < 2)
        → Memᴰ (named_at (at + 54 * (i / 2) + 22 * (i % 2)) 22) (fields_from at (checked_widths 22 2 ++ user_widths n))
    go ih (yes m) = left at (checked_widths 22 2) (user_widths n) (moved (omega arith) (checked_field at 22 2 i m))
    go ih (no m) =
        let e : bits_in (checked_widths 22 2) ≡ 54 = bits_checked 22 2 in
        right at (checked_widths 22 2) (user_widths n) (rw e (moved (omega arith) (ih (omega arith))))

covered_next : (n b : ℕ) → covered (suc (suc n)) (suc b) ≡ covered n b
covered_next n b = go (dec_lt (2 * b + 1) n)
  where
    go : Dec (2 * b + 1 < n) → covered (suc (suc n)) (suc b) ≡ covered n b
    go (yes l) = covered_two (suc (suc n)) (suc b) (omega arith) ∙ sym (covered_two n b l)
    go (no l) = covered_one (suc (suc n)) (suc b) (omega arith) ∙ sym (covered_one n b (omega arith))

-- .. and what follows a block's fields: w bits, o after them
module _ (o w : ℕ) (h : (at n : ℕ) → Memᴰ (named_at (at + 22 * n + o) w) (fields_from at (checked_widths 22 n))) where
  users_end : (at n b : ℕ) → b < blocks n → Memᴰ (named_at (at + 54 * b + covered n b + o) w) (fields_from at (user_widths n))
  unfolding user_widths blocks
  users_end at zero b l = absurd (omega arith)
  users_end at (suc zero) b l = moved (omega (arith, covered_one 1 b (omega arith))) (h at 1)
  users_end at (suc (suc n)) zero l =
      left at (checked_widths 22 2) (user_widths n) (moved (omega (arith, covered_two (suc (suc n)) 0 (omega arith))) (h at 2))
  users_end at (suc (suc n)) (suc b) l =
      let e : bits_in (checked_widths 22 2) ≡ 54 = bits_checked 22 2 in
      right at (checked_widths 22 2) (user_widths n)
      (rw e (moved (omega (arith, covered_next n b)) (users_end (at + 54) n b (omega arith))))

member : (fs : List Named) (k : ℕ) → k < length fs → Memᴰ (nth_field fs k) fs
member [] k l = absurd (omega arith)
member (f ∷ fs) zero l = Memᴰ.head refl
member (f ∷ fs) (suc k) l = Memᴰ.tail (member fs k (omega arith))

-- ---- the lines in the whole

module _ (bw n : ℕ) where
  overflow_on_list : (k : ℕ) → k < 7 → Memᴰ (nth_field (fields_from 0 overflow_widths) k) (named_fields bw n)
  unfolding named_fields widths
  overflow_on_list k l =
      left 0 overflow_widths (first_widths bw ++ (second_widths bw ++ user_widths n)) (member (fields_from 0 overflow_widths) k l)

  in_first : {at w : ℕ} → Memᴰ (named_at at w) (fields_from 17 (first_widths bw)) → OnList bw n at w
  unfolding named_fields widths
  in_first m =
      right 0 overflow_widths (first_widths bw ++ (second_widths bw ++ user_widths n))
      (left 17 (first_widths bw) (second_widths bw ++ user_widths n) m)

  in_second : {at w : ℕ} → Memᴰ (named_at at w) (fields_from (second_at bw) (second_widths bw)) → OnList bw n at w
  unfolding named_fields widths
  in_second m =
      right 0 overflow_widths (first_widths bw ++ (second_widths bw ++ user_widths n))
      (right 17 (first_widths bw) (second_widths bw ++ user_widths n)
      (rw (bits_first bw) (left (second_at bw) (second_widths bw) (user_widths n) m)))

  in_users : {at w : ℕ} → Memᴰ (named_at at w) (fields_from (common bw) (user_widths n)) → OnList bw n at w
  unfolding named_fields widths
  in_users m =
      right 0 overflow_widths (first_widths bw ++ (second_widths bw ++ user_widths n))
      (right 17 (first_widths bw) (second_widths bw ++ user_widths n)
      (rw (bits_first bw) (right (second_at bw) (second_widths bw) (user_widths n) (rw (bits_second bw) m))))

  -- the second part, where there is one
  in_second_checked : {at w : ℕ} → has_second bw ≡ true → Memᴰ (named_at at w) (fields_from (second_at bw) (checked_widths 9 (seconds bw))) → OnList bw n at w
  unfolding second_widths
  in_second_checked e m = in_second (rw e m)

  subfield_on_list : (k : ℕ) → k < subfields bw → OnList bw n (value_at bw k) 9
  unfolding first_widths subfields
  subfield_on_list k l = go (dec_lt k (firsts bw))
    where
      go : Dec (k < firsts bw) → OnList bw n (value_at bw k) 9
      go (yes m) = in_first (moved (value_first bw k m).0 (checked_field 17 9 (firsts bw) k m))
      go (no m) =
          let v = value_second bw k (omega arith) l in
          in_second_checked v.2 (moved v.0 (checked_field (second_at bw) 9 (seconds bw) (k - firsts bw) (omega arith)))

  first_check_on_list : OnList bw n (first_bits bw) 4
  unfolding first_widths first_bits
  first_check_on_list = in_first (checked_check 17 9 (firsts bw))

  first_tail_on_list : OnList bw n (first_bits bw + 4) 6
  unfolding first_widths first_bits
  first_tail_on_list = in_first (checked_tail 17 9 (firsts bw))

  second_check_on_list : has_second bw ≡ true → OnList bw n (second_at bw + second_bits bw) 4
  unfolding second_bits
  second_check_on_list e = in_second_checked e (checked_check (second_at bw) 9 (seconds bw))

  second_tail_on_list : has_second bw ≡ true → OnList bw n (second_at bw + second_bits bw + 4) 6
  unfolding second_bits
  second_tail_on_list e = in_second_checked e (checked_tail (second_at bw) 9 (seconds bw))

  user_on_list : (i : ℕ) → i < n → OnList bw n (user_at bw i) 22
  unfolding user_at
  user_on_list i l = in_users (users_field (common bw) n i l)

  block_check_on_list : (b : ℕ) → b < blocks n → OnList bw n (block_at bw b + covered n b) 4
  unfolding block_at
  block_check_on_list b l = in_users (moved (omega arith) (users_end 0 4 (λ at m. moved (omega arith) (checked_check at 22 m)) (common bw) n b l))

  block_tail_on_list : (b : ℕ) → b < blocks n → OnList bw n (block_at bw b + covered n b + 4) 6
  unfolding block_at
  block_tail_on_list b l = in_users (users_end 4 6 (λ at m. checked_tail at 22 m) (common bw) n b l)

pub places_on_list : (bw n : ℕ) → PlacesOnList bw n
places_on_list bw n =
    record {
      spatial_reuse = overflow_on_list bw n 0 (omega arith);
      gi_ltf = overflow_on_list bw n 1 (omega arith);
      ltf_symbols = overflow_on_list bw n 2 (omega arith);
      ldpc_extra = overflow_on_list bw n 3 (omega arith);
      pre_fec = overflow_on_list bw n 4 (omega arith);
      pe_disambiguity = overflow_on_list bw n 5 (omega arith);
      disregard = overflow_on_list bw n 6 (omega arith);
      subfield = subfield_on_list bw n;
      first_check = first_check_on_list bw n;
      first_tail = first_tail_on_list bw n;
      second_check = second_check_on_list bw n;
      second_tail = second_tail_on_list bw n;
      user = user_on_list bw n;
      block_check = block_check_on_list bw n;
      block_tail = block_tail_on_list bw n;
    }
