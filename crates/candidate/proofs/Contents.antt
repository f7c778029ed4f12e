-- What a channel carries up to its end, and that this says all of its bits.
use mathlib.Core.Path.{◌≡◌, refl, sym, ◌∙◌, ap}
use mathlib.Core.Bool.{Bool, true, false, cond}
use mathlib.Core.List.{List}
use Prim.Native.Nat.{ℕ, zero, suc, ◌+◌, ◌-◌, ◌*◌, ◌/◌, ◌%◌, ◌<◌}
use native.Mathlib.Decide.{dec_lt}
use native.Mathlib.Nat.{mul-suc}
use native.Mathlib.Omega.{arith}
use lib.Dec.{ltb}
use borrow.Author.Tests.{ltb-true, ltb-false}
use Rattle.bits.specs.Bits.{bit, field, Same}
use Rattle.bits.proofs.Fields.{field_same}
use Rattle.block.specs.Check.{Right}
use Rattle.block.proofs.Checks.{check_ext}
use Rattle.channel.specs.Layout.{firsts, seconds, first_bits, second_at, second_bits, has_second, common}
use Rattle.channel.specs.Layout.{subfields, value_at, value, user_at, block_at, blocks, covered, end_of}
use Rattle.channel.proofs.Values.{value_first, value_second}
use Rattle.channel.proofs.Blocks.{user_even, user_odd}
use Rattle.faults.proofs.Passing.{CommonRight}

-- s has the overflow v, the values x, n User fields f, and every check and tail right
pub record Contents (bw v : ℕ) (x : ℕ → ℕ) (n : ℕ) (f : ℕ → ℕ) (s : List ℕ) : Type 0 where
  pub the_overflow : field s 0 17 ≡ v
  pub the_value : (k : ℕ) → k < subfields bw → value bw s k ≡ x k
  pub the_field : (i : ℕ) → i < n → field s (user_at bw i) 22 ≡ f i
  pub common_right : CommonRight bw s
  pub block_right : (b : ℕ) → b < blocks n → Right s (block_at bw b) (covered n b)

-- ---- a block whose covered bits are the same is the same, if its checks are right

-- bits from x on are the same for w more
abbrev pub Alike : List ℕ → List ℕ → ℕ → ℕ → Type 0
Alike s t x w = (k : ℕ) → k < w → bit s (x + k) ≡ bit t (x + k)

alike_next : (s t : List ℕ) (x w u : ℕ) → Alike s t x w → Alike s t (x + w) u → Alike s t x (w + u)
alike_next s t x w u p q k l = go (dec_lt k w)
  where
    go : Dec (k < w) → bit s (x + k) ≡ bit t (x + k)
    go (yes m) = p k m
    go (no m) =
        let e : x + w + (k - w) ≡ x + k = omega arith in
        rw e at (q (k - w) (omega arith))

block_alike : (s t : List ℕ) (at n : ℕ) → Alike s t at n → Right s at n → Right t at n → Alike s t at (n + 4 + 6)
block_alike s t at n h p q =
    let c : field s (at + n) 4 ≡ field t (at + n) 4 = p.checked ∙ check_ext s t at at n h ∙ sym q.checked in
    let z : field s (at + n + 4) 6 ≡ field t (at + n + 4) 6 = p.ended ∙ sym q.ended in
    let a : Alike s t at (n + 4) = alike_next s t at n 4 h (field_same s t (at + n) (at + n) 4 c) in
    let e : at + (n + 4) ≡ at + n + 4 = omega arith in
    alike_next s t at (n + 4) 6 a (rw e (field_same s t (at + n + 4) (at + n + 4) 6 z))

-- fields of w bits one after another, from x on
fields_alike : (s t : List ℕ) (x w n : ℕ) → ((k : ℕ) → k < n → field s (x + w * k) w ≡ field t (x + w * k) w) → Alike s t x (w * n)
fields_alike s t x w zero h = λ k l. absurd (omega arith)
fields_alike s t x w (suc n) h =
    let e : w * suc n ≡ w * n + w = omega (arith, mul-suc w n) in
    rw e
    (alike_next s t x (w * n) w
    (fields_alike s t x w n (λ k l. h k (omega arith)))
    (field_same s t (x + w * n) (x + w * n) w (h n (omega arith))))

module _ (bw v : ℕ) (x : ℕ → ℕ) (n : ℕ) (f : ℕ → ℕ) (s t : List ℕ) (p : Contents bw v x n f s) (q : Contents bw v x n f t) where
  values_same : (k : ℕ) → k < subfields bw → field s (value_at bw k) 9 ≡ field t (value_at bw k) 9
  unfolding value
  values_same k l = p.the_value k l ∙ sym (q.the_value k l)

  first_alike : Alike s t 0 (first_bits bw + 4 + 6)
  unfolding first_bits subfields
  first_alike =
      block_alike s t 0 (17 + 9 * firsts bw)
      (alike_next s t 0 17 (9 * firsts bw)
      (field_same s t 0 0 17 (p.the_overflow ∙ sym q.the_overflow))
      (fields_alike s t 17 9 (firsts bw)
      (λ k l. let e = (value_first bw k l).0 in rw (← e) (values_same k (omega arith)))))
      p.common_right.first_right
      q.common_right.first_right

  second_alike : has_second bw ≡ true → Alike s t (second_at bw) (second_bits bw + 4 + 6)
  unfolding second_bits subfields
  second_alike h =
      block_alike s t (second_at bw) (9 * seconds bw)
      (fields_alike s t (second_at bw) 9 (seconds bw)
      (λ k l.
      let e = (value_second bw (firsts bw + k) (omega arith) (omega arith)).0 in
      let d : firsts bw + k - firsts bw ≡ k = omega arith in
      let g : value_at bw (firsts bw + k) ≡ second_at bw + 9 * k = e ∙ ap (λ (j : ℕ). second_at bw + 9 * j) d in
      rw (← g) (values_same (firsts bw + k) (omega arith))))
      (p.common_right.second_right h)
      (q.common_right.second_right h)

  common_alike : (i : ℕ) → i < common bw → bit s i ≡ bit t i
  unfolding common second_at
  common_alike i l = go (dec_lt i (first_bits bw + 10)) (has_second bw) refl l
    where
      go : Dec (i < first_bits bw + 10) → (b : Bool) → has_second bw ≡ b → i < first_bits bw + 10 + cond b (second_bits bw + 10) 0 → bit s i ≡ bit t i
      go (yes m) b e k = let z : 0 + i ≡ i = omega arith in rw z at (first_alike i (omega arith))
      go (no m) true e k =
          let z : first_bits bw + 10 + (i - (first_bits bw + 10)) ≡ i = omega arith in
          rw z at (second_alike e (i - (first_bits bw + 10)) (omega arith))
      go (no m) false e k = absurd (omega arith)

  users_alike : (b : ℕ) → b < blocks n → Alike s t (block_at bw b) (covered n b)
  unfolding covered blocks block_at
  users_alike b l = go (ltb (2 * b + 1) n) refl
    where
      field_at : (i : ℕ) → i < n → field s (user_at bw i) 22 ≡ field t (user_at bw i) 22
      field_at i m = p.the_field i m ∙ sym (q.the_field i m)

      go : (u : Bool) → ltb (2 * b + 1) n ≡ u → Alike s t (common bw + 54 * b) (cond u 44 22)
      go true e =
          alike_next s t (common bw + 54 * b) 22 22
          (field_same s t (common bw + 54 * b) (common bw + 54 * b) 22 (rw (user_even bw b) at (field_at (2 * b) (omega arith))))
          (field_same s t (common bw + 54 * b + 22) (common bw + 54 * b + 22) 22
          (rw (user_odd bw b) at (field_at (2 * b + 1) (ltb-true (2 * b + 1) n e))))
      go false e = field_same s t (common bw + 54 * b) (common bw + 54 * b) 22 (rw (user_even bw b) at (field_at (2 * b) (omega arith)))

  block_same : (b : ℕ) → b < blocks n → Alike s t (block_at bw b) (covered n b + 4 + 6)
  block_same b l = block_alike s t (block_at bw b) (covered n b) (users_alike b l) (p.block_right b l) (q.block_right b l)

  -- bit i of the User blocks is bit r of block b
  user_alike : (i b r : ℕ) → i ≡ common bw + 54 * b + r → r < 54 → i < end_of bw n → bit s i ≡ bit t i
  unfolding end_of blocks block_at covered
  user_alike i b r e m l = go (ltb (2 * b + 1) n) refl (block_same b (omega arith))
    where
      go : (u : Bool) → ltb (2 * b + 1) n ≡ u → Alike s t (common bw + 54 * b) (cond u 44 22 + 4 + 6) → bit s i ≡ bit t i
      go true c h = rw e (h r (omega arith))
      go false c h = rw e (h r (omega (arith, ltb-false (2 * b + 1) n c)))

  -- what a channel carries determines it up to its end
  pub determined : Same s t (end_of bw n)
  determined = record { same = λ i l. go i l (dec_lt i (common bw)) }
    where
      go : (i : ℕ) → i < end_of bw n → Dec (i < common bw) → bit s i ≡ bit t i
      go i l (yes m) = common_alike i m
      go i l (no m) = user_alike i ((i - common bw) / 54) ((i - common bw) % 54) (omega arith) (omega arith) l
