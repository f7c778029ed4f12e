-- The candidate carries what was put into it, with every check and tail right, and is zero past its end.
use mathlib.Core.Path.{◌≡◌, ◌∙◌}
use mathlib.Core.Bool.{true}
use mathlib.Core.List.{List}
use Prim.Native.Nat.{ℕ, ◌+◌, ◌*◌, ◌%◌, ◌^◌, ◌≤◌, ◌<◌}
use native.Mathlib.Omega.{arith}
use lib.ListN.{length}
use Rattle.bits.specs.Bits.{bit, field, put, Small}
use Rattle.bits.proofs.Fields.{field_ext}
use Rattle.bits.proofs.Writes.{put_length, put_after, field_put}
use Rattle.block.specs.Check.{Right}
use Rattle.channel.specs.Layout.{first_bits, second_at, second_bits, has_second, common, subfields, value_at, value, user_at, block_at, blocks, covered, end_of}
use Rattle.channel.proofs.Laws.{first_inside, second_inside, common_ge}
use Rattle.channel.proofs.Values.{value_inside, values_apart}
use Rattle.channel.proofs.Blocks.{users_apart, user_after, user_end, block_after, block_inside, end_after}
use Rattle.candidate.specs.Engine.{puts, seal, seal_second, seal_blocks, payload, sealed}
use Rattle.candidate.proofs.Contents.{Contents}
use Rattle.candidate.proofs.Puts.{Off, puts_length, puts_off, puts_field, value_after, value_place, user_place}
use Rattle.candidate.proofs.Seals.{blocks_right, seal_length, seal_off, seal_right, right_kept, blocks_length, blocks_off}
use Rattle.candidate.proofs.Seals.{second_length, second_off, second_there, seal_small, second_small, blocks_small}

module _ (bw v : ℕ) (x : ℕ → ℕ) (n : ℕ) (f : ℕ → ℕ) (d : List ℕ)
    (blank : (i : ℕ) → bit d i ≡ 0) (reach : end_of bw n ≤ 8 * length d) where
  abbrev one : List ℕ
  one = put d 0 17 v

  abbrev two : List ℕ
  two = puts (value_at bw) 9 x (subfields bw) one

  abbrev three : List ℕ
  three = puts (user_at bw) 22 f n two

  two_length : length two ≡ length d
  two_length = puts_length (value_at bw) 9 x one (subfields bw) ∙ put_length d 0 17 v

  three_length : length three ≡ length d
  three_length = puts_length (user_at bw) 22 f two n ∙ two_length

  -- below the common field's end the User fields leave what was put
  three_common : (i : ℕ) → i < common bw → bit three i ≡ bit two i
  three_common i l = puts_off (user_at bw) 22 f two n i (λ k m p q. omega (arith, user_after bw k))

  three_overflow : field three 0 17 ≡ v % 2 ^ 17
  three_overflow =
      field_ext three one 0 0 17
      (λ k l.
      three_common (0 + k) (omega (arith, common_ge bw))
      ∙ puts_off (value_at bw) 9 x one (subfields bw) (0 + k) (λ j m p q. omega (arith, value_after bw j)))
      ∙ field_put d 0 17 v (omega (arith, common_ge bw, end_after bw n))

  three_value : (k : ℕ) → k < subfields bw → field three (value_at bw k) 9 ≡ x k % 2 ^ 9
  three_value k l =
      field_ext three two (value_at bw k) (value_at bw k) 9 (λ j m. three_common (value_at bw k + j) (omega (arith, value_inside bw k l)))
      ∙ puts_field (value_at bw) 9 x one (values_apart bw) (subfields bw)
      (λ j m. omega (arith, value_inside bw j m, end_after bw n, put_length d 0 17 v)) k l

  three_field : (i : ℕ) → i < n → field three (user_at bw i) 22 ≡ f i % 2 ^ 22
  three_field i l =
      puts_field (user_at bw) 22 f two (users_apart bw) n (λ j m. omega (arith, user_end bw n j m, two_length)) i l

  -- what was not put is zero
  three_zero : (i : ℕ) → 17 ≤ i → ((k : ℕ) → k < subfields bw → Off (value_at bw k) 9 i) → ((j : ℕ) → j < n → Off (user_at bw j) 22 i) → bit three i ≡ 0
  three_zero i l p q =
      puts_off (user_at bw) 22 f two n i q
      ∙ puts_off (value_at bw) 9 x one (subfields bw) i p
      ∙ put_after d 0 17 v i l
      ∙ blank i

  zero_first : (i : ℕ) → first_bits bw ≤ i → i < first_bits bw + 10 → bit three i ≡ 0
  zero_first i p q =
      three_zero i (unfold first_bits in omega arith)
      (λ k l a b. (value_place bw k l i a b).0 p q)
      (λ j l a b. omega (arith, user_after bw j, first_inside bw))

  zero_second : has_second bw ≡ true → (i : ℕ) → second_at bw + second_bits bw ≤ i → i < second_at bw + second_bits bw + 10 → bit three i ≡ 0
  zero_second e i p q =
      three_zero i (unfold second_at first_bits in omega arith)
      (λ k l a b. (value_place bw k l i a b).1 e p q)
      (λ j l a b. omega (arith, user_after bw j, second_inside bw e))

  zero_block : (b i : ℕ) → block_at bw b + covered n b ≤ i → i < block_at bw b + covered n b + 10 → bit three i ≡ 0
  zero_block b i p q =
      three_zero i (omega (arith, block_after bw b, common_ge bw))
      (λ k l a c. omega (arith, (value_place bw k l i a c).2, block_after bw b))
      (λ j l a c. user_place bw n j l i a c b p q)

  zero_end : (i : ℕ) → end_of bw n ≤ i → bit three i ≡ 0
  zero_end i p =
      three_zero i (omega (arith, end_after bw n, common_ge bw))
      (λ k l a b. omega (arith, (value_place bw k l i a b).2, end_after bw n))
      (λ j l a b. omega (arith, user_end bw n j l))

  -- ---- the checks

  abbrev four : List ℕ
  four = seal 0 (first_bits bw) three

  abbrev five : List ℕ
  five = seal_second bw four

  abbrev six : List ℕ
  six = seal_blocks bw n (blocks n) five

  five_length : length five ≡ length d
  five_length = second_length bw four ∙ seal_length 0 (first_bits bw) three ∙ three_length

  five_off : (i : ℕ) → Off (first_bits bw) 4 i → (has_second bw ≡ true → Off (second_at bw + second_bits bw) 4 i) → bit five i ≡ bit three i
  five_off i p q = second_off bw four i q ∙ seal_off 0 (first_bits bw) three i (λ a b. p (omega arith) (omega arith))

  six_off : (i : ℕ) → Off (first_bits bw) 4 i → (has_second bw ≡ true → Off (second_at bw + second_bits bw) 4 i)
      → ((b : ℕ) → b < blocks n → Off (block_at bw b + covered n b) 4 i) → bit six i ≡ bit three i
  six_off i p q r = blocks_off bw n five (blocks n) i r ∙ five_off i p q

  six_common : (i : ℕ) → i < common bw → bit six i ≡ bit five i
  six_common i l = blocks_off bw n five (blocks n) i (λ b m p q. omega (arith, block_after bw b))

  first_right : Right six 0 (first_bits bw)
  unfolding second_at
  first_right =
      right_kept four six 0 (first_bits bw)
      (λ i p q.
      six_common i (omega (arith, first_inside bw))
      ∙ second_off bw four i (λ e a b. omega arith))
      (seal_right 0 (first_bits bw) three (omega (arith, first_inside bw, end_after bw n, three_length))
      (λ k l. zero_first (0 + first_bits bw + 4 + k) (omega arith) (omega arith)))

  second_right : has_second bw ≡ true → Right six (second_at bw) (second_bits bw)
  second_right e =
      right_kept five six (second_at bw) (second_bits bw)
      (λ i p q. six_common i (omega (arith, second_inside bw e)))
      (rw (second_there bw four e)
      (seal_right (second_at bw) (second_bits bw) four
      (omega (arith, second_inside bw e, end_after bw n, three_length, seal_length 0 (first_bits bw) three))
      (λ k l.
      seal_off 0 (first_bits bw) three (second_at bw + second_bits bw + 4 + k) (λ a b. unfold second_at in omega arith)
      ∙ zero_second e (second_at bw + second_bits bw + 4 + k) (omega arith) (omega arith))))

  -- a bit at or after the common field's end is no common check's
  past_common : (i : ℕ) → common bw ≤ i → (Off (first_bits bw) 4 i) × (has_second bw ≡ true → Off (second_at bw + second_bits bw) 4 i)
  past_common i l = (λ a b. omega (arith, first_inside bw), λ e a b. omega (arith, second_inside bw e))

  block_right : (b : ℕ) → b < blocks n → Right six (block_at bw b) (covered n b)
  block_right =
      blocks_right bw n five
      (λ b l. omega (arith, block_inside bw n b l, five_length))
      (λ b l k m.
      let i = block_at bw b + covered n b + 4 + k in
      let c = past_common i (omega (arith, block_after bw b)) in
      five_off i c.0 c.1 ∙ zero_block b i (omega arith) (omega arith))
      (blocks n)
      (omega arith)

  six_overflow : field six 0 17 ≡ v % 2 ^ 17
  six_overflow =
      field_ext six three 0 0 17
      (λ k l.
      six_off (0 + k) (λ a b. unfold first_bits in omega arith) (λ e a b. unfold second_at first_bits in omega arith)
      (λ b m p q. omega (arith, block_after bw b, common_ge bw)))
      ∙ three_overflow

  six_value : (k : ℕ) → k < subfields bw → field six (value_at bw k) 9 ≡ x k % 2 ^ 9
  six_value k l =
      field_ext six three (value_at bw k) (value_at bw k) 9
      (λ j m.
      let c = value_place bw k l (value_at bw k + j) (omega arith) (omega arith) in
      six_off (value_at bw k + j) (λ a b. c.0 a (omega arith)) (λ e a b. c.1 e a (omega arith))
      (λ b h p q. omega (arith, c.2, block_after bw b)))
      ∙ three_value k l

  six_field : (i : ℕ) → i < n → field six (user_at bw i) 22 ≡ f i % 2 ^ 22
  six_field i l =
      field_ext six three (user_at bw i) (user_at bw i) 22
      (λ j m.
      let c = past_common (user_at bw i + j) (omega (arith, user_after bw i)) in
      six_off (user_at bw i + j) c.0 c.1
      (λ b h p q. user_place bw n i l (user_at bw i + j) (omega arith) (omega arith) b p (omega arith)))
      ∙ three_field i l

  built_zero : (i : ℕ) → end_of bw n ≤ i → bit six i ≡ 0
  built_zero i l =
      let c = past_common i (omega (arith, end_after bw n)) in
      six_off i c.0 c.1 (λ b h p q. omega (arith, block_inside bw n b h)) ∙ zero_end i l

  built_carries : Contents bw (v % 2 ^ 17) (λ k. x k % 2 ^ 9) n (λ i. f i % 2 ^ 22) six
  unfolding value
  built_carries =
      record {
        the_overflow = six_overflow;
        the_value = six_value;
        the_field = six_field;
        common_right = record { first_right = first_right; second_right = second_right };
        block_right = block_right;
      }

  -- ---- in the definitions' own names

  pub sealed_carries : Contents bw (v % 2 ^ 17) (λ k. x k % 2 ^ 9) n (λ i. f i % 2 ^ 22) (sealed bw n (payload bw v x (subfields bw) f n d))
  unfolding sealed payload
  sealed_carries = built_carries

  pub sealed_zero : (i : ℕ) → end_of bw n ≤ i → bit (sealed bw n (payload bw v x (subfields bw) f n d)) i ≡ 0
  unfolding sealed payload
  sealed_zero = built_zero

-- the length stays
pub sealed_length : (bw n v : ℕ) (x : ℕ → ℕ) (s : ℕ) (f : ℕ → ℕ) (d : List ℕ) → length (sealed bw n (payload bw v x s f n d)) ≡ length d
unfolding sealed payload
sealed_length bw n v x s f d =
    blocks_length bw n _ (blocks n)
    ∙ second_length bw _
    ∙ seal_length 0 (first_bits bw) _
    ∙ puts_length (user_at bw) 22 f _ n
    ∙ puts_length (value_at bw) 9 x _ s
    ∙ put_length d 0 17 v

pub sealed_small : (bw n : ℕ) (d : List ℕ) → Small (sealed bw n d)
unfolding sealed
sealed_small bw n d =
    blocks_small bw n (blocks n) _ (second_small bw (seal 0 (first_bits bw) d) (seal_small 0 (first_bits bw) d))
