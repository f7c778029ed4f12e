-- The walk's two parts, one after the other from a channel's first bit, are all that the channel holds.
use Prim.Native.Nat.{ℕ, ◌+◌, ◌≤◌}
use mathlib.Core.Path.{◌≡◌, refl, sym, ◌∙◌, ap}
use mathlib.Core.Bool.{true}
use mathlib.Core.List.{List}
use native.Mathlib.Omega.{arith}
use lib.ListN.{length, replicate, length-replicate}
use Rattle.answer.specs.Lists.{filled}
use Rattle.answer.proofs.Lists.{filled_cong, filled_length}
use Rattle.bits.specs.Bits.{field}
use Rattle.resource.specs.Values.{fields_of}
use Rattle.resource.proofs.Fields.{fields_most}
use Rattle.channel.specs.Layout.{present, common, subfields, subfields_in, value_at, value, total, count, user_at, end_of}
use Rattle.channel.proofs.Laws.{present_1, common_le, count_le, subfields_le, total_cong, total_le}
use Rattle.position.specs.Walk.{user, whole, value_from, common_at, user_from, end_from, blocks_at}

-- of a channel that the bandwidth has, the number makes no difference
subfields_any : (bw c : ℕ) → present bw c ≡ true → subfields_in bw c ≡ subfields bw
unfolding subfields_in
subfields_any bw c e = rw e

pub subfields_1 : (bw : ℕ) → subfields_in bw 1 ≡ subfields bw
subfields_1 bw = subfields_any bw 1 (present_1 bw)

pub count_any : (bw c : ℕ) (s : List ℕ) → present bw c ≡ true → count bw c s ≡ count bw 1 s
unfolding count
count_any bw c s e = ap (total (λ k. fields_of (value bw s k))) (subfields_any bw c e ∙ sym (subfields_1 bw))

-- a common field gives at most 72 User fields
pub common_count : (s : List ℕ) (at bw : ℕ) → (common_at s at bw).count ≤ 72
unfolding common_at
common_count s at bw =
    omega (arith, total_le (λ k. fields_of (value_from s at bw k)) 9 (subfields bw) (λ k. fields_most (value_from s at bw k)), subfields_le bw)

-- and the User blocks follow it
pub common_next : (s : List ℕ) (bw : ℕ) → (common_at s 0 bw).next ≡ common bw
unfolding common_at
common_next s bw = omega arith

pub next_le : (s : List ℕ) (bw : ℕ) → (common_at s 0 bw).next ≤ 4096
next_le s bw = omega (arith, common_next s bw, common_le bw)

value_first : (s : List ℕ) (bw k : ℕ) → value_from s 0 bw k ≡ value bw s k
unfolding value_from value
value_first s bw k = let e : 0 + value_at bw k ≡ value_at bw k = omega arith in ap (λ (x : ℕ). field s x 9) e

first_values : (s : List ℕ) (bw : ℕ) → (common_at s 0 bw).values ≡ filled (value bw s) (subfields bw) (replicate 8 0)
unfolding common_at
first_values s bw = filled_cong (value_from s 0 bw) (value bw s) (subfields bw) (replicate 8 0) (λ k h. value_first s bw k)

first_count : (s : List ℕ) (bw : ℕ) → (common_at s 0 bw).count ≡ count bw 1 s
unfolding common_at count
first_count s bw =
    total_cong (λ k. fields_of (value_from s 0 bw k)) (λ k. fields_of (value bw s k)) (subfields bw) (λ k h. ap fields_of (value_first s bw k))
    ∙ ap (total (λ k. fields_of (value bw s k))) (sym (subfields_1 bw))

first_overflow : (s : List ℕ) (bw : ℕ) → (common_at s 0 bw).overflow ≡ field s 0 17
unfolding common_at
first_overflow s bw = refl

users_after : (s : List ℕ) (bw n : ℕ) → filled (user_from s (common bw)) n (replicate 72 0) ≡ filled (user bw s) n (replicate 72 0)
unfolding user_from user user_at
users_after s bw n = refl

end_after : (bw n : ℕ) → end_from (common bw) n ≡ end_of bw n
unfolding end_from end_of
end_after bw n = refl

pub walk_whole : (bw : ℕ) (s : List ℕ) → blocks_at s (common_at s 0 bw).next (common_at s 0 bw) ≡ whole bw s
unfolding blocks_at whole
walk_whole bw s =
    rw (common_next s bw, first_overflow s bw, first_values s bw, first_count s bw, users_after s bw (count bw 1 s), end_after bw (count bw 1 s))

-- what it is held in
pub whole_count : (bw : ℕ) (s : List ℕ) → (whole bw s).count ≤ 72
unfolding whole
whole_count bw s = count_le bw 1 s

pub whole_values : (bw : ℕ) (s : List ℕ) → length (whole bw s).values ≡ 8
unfolding whole
whole_values bw s =
    filled_length (value bw s) (subfields bw) (replicate 8 0) (omega (arith, subfields_le bw, length-replicate {A = ℕ} 8 0)) ∙ length-replicate {A = ℕ} 8 0

pub whole_users : (bw : ℕ) (s : List ℕ) → length (whole bw s).users ≡ 72
unfolding whole
whole_users bw s =
    filled_length (user bw s) (count bw 1 s) (replicate 72 0) (omega (arith, count_le bw 1 s, length-replicate {A = ℕ} 72 0)) ∙ length-replicate {A = ℕ} 72 0
