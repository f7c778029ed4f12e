-- What the candidate's channels carry, in the numbers that the words tell.
use mathlib.Core.Path.{◌≡◌, sym, ◌∙◌, ap, ap₂}
use mathlib.Core.Bool.{Bool, true, false, cond}
use mathlib.Core.List.{List}
use Prim.Native.Nat.{ℕ, ◌+◌, ◌-◌, ◌*◌, ◌%◌, ◌^◌, ◌<◌}
use native.Mathlib.Nat.{mod-eq_of_lt}
use native.Mathlib.Omega.{arith}
use lib.Dec.{eqb}
use Rattle.answer.specs.Lists.{at}
use Rattle.bits.specs.Bits.{field}
use Rattle.bits.specs.Pack.{unpack}
use Rattle.bits.proofs.Fields.{field_split}
use Rattle.bits.proofs.Pack.{pack_lt, unpack_fit}
use Rattle.channel.specs.Fields.{overflow_widths}
use Rattle.channel.specs.Layout.{firsts, seconds, first_bits, second_at, second_bits, subfields, subfields_in, overflow, value_at, value, user}
use Rattle.channel.proofs.Values.{value_first, value_second}
use Rattle.words.specs.Words.{data0_widths}
use Rattle.words.specs.Engine.{gi_ltf, overflow_of}
use Rattle.words.specs.Engine as W
use Rattle.words.proofs.Laws.{value_of_lt, user_field_lt}
use Rattle.frame_words.specs.Words.{position_in}
use Rattle.candidate.specs.Engine.{first_of, second_of, overflow_in, value_in, count_in, field_in, first_in, candidate}
use Rattle.candidate.proofs.Held.{Holds, all_subfields, candidate_carries}
use Rattle.candidate.proofs.Numbers.{field_gathered}

-- ---- the overflow fits its 17 bits

pub gi_ltf_lt : (g s : ℕ) → gi_ltf g s < 4
gi_ltf_lt g s = go (eqb s 3) (eqb g 2)
  where
    go : (t u : Bool) → cond t (cond u 3 2) (g % 2) < 4
    go true true = omega arith
    go true false = omega arith
    go false u = omega arith

pub overflow_of_lt : (x : ℕ) → overflow_of x < 2 ^ 17
unfolding overflow_of
overflow_of_lt x =
    let u = unpack_fit data0_widths x in
    let vs = unpack data0_widths x in
    pack_lt overflow_widths (W.overflow_in vs) (
      u.1.0,
      (
        gi_ltf_lt (at vs 2) (at vs 3),
        (u.1.1.1.1.0, (u.1.1.1.1.1.0, (u.1.1.1.1.1.1.0, (u.1.1.1.1.1.1.1.0, (u.1.1.1.1.1.1.1.1.0, tt))))),
      ),
    )

-- ---- one channel that is there

module _ (bw : ℕ) (w : List ℕ) (c : ℕ) (h : Holds bw w c) where
  abbrev s : List ℕ
  s = candidate bw w c

  pub said_overflow : overflow s ≡ overflow_in w
  unfolding overflow_in
  said_overflow = (candidate_carries bw w c h).the_overflow ∙ mod-eq_of_lt (overflow_of_lt (at w 1))

  pub said_value : (k : ℕ) → k < subfields_in bw c → value bw s k ≡ value_in w c k
  unfolding value_in
  said_value k l =
      (candidate_carries bw w c h).the_value k (rw (all_subfields bw w c h) at l) ∙ mod-eq_of_lt (value_of_lt w (position_in c k))

  pub said_field : (i : ℕ) → i < count_in bw w c → user bw s i ≡ field_in bw w c i
  unfolding field_in
  said_field i l = (candidate_carries bw w c h).the_field i l ∙ mod-eq_of_lt (user_field_lt (at w (first_in bw w c + i)))

  -- its parts as numbers
  value_is : (k : ℕ) → k < subfields bw → field s (value_at bw k) 9 ≡ value_in w c k
  unfolding value
  value_is k l = said_value k (rw (all_subfields bw w c h) l)

  pub first_part : field s 0 (first_bits bw) ≡ first_of bw (overflow_in w) (value_in w c)
  unfolding first_bits first_of subfields
  first_part =
      field_split s 0 17 (9 * firsts bw)
      ∙ ap₂ (λ (x y : ℕ). x + y * 2 ^ 17)
      (candidate_carries bw w c h).the_overflow
      (field_gathered s 17 (value_in w c) (firsts bw)
      (λ k l. ap (λ (i : ℕ). field s i 9) (sym (value_first bw k l).0) ∙ value_is k (omega arith)))

  pub second_part_lem : field s (second_at bw) (second_bits bw) ≡ second_of bw (value_in w c)
  unfolding second_bits second_of subfields
  second_part_lem =
      field_gathered s (second_at bw) (λ k. value_in w c (firsts bw + k)) (seconds bw)
      (λ k l.
      let d : firsts bw + k - firsts bw ≡ k = omega arith in
      let g : value_at bw (firsts bw + k) ≡ second_at bw + 9 * k =
      (value_second bw (firsts bw + k) (omega arith) (omega arith)).0 ∙ ap (λ (j : ℕ). second_at bw + 9 * j) d in
      ap (λ (i : ℕ). field s i 9) (sym g) ∙ value_is (firsts bw + k) (omega arith))
