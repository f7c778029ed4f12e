-- The candidate passes 4 and 10, whatever the words: reading it back need not work out a check again.
use mathlib.Core.Path.{◌≡◌, sym, ◌∙◌, ap, subst}
use mathlib.Core.Bool.{true}
use mathlib.Core.List.{List}
use Prim.Native.Nat.{ℕ, ◌<◌}
use native.Mathlib.Nat.{mod-eq_of_lt}
use native.Mathlib.Omega.{arith}
use Rattle.std.specs.Prelude.{Ok}
use Rattle.answer.proofs.Order.{or_pass}
use Rattle.block.specs.Check.{Right}
use Rattle.resource.specs.Values.{fields_of}
use Rattle.channel.specs.Layout.{present, subfields_in, value, count, block_at, blocks, covered}
use Rattle.channel.proofs.Laws.{total_cong}
use Rattle.faults.specs.Checks.{wrong_common, wrong_users}
use Rattle.faults.proofs.Passing.{pass_wrong_common, pass_wrong_users}
use Rattle.faults.proofs.Padding.{present_count}
use Rattle.halves.specs.Table.{check4, check10}
use Rattle.halves.specs.Engine.{Sealed}
use Rattle.frame_words.specs.Words.{position_in}
use Rattle.candidate.specs.Engine.{value_in, count_in, candidate}
use Rattle.candidate.proofs.Held.{Holds, all_subfields, candidate_carries, holds_1, holds_2}
use Rattle.words.proofs.Laws.{value_of_lt}

module _ (bw : ℕ) (w : List ℕ) (c : ℕ) (h : present bw c ≡ true → Holds bw w c) where
  abbrev s : List ℕ
  s = candidate bw w c

  -- a channel that is there has as many fields as its values, which are read back, give
  the_count : present bw c ≡ true → count bw c s ≡ count_in bw w c
  unfolding count count_in value_in
  the_count p =
      total_cong (λ k. fields_of (value bw s k)) (λ k. fields_of (value_in w c k)) (subfields_in bw c)
      (λ k l.
      ap fields_of
      ((candidate_carries bw w c (h p)).the_value k (rw (all_subfields bw w c (h p)) at l)
      ∙ mod-eq_of_lt (value_of_lt w (position_in c k))))

  pass_4 : wrong_common bw c s ≡ Ok tt
  pass_4 = pass_wrong_common bw c s (λ p. (candidate_carries bw w c (h p)).common_right)

  -- a block is of a channel that is there
  block_right : (b : ℕ) → b < blocks (count bw c s) → Right s (block_at bw b) (covered (count bw c s) b)
  block_right b l =
      let p = present_count bw c s (unfold blocks in omega arith) in
      subst (λ (n : ℕ). b < blocks n → Right s (block_at bw b) (covered n b)) (sym (the_count p)) ((candidate_carries bw w c (h p)).block_right b) l

  pass_10 : wrong_users bw c s ≡ Ok tt
  pass_10 = pass_wrong_users bw c s block_right

pub candidate_sealed : (bw : ℕ) (w : List ℕ) → Sealed bw (candidate bw w 1) (candidate bw w 2)
unfolding check4 check10
candidate_sealed bw w =
    record {
      common_sealed = or_pass _ _ (pass_4 bw w 1 (λ p. holds_1 bw w)) (pass_4 bw w 2 (holds_2 bw w));
      users_sealed = or_pass _ _ (pass_10 bw w 1 (λ p. holds_1 bw w)) (pass_10 bw w 2 (holds_2 bw w));
    }
