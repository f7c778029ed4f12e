-- 9 as the reading asks it: of channel 1, then of channel 2, and what either refuses is the answer.
use mathlib.Core.Path.{◌≡◌, sym, ◌∙◌, ap₂}
use mathlib.Core.Bool.{true, false, ◌||◌}
use mathlib.Core.List.{List}
use Prim.Native.Nat.{ℕ}
use Rattle.answer.specs.Answer as A
use Rattle.answer.specs.declared.Answer.{Answer}
use Rattle.answer.specs.Answer.{Outcome}
use Rattle.std.specs.Prelude.{Ok, Err}
use Rattle.answer.proofs.Order.{or_refuse, or_next, pass_not_refuse}
use Rattle.answer.specs.declared.Refusal.TheVariants.{UserBlocksCut}
use Rattle.answer.specs.declared.Refusal.{Refusal}
use Rattle.channel.specs.Layout.{count}
use Rattle.channel.specs.Fields.{named_fields}
use Rattle.faults.specs.RanOut.{ran_out_at}
use Rattle.faults.specs.Checks.{short_users, cut_users}
use Rattle.faults.proofs.Passing.{cut_users_tested}
use Rattle.halves.specs.Table.{check9}
use Rattle.halves.specs.Engine.{outcome9to11}
use Rattle.halves.proofs.Stages.{none_short_9}

-- a refusal that is 9 to 11
pub record Refused (r o : Outcome) : Type 0 where
  pub said : r ≡ o
  pub not_passed : r ≡ Ok tt → ⊥

module _ (bw : ℕ) (a b : List ℕ) where
  nine : (r : Outcome) (y : Refusal) → r ≡ Err y → check9 bw a b ≡ Err y → Refused r (outcome9to11 bw a b)
  unfolding outcome9to11
  nine r y e f = record { said = e ∙ sym (or_refuse _ _ _ (or_refuse _ _ _ f)); not_passed = λ p. pass_not_refuse p e }

  module _ (n m : ℕ) (e : n ≡ count bw 1 a) (f : m ≡ count bw 2 b) where
    pub cut_first : (r : Outcome) → r ≡ cut_users bw 1 a → short_users bw n a ≡ true → Refused r (outcome9to11 bw a b)
    unfolding check9
    cut_first r q t =
        let g = cut_users_tested bw 1 a n true e t in
        nine r (UserBlocksCut 1 (ran_out_at a (named_fields bw n))) (q ∙ g) (or_refuse _ _ _ g)

    module _ (t : short_users bw n a ≡ false) where
      pub cut_second : (r : Outcome) → r ≡ cut_users bw 2 b → short_users bw m b ≡ true → Refused r (outcome9to11 bw a b)
      unfolding check9
      cut_second r q u =
          let g = cut_users_tested bw 2 b m true f u in
          nine r (UserBlocksCut 2 (ran_out_at b (named_fields bw m))) (q ∙ g) (or_next _ _ (cut_users_tested bw 1 a n false e t) ∙ g)

      pub none_cut : short_users bw m b ≡ false → check9 bw a b ≡ Ok tt
      none_cut u = none_short_9 bw a b n m e f (ap₂ ◌||◌ t u)
