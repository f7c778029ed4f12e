-- The owners that the code holds are those of the row's plan, and what it makes of them is which of its resource's fields each is, and of how many.
use mathlib.Core.Path.{◌≡◌, ◌∙◌, ap}
use mathlib.Core.Logic.{⊎_elim}
use mathlib.Core.List.{List, ◌++◌}
use Prim.Native.Nat.{ℕ, ◌+◌, ◌-◌, ◌*◌, ◌≤◌, ◌<◌}
use native.Mathlib.Omega.{arith}
use borrow.Author.Tests.{lt-ltb, le-ltb}
use lib.Dec.{eqb}
use lib.ListN.{length, replicate, drop}
use Rattle.answer.specs.Lists.{at, build, filled}
use Rattle.answer.proofs.Lists.{build_cong, get_d_build, get_d_filled, filled_length, drop_filled}
use Rattle.answer.proofs.Tally.{tally_cong}
use Rattle.resource.proofs.Test.{below_or}
use Rattle.kinds.specs.Signals.{Signals}
use Rattle.plan.specs.Worked.{the_plan}
use Rattle.plan.specs.Engine.{only_plan}
use Rattle.records.specs.Engine.{owner_of}
use Rattle.records.specs.Worked.{the_owner}
use Rattle.records.proofs.Listing.{records_most}
use Rattle.records.proofs.Entering.{few_fields}
use Rattle.records.proofs.Worked.{worked}
use Rattle.turns.specs.Turns.{fields_in, owner_in, users_of, turn_of}
use Rattle.turns.specs.Engine.{among, having, Numbered, Few, turn_code}
use Rattle.turns.proofs.Meeting.{met_few}

-- what a loop over the first n fields has made of owners w is made of w' too, which are the same as far as n
module _ (w w' : ℕ → ℕ) (n : ℕ) (same : (x : ℕ) → x < n → w x ≡ w' x) where
  pub having_same : (i k : ℕ) → k ≤ n → having w i k ≡ having w' i k
  having_same i k l = tally_cong (λ y. eqb (w y) i) (λ y. eqb (w' y) i) k (λ y h. ap (λ (z : ℕ). eqb z i) (same y (omega arith)))

module _ (row : List ℕ) (short : length row ≤ 16) (s : Signals (the_plan row) (at row) 0 (length row)) where
  -- channel c's, as the code holds them
  abbrev held : ℕ → List ℕ
  held c = build (owner_of (only_plan (at row)) (at row) c (length row)) 72

  few : (c : ℕ) → fields_in c row ≤ 72
  few c = few_fields c (at row) (length row) short

  module _ (m n : ℕ) (first : m ≡ fields_in 1 row) (all : n ≡ m + fields_in 2 row) (f g : List ℕ) (ef : f ≡ held 1) (eg : g ≡ held 2) where
    held_is : (x : ℕ) → x < n → among f g m x ≡ owner_in row x
    unfolding among owner_in
    held_is x h =
        ⊎_elim
        (λ (l : x < m). rw (ef, ← first, lt-ltb x m l) (get_d_build _ 72 x 0 (omega (arith, few 1))))
        (λ (l : m ≤ x). rw (eg, ← first, le-ltb x m l) (get_d_build _ 72 (x - m) 0 (omega (arith, few 2))))
        (below_or x m)

    owner_low : (c j : ℕ) → j < fields_in c row → the_owner row c j < 144
    owner_low c j h = omega (arith, (worked (the_plan row) row s c j h).listed, records_most (the_plan row) (at row) (length row))

    low : (x : ℕ) → x < n → owner_in row x < 144
    unfolding owner_in
    low x h =
        ⊎_elim
        (λ (l : x < m). rw (← first, lt-ltb x m l) (owner_low 1 x (omega arith)))
        (λ (l : m ≤ x). rw (← first, le-ltb x m l) (owner_low 2 (x - m) (omega arith)))
        (below_or x m)

    -- ---- what the calls ask
    abbrev w : ℕ → ℕ
    w = among f g m

    pub room : (m ≤ 72) × (n ≤ m + 72)
    room = (omega (arith, few 1), omega (arith, few 2))

    pub numbered : Numbered w n
    numbered = record { low = λ x h. rw (held_is x h) (low x h) }

    abbrev Turned : List ℕ → Type 0
    Turned t = t ≡ filled (λ x. having w (w x) x) n (replicate 144 0)

    abbrev Counted : List ℕ → Type 0
    Counted c = c ≡ build (λ i. having w i n) 144

    few_turns : (t : List ℕ) → Turned t → Few n t
    few_turns t e = record {
      few = λ x h. rw (e, get_d_filled (λ x. having w (w x) x) n (replicate {A = ℕ} 144 0) x 0 h) (omega (arith, met_few w (w x) x, few 1, few 2));
    }

    few_met : (c : List ℕ) → Counted c → Few 144 c
    few_met c e = record { few = λ i h. rw (e, get_d_build (λ i. having w i n) 144 i 0 h) (omega (arith, met_few w i n, few 1, few 2)) }

    pub held_few : (t c : List ℕ) → Turned t → Counted c → (length t ≡ 144) × Few n t × Few 144 c
    held_few t c e d = (
      ap length e ∙ filled_length _ n (replicate {A = ℕ} 144 0) (omega (arith, few 1, few 2)),
      few_turns t e,
      few_met c d,
    )

    -- ---- and what comes of them
    coded : (t c : List ℕ) → Turned t → Counted c → (x : ℕ) → x < n → at t x + 256 * at c (w x) ≡ turn_code row x
    unfolding turn_code turn_of users_of
    coded t c e d x h =
        rw (
          e,
          d,
          get_d_filled (λ x. having w (w x) x) n (replicate {A = ℕ} 144 0) x 0 h,
          get_d_build (λ i. having w i n) 144 (w x) 0 (rw (held_is x h) (low x h)),
          held_is x h,
          ← first,
          ← all,
          having_same w (owner_in row) n held_is (owner_in row x) x (omega arith),
          having_same w (owner_in row) n held_is (owner_in row x) n (omega arith),
        )

    pub made : (t c r : List ℕ) → Turned t → Counted c → r ≡ filled (λ x. at t x + 256 * at c (w x)) n t
        → r ≡ filled (turn_code row) n (replicate 144 0)
    unfolding filled
    made t c r e d v =
        v
        ∙ ap (λ (l : List ℕ). l ++ drop n t) (build_cong (λ x. at t x + 256 * at c (w x)) (turn_code row) n (coded t c e d))
        ∙ ap (λ (l : List ℕ). build (turn_code row) n ++ l)
        (ap (drop n) e ∙ drop_filled (λ x. having w (w x) x) n (replicate {A = ℕ} 144 0))
