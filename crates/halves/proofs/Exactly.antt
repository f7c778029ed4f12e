-- "given exactly when (nothing earlier applies)": each number of 01's table, with its channel and place.
use mathlib.Core.Path.{◌≡◌, refl, sym, ◌∙◌, ap}
use mathlib.Core.Bool.{Bool, true, false, cond}
use mathlib.Core.List.{List, ◌∷◌, ◌++◌}
use Prim.Native.Nat.{ℕ, ◌+◌, ◌-◌}
use lib.Dec.{ltb}
use Rattle.answer.specs.Answer.{no}
use Rattle.answer.proofs.Numbers.{Only, only_if, only_or, Gives, more}
use Rattle.answer.proofs.Order.{refuse_if_lem}
use Rattle.answer.specs.declared.Answer.{Answer}
use Rattle.answer.specs.Answer.{Outcome}
use Rattle.answer.specs.declared.Refusal.TheVariants.{UnknownBandwidth, NoPlan, OverEightFields, StationTwice}
use Rattle.answer.specs.declared.Refusal.{Refusal}
use Rattle.answer.specs.Answer.{answer_of}
use Rattle.plan.specs.Answers.{segments}
use Rattle.plan.specs.Worked.{is_held, at_most_eight, lowest_without, outcome7, outcome8}
use Rattle.channel.specs.Layout.{row, count, user_at}
use Rattle.faults.proofs.Passing.{too_long_only, cut_common_only, wrong_common_only, overflow_differs_only, not_carried_only, cut_users_only, wrong_users_only}
use Rattle.stations.specs.Stations.{station_of, station_twice, station_place, first_repeated}
use Rattle.halves.specs.Table.{check1, check2, check3, check4, check5, check6, check7, check8, check9, check10, check11, checks11}

-- stationTwice's answer has one of two forms, both with number 11
only_11 : (bw : ℕ) (a b : List ℕ) (n m : ℕ) → Only 11 (station_twice bw a b n m)
unfolding station_twice
only_11 bw a b n m = record {
  number_is = λ x e.
      let j = first_repeated (station_of bw a b n) (n + m) in
      let r = refuse_if_lem (ltb j (n + m)) (station_place bw n j) x e in
      sym (ap (λ (y : Refusal). (answer_of y).number) r.1) ∙ place_11 bw n j;
}
  where
    place_11 : (bw n j : ℕ) → (answer_of (station_place bw n j)).number ≡ 11
    place_11 bw n j = go (ltb j n)
      where
        go : (t : Bool) → (answer_of (cond t (StationTwice 1 (user_at bw j)) (StationTwice 2 (user_at bw (j - n))))).number ≡ 11
        go true = refl
        go false = refl

module _ (bw : ℕ) (a b : List ℕ) where
  only_1 : Only 1 (check1 bw)
  unfolding check1
  only_1 = only_if (ltb 4 bw) UnknownBandwidth

  only_2 : Only 2 (check2 bw a b)
  unfolding check2
  only_2 = only_or (too_long_only bw 1 a) (too_long_only bw 2 b)

  only_3 : Only 3 (check3 bw a b)
  unfolding check3
  only_3 = only_or (cut_common_only bw 1 a) (cut_common_only bw 2 b)

  only_4 : Only 4 (check4 bw a b)
  unfolding check4
  only_4 = only_or (wrong_common_only bw 1 a) (wrong_common_only bw 2 b)

  only_5 : Only 5 (check5 bw a b)
  unfolding check5
  only_5 = overflow_differs_only bw a b

  only_6 : Only 6 (check6 bw a b)
  unfolding check6
  only_6 = only_or (not_carried_only bw 1 a) (not_carried_only bw 2 b)

  only_7 : Only 7 (check7 bw a b)
  unfolding check7 outcome7
  only_7 =
      let found = lowest_without (is_held (row bw a b)) (segments (row bw a b)) in
      only_if (ltb found (segments (row bw a b))) (NoPlan found)

  only_8 : Only 8 (check8 bw a b)
  unfolding check8 outcome8
  only_8 =
      let found = lowest_without (at_most_eight (row bw a b)) (segments (row bw a b)) in
      only_if (ltb found (segments (row bw a b))) (OverEightFields found)

  only_9 : Only 9 (check9 bw a b)
  unfolding check9
  only_9 = only_or (cut_users_only bw 1 a) (cut_users_only bw 2 b)

  only_10 : Only 10 (check10 bw a b)
  unfolding check10
  only_10 = only_or (wrong_users_only bw 1 a) (wrong_users_only bw 2 b)

  only_11_here : Only 11 (check11 bw a b)
  unfolding check11
  only_11_here = only_11 bw a b (count bw 1 a) (count bw 2 b)

  -- 1 to 11, and what comes after them: 12 of the reader, 23 of the listing, 21 and 23 of the streams
  pub checks11_then : {ns : List ℕ} {os : List Outcome} → Gives ns os → Gives (1 ∷ 2 ∷ 3 ∷ 4 ∷ 5 ∷ 6 ∷ 7 ∷ 8 ∷ 9 ∷ 10 ∷ 11 ∷ ns) (checks11 bw a b ++ os)
  checks11_then rest =
      more only_1 (more only_2 (more only_3 (more only_4 (more only_5 (more only_6 (more only_7 (more only_8
      (more only_9 (more only_10 (more only_11_here rest))))))))))
