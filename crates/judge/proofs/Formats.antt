-- The formats of the User words, by the plan of the row: channel by channel, value by value.
use mathlib.Core.Path.{◌≡◌, refl, sym, ◌∙◌, ap, ap₂}
use mathlib.Core.Bool.{Bool, true, false, ◌&&◌, true≢false}
use mathlib.Core.List.{List}
use Prim.Native.Nat.{ℕ, zero, suc, ◌+◌, ◌-◌, ◌/◌, ◌%◌, ◌^◌, ◌≤◌, ◌<◌}
use native.Mathlib.Decide.{dec_lt, ℕ_discrete}
use native.Mathlib.Nat.{add-zero, add-suc, zero-div}
use native.Mathlib.Omega.{arith}
use lib.Dec.{eqb}
use lib.ListN.{length}
use Rattle.answer.specs.Decides.{Decides}
use Rattle.answer.specs.Every.{every}
use Rattle.answer.specs.Lists.{at}
use Rattle.std.specs.Prelude.{Ok}
use Rattle.answer.proofs.Every.{every_at, all_every, every_cong}
use Rattle.kinds.specs.Fields.{fields_to}
use Rattle.plan.specs.declared.Plan.{Plan}
use Rattle.plan.specs.Engine.{plan_outcome, plan_of, passed_plan}
use Rattle.plan.proofs.Value.{shared_bit, plan_outcome_lem, plan_passed}
use Rattle.channel.specs.Layout.{positions, row, count}
use Rattle.halves.proofs.Counts as C
use Rattle.frame_words.specs.Words.{position_in, before, giver, shared_at}
use Rattle.frame_words.specs.Engine.{Holds, Formats}
use Rattle.frame_words.proofs.Rows as R
use Rattle.frame_words.proofs.Givers.{Turn, giver_is, giver_below}
use Rattle.candidate.specs.Engine.{count_in, candidate}
use Rattle.candidate.proofs.Held.{count_in_le}
use Rattle.judge.specs.Engine.{row_in, formatted, format_in, Formatted}
use Rattle.judge.proofs.Said.{count_1, count_2, row_is}
use Rattle.judge.proofs.Words.{decides}
use Rattle.judge.proofs.Steps.{row_size}

pub every_append : (t : ℕ → Bool) (n m : ℕ) → every t n && every (λ i. t (n + i)) m ≡ every t (n + m)
every_append t n zero = rw (add-zero n) (go (every t n))
  where
    go : (x : Bool) → x && true ≡ x
    go true = refl
    go false = refl
every_append t n (suc m) = rw (add-suc n m) (assoc (every t n) (every (λ i. t (n + i)) m) (t (n + m)) ∙ ap (λ (x : Bool). x && t (n + m)) (every_append t n m))
  where
    assoc : (x y z : Bool) → x && (y && z) ≡ x && y && z
    assoc true y z = refl
    assoc false y z = refl

-- its outcome is 7 and 8
pub plan_answers : (r : List ℕ) (p : Plan) → p ≡ plan_of r → p.outcome ≡ plan_outcome r
plan_answers r p f = ap (λ (p : Plan). p.outcome) f ∙ plan_outcome_lem r

module _ (bw : ℕ) (w : List ℕ) (l : bw ≤ 4) where
  -- the row has each channel's values at its positions
  pub row_holds : (c : ℕ) → 1 ≤ c → c ≤ 2 → (r : List ℕ) → r ≡ row_in bw w → Holds bw c (candidate bw w c) r
  row_holds c p q r e = go (ℕ_discrete c 1)
    where
      f : r ≡ row bw (candidate bw w 1) (candidate bw w 2)
      f = e ∙ sym (row_is bw w l)

      one : (c : ℕ) → c ≡ 1 → Holds bw c (candidate bw w c) r
      one c d = rw d (R.holds_1 bw (candidate bw w 1) (candidate bw w 2) l r f)

      two : (c : ℕ) → c ≡ 2 → Holds bw c (candidate bw w c) r
      two c d = rw d (R.holds_2 bw (candidate bw w 1) (candidate bw w 2) l r f)

      go : Dec (c ≡ 1) → Holds bw c (candidate bw w c) r
      go (yes d) = one c d
      go (no d) = two c (omega arith)

  pub counts_are : (c : ℕ) → 1 ≤ c → c ≤ 2 → count bw c (candidate bw w c) ≡ count_in bw w c
  counts_are c p q = go (ℕ_discrete c 1)
    where
      one : (c : ℕ) → c ≡ 1 → count bw c (candidate bw w c) ≡ count_in bw w c
      one c d = rw d (count_1 bw w l)

      two : (c : ℕ) → c ≡ 2 → count bw c (candidate bw w c) ≡ count_in bw w c
      two c d = rw d (count_2 bw w l)

      go : Dec (c ≡ 1) → count bw c (candidate bw w c) ≡ count_in bw w c
      go (yes d) = one c d
      go (no d) = two c (omega arith)

  -- in the turn of a channel's k-th value, which j fields came before: its m words, from `first` on, and those before
  pub turn_formats : (c first : ℕ) (r : List ℕ) (x j k m : ℕ) (a b : Bool) → r ≡ row_in bw w → Formats r x
      → Turn bw c (candidate bw w c) r j k m → j ≡ before bw (candidate bw w c) k
      → a ≡ every (λ q. formatted (format_in bw w c q) (at w (first + q))) j
      → b ≡ every (λ i. formatted (eqb (x / 2 ^ position_in c k % 2) 1) (at w (first + j + i))) m
      → a && b ≡ every (λ q. formatted (format_in bw w c q) (at w (first + q))) (j + m)
  unfolding format_in
  turn_formats c first r x j k m a b e f t h p q =
      ap₂ ◌&&◌ p (q ∙ every_cong _ _ m same) ∙ every_append (λ q. formatted (format_in bw w c q) (at w (first + q))) j m
    where
      s : List ℕ
      s = candidate bw w c

      kth : (i : ℕ) → i < m → giver bw c s (j + i) ≡ k
      kth i n = giver_is bw c s k t.there (j + i) (omega arith) (omega (arith, t.next))

      format : (i : ℕ) → i < m → eqb (x / 2 ^ position_in c k % 2) 1 ≡ shared_at (row_in bw w) (position_in c (giver bw c s (j + i)))
      format i n = f.format (position_in c k) t.inside ∙ rw (e, kth i n)

      same : (i : ℕ) → i < m
          → formatted (eqb (x / 2 ^ position_in c k % 2) 1) (at w (first + j + i))
          ≡ formatted (shared_at (row_in bw w) (position_in c (giver bw c s (j + i)))) (at w (first + (j + i)))
      same i n = let g : first + j + i ≡ first + (j + i) = omega arith in rw (format i n, g)

  -- where no position's fields share their resource, no field's format is the shared one
  lone : (c : ℕ) → 1 ≤ c → c ≤ 2 → (r : List ℕ) → r ≡ row_in bw w → Formats r 0 → (j : ℕ) → j < count_in bw w c → format_in bw w c j ≡ false
  unfolding format_in
  lone c p q r e f j m =
      let s = candidate bw w c in
      let g = giver_below bw c s j (omega (arith, counts_are c p q)) in
      let i = position_in c (giver bw c s j) in
      rw (← e) (sym (f.format i ((row_holds c p q r e).inside (giver bw c s j) g)) ∙ rw (zero-div (2 ^ i)) refl)

  pub lone_decides : (r : List ℕ) (n m : ℕ) → r ≡ row_in bw w → Formats r 0 → n ≡ count_in bw w 1 → m ≡ count_in bw w 2
      → Decides (every (λ i. formatted false (at w (10 + i))) (n + m)) (Formatted bw w)
  lone_decides r n m e f g h = decides _ so back
    where
      so : every (λ i. formatted false (at w (10 + i))) (n + m) ≡ true → Formatted bw w
      so d = record {
        on_1 = λ j k.
            ap (λ (t : Bool). formatted t (at w (10 + j))) (lone 1 (omega arith) (omega arith) r e f j k)
            ∙ every_at (λ i. formatted false (at w (10 + i))) (n + m) d j (omega arith);
        on_2 = λ j k.
            let z : 10 + count_in bw w 1 + j ≡ 10 + (n + j) = omega arith in
            ap₂ (λ (t : Bool) (i : ℕ). formatted t (at w i)) (lone 2 (omega arith) (omega arith) r e f j k) z
            ∙ every_at (λ i. formatted false (at w (10 + i))) (n + m) d (n + j) (omega arith);
      }

      back : Formatted bw w → every (λ i. formatted false (at w (10 + i))) (n + m) ≡ true
      back d = all_every (λ i. formatted false (at w (10 + i))) (n + m) (λ i k. go i k (dec_lt i n))
        where
          go : (i : ℕ) → i < n + m → Dec (i < n) → formatted false (at w (10 + i)) ≡ true
          go i k (yes u) =
              ap (λ (t : Bool). formatted t (at w (10 + i))) (sym (lone 1 (omega arith) (omega arith) r e f i (omega arith)))
              ∙ d.on_1 i (omega arith)
          go i k (no u) =
              let z : 10 + i ≡ 10 + count_in bw w 1 + (i - n) = omega arith in
              ap₂ (λ (t : Bool) (i : ℕ). formatted t (at w i)) (sym (lone 2 (omega arith) (omega arith) r e f (i - n) (omega arith))) z
              ∙ d.on_2 (i - n) (omega arith)

  abbrev of_1 : ℕ → Bool
  of_1 j = formatted (format_in bw w 1 j) (at w (10 + j))

  pub first_fails : every of_1 (count_in bw w 1) ≡ false → Formatted bw w → ⊥
  first_fails e d = true≢false (sym (all_every of_1 (count_in bw w 1) d.on_1) ∙ e)

  pub second_decides : (n : ℕ) → n ≡ count_in bw w 1 → every of_1 (count_in bw w 1) ≡ true
      → Decides (every (λ j. formatted (format_in bw w 2 j) (at w (10 + n + j))) (count_in bw w 2)) (Formatted bw w)
  second_decides n g e =
      rw g
      (decides _
      (λ d. record { on_1 = every_at of_1 (count_in bw w 1) e; on_2 = every_at _ (count_in bw w 2) d })
      (λ d. all_every _ (count_in bw w 2) d.on_2))

  -- ---- what the plan of the row says

  pub record PlanSays (r : List ℕ) (p : Plan) : Type 0 where
    pub says_1 : p.fields1 ≡ count_in bw w 1
    pub says_2 : p.fields2 ≡ count_in bw w 2
    pub most_1 : p.fields1 ≤ 72
    pub most_2 : p.fields2 ≤ 72
    pub says_formats : Formats r p.shared

  pub plan_says : (r : List ℕ) (p : Plan) → r ≡ row_in bw w → p ≡ plan_of r → p.outcome ≡ Ok tt → PlanSays r p
  unfolding passed_plan
  plan_says r p e f o =
      let a = candidate bw w 1 in
      let b = candidate bw w 2 in
      let g : r ≡ row bw a b = e ∙ sym (row_is bw w l) in
      let n : length r ≡ positions bw = rw e (row_size bw w) in
      let h : fields_to 1 (at r) (length r) ≡ count_in bw w 1 = rw (n, g) (sym (C.count_1 bw a b l) ∙ count_1 bw w l) in
      let k : fields_to 2 (at r) (length r) ≡ count_in bw w 2 = rw (n, g) (sym (C.count_2 bw a b l) ∙ count_2 bw w l) in
      rw (f ∙ plan_passed r (sym (plan_answers r p f) ∙ o))
      (record {
        says_1 = h;
        says_2 = k;
        most_1 = rw h (count_in_le bw w 1);
        most_2 = rw k (count_in_le bw w 2);
        says_formats = record { format = λ q m. shared_bit r q m };
      })
