-- The User fields of a frame by its row: what both channels' values give is what the row's give, and each channel's are those
-- of the row's values at its own positions.
use mathlib.Core.Path.{◌≡◌, refl, sym, ◌∙◌, ap}
use mathlib.Core.Bool.{Bool, true, false, cond}
use mathlib.Core.List.{List}
use Prim.Native.Nat.{ℕ, zero, suc, ◌+◌, ◌-◌, ◌*◌, ◌/◌, ◌%◌, ◌≤◌, ◌<◌}
use native.Mathlib.Decide.{dec_lt, ℕ_discrete}
use native.Mathlib.Omega.{arith}
use lib.Dec.{eqb}
use lib.ListN.{get_or}
use borrow.Author.Tests.{eq-eqb, ne_eqb}
use Rattle.resource.specs.Values.{fields_of}
use Rattle.channel.specs.Layout.{positions, present, firsts, seconds, subfields, subfields_in, value, row_at, row, total, count}
use Rattle.channel.proofs.Laws.{one_position, half, subfields_wide, place_1, place_2, total_cong, row_at_lem, row_even, row_odd}

-- "the count is the sum over the row's values": what both channels' values give is what the row's give

turns : (ℕ → ℕ) → (ℕ → ℕ) → ℕ → ℕ
turns f g p = cond (eqb (p % 2) 0) (f (p / 2)) (g (p / 2))

turns_even : (f g : ℕ → ℕ) (n : ℕ) → turns f g (2 * n) ≡ f n
unfolding turns
turns_even f g n =
    let e : 2 * n % 2 ≡ 0 = omega arith in
    let d : 2 * n / 2 ≡ n = omega arith in
    rw (eq-eqb (2 * n % 2) 0 e, d)

turns_odd : (f g : ℕ → ℕ) (n : ℕ) → turns f g (suc (2 * n)) ≡ g n
unfolding turns
turns_odd f g n =
    let d : suc (2 * n) / 2 ≡ n = omega arith in
    rw (ne_eqb (suc (2 * n) % 2) 0 (λ e. omega arith), d)

total_turns : (f g : ℕ → ℕ) (n : ℕ) → total (turns f g) (2 * n) ≡ total f n + total g n
unfolding total
total_turns f g zero = refl
total_turns f g (suc n) =
    let e : 2 * suc n ≡ suc (suc (2 * n)) = omega arith in
    rw e (omega (arith, total_turns f g n, turns_even f g n, turns_odd f g n))

fields_turns : (bw : ℕ) (a b : List ℕ) (p : ℕ) → turns (λ k. fields_of (value bw a k)) (λ k. fields_of (value bw b k)) p ≡ fields_of (row_at bw a b p)
unfolding turns row_at
fields_turns bw a b p = go (eqb (p % 2) 0)
  where
    go : (t : Bool) → cond t (fields_of (value bw a (p / 2))) (fields_of (value bw b (p / 2))) ≡ fields_of (cond t (value bw a (p / 2)) (value bw b (p / 2)))
    go true = refl
    go false = refl

one_field : (a b : List ℕ) → count 0 1 a + count 0 2 b ≡ total (λ p. fields_of (row_at 0 a b p)) 1
unfolding count total subfields_in present subfields firsts seconds row_at
one_field a b = omega arith

pub count_row : (bw : ℕ) (a b : List ℕ) → bw ≤ 4 → count bw 1 a + count bw 2 b ≡ total (λ p. fields_of (get_or (row bw a b) p 0)) (positions bw)
unfolding count
count_row bw a b l =
    go (dec_lt 0 bw)
    ∙ sym (total_cong (λ p. fields_of (get_or (row bw a b) p 0)) (λ p. fields_of (row_at bw a b p)) (positions bw)
    (λ p h. ap fields_of (row_at_lem bw a b p h)))
  where
    lone : (bw : ℕ) → bw ≡ 0 → count bw 1 a + count bw 2 b ≡ total (λ p. fields_of (row_at bw a b p)) (positions bw)
    lone bw e = rw (e, one_position) (one_field a b)

    go : Dec (0 < bw) → count bw 1 a + count bw 2 b ≡ total (λ p. fields_of (row_at bw a b p)) (positions bw)
    go (yes h) =
        let f : ℕ → ℕ = λ k. fields_of (value bw a k) in
        let g : ℕ → ℕ = λ k. fields_of (value bw b k) in
        rw (subfields_wide bw 1 h, subfields_wide bw 2 h)
        (sym (total_turns f g (subfields bw))
        ∙ ap (total (turns f g)) (half bw h l)
        ∙ total_cong (turns f g) (λ p. fields_of (row_at bw a b p)) (positions bw) (λ p m. fields_turns bw a b p))
    go (no h) = lone bw (omega arith)

-- each channel's by the row's values at its own positions

pub halves : (bw : ℕ) → bw ≤ 4 → ((positions bw + 1) / 2 ≡ subfields_in bw 1) × (positions bw / 2 ≡ subfields_in bw 2)
halves bw l = go (dec_lt 0 bw)
  where
    lone : (bw : ℕ) → bw ≡ 0 → ((positions bw + 1) / 2 ≡ subfields_in bw 1) × (positions bw / 2 ≡ subfields_in bw 2)
    lone bw e = rw e (unfold positions subfields_in present subfields firsts seconds in (refl, refl))

    go : Dec (0 < bw) → ((positions bw + 1) / 2 ≡ subfields_in bw 1) × (positions bw / 2 ≡ subfields_in bw 2)
    go (yes h) = (omega (arith, half bw h l, subfields_wide bw 1 h), omega (arith, half bw h l, subfields_wide bw 2 h))
    go (no h) = lone bw (omega arith)

pub count_even : (bw : ℕ) (a b : List ℕ) → bw ≤ 4
    → count bw 1 a ≡ total (λ k. fields_of (get_or (row bw a b) (2 * k) 0)) ((positions bw + 1) / 2)
unfolding count
count_even bw a b l =
    total_cong (λ k. fields_of (value bw a k)) (λ k. fields_of (get_or (row bw a b) (2 * k) 0)) (subfields_in bw 1)
    (λ k m. ap fields_of (sym (row_even bw a b k (place_1 bw k l m))))
    ∙ ap (total (λ k. fields_of (get_or (row bw a b) (2 * k) 0))) (sym (halves bw l).0)

pub count_odd : (bw : ℕ) (a b : List ℕ) → bw ≤ 4
    → count bw 2 b ≡ total (λ k. fields_of (get_or (row bw a b) (2 * k + 1) 0)) (positions bw / 2)
unfolding count
count_odd bw a b l =
    total_cong (λ k. fields_of (value bw b k)) (λ k. fields_of (get_or (row bw a b) (2 * k + 1) 0)) (subfields_in bw 2)
    (λ k m. ap fields_of (sym (row_odd bw a b k (place_2 bw k l m))))
    ∙ ap (total (λ k. fields_of (get_or (row bw a b) (2 * k + 1) 0))) (sym (halves bw l).1)

-- a sum g over the first n positions that counts f only at those of channel c: these are 2 * k + (c - 1), (n + 2 - c) / 2 of them
pub by_channel : (c : ℕ) → 0 < c → c < 3 → (f g : ℕ → ℕ) → g 0 ≡ 0 → ((n : ℕ) → g (suc n) ≡ g n + cond (eqb (n % 2 + 1) c) (f n) 0)
    → (n : ℕ) → g n ≡ total (λ k. f (2 * k + (c - 1))) ((n + 2 - c) / 2)
unfolding total
by_channel c o l f g s h zero = let e : (0 + 2 - c) / 2 ≡ 0 = omega arith in rw e s
by_channel c o l f g s h (suc n) = go (by_channel c o l f g s h n) (ℕ_discrete (n % 2 + 1) c)
  where
    go : g n ≡ total (λ k. f (2 * k + (c - 1))) ((n + 2 - c) / 2) → Dec (n % 2 + 1 ≡ c) → g (suc n) ≡ total (λ k. f (2 * k + (c - 1))) ((suc n + 2 - c) / 2)
    go i (yes e) =
        let m : (suc n + 2 - c) / 2 ≡ suc ((n + 2 - c) / 2) = omega arith in
        let p : 2 * ((n + 2 - c) / 2) + (c - 1) ≡ n = omega arith in
        h n ∙ rw (m, p, eq-eqb (n % 2 + 1) c e, i) refl
    go i (no d) =
        let m : (suc n + 2 - c) / 2 ≡ (n + 2 - c) / 2 = omega arith in
        h n ∙ rw (m, ne_eqb (n % 2 + 1) c d) (omega (arith, i))
