-- The repeat check by marks in words of 64 bits, gathered to one answer.
use Prim.Native.Nat.{ℕ, zero, suc, ◌+◌, ◌-◌, ◌*◌, ◌/◌, ◌%◌, ◌^◌, ◌<◌, ◌≤◌}
use mathlib.Core.Path.{◌≡◌, refl, sym, ◌∙◌, ap, ap₂}
use mathlib.Core.Bool.{Bool, true, false, cond, ◌&&◌, ◌||◌}
use mathlib.Core.List.{List}
use native.Mathlib.Nat.{zero-div, zero-mod, div-eq_of_lt, one-mul, pow-suc}
use native.Mathlib.Decide.{dec_lt, ℕ_discrete}
use native.Mathlib.Omega.{arith}
use lib.Bits.{bit_or, or_shr, or_mod, or_zero_r}
use lib.Pow as P
use lib.Dec.{eqb, ltb, leb}
use lib.ListN.{length, get_or, take, set, replicate}
use Rattle.std.proofs.lemmas.List.{get_or-take, length-take-le}
use lib.Seq.{get_or-set_same, get_or-set_other}
use borrow.Author.Tests.{eq-eqb, ne_eqb, ltb-false}
use Rattle.answer.specs.Least.{least}
use Rattle.answer.proofs.Least.{least_cong, least_le}
use Rattle.answer.specs.Answer.{refuse_if}
use Rattle.answer.specs.Lists.{filled, Front, at}
use Rattle.answer.proofs.Lists.{get_d_filled, filled_length}
use Rattle.bits.proofs.Windows.{field_low}
use Rattle.channel.specs.Layout.{user_at, user, user_of}
use Rattle.stations.specs.Stations.{seen_before, repeated, station_at, station_of, station_place, first_repeated, twice, station_twice}
use Rattle.stations.specs.Engine.{station_in, station_from, any_repeated}
use Rattle.stations.proofs.Kept.{among, among_next}

pub station_lt : (ids : List ℕ) (i : ℕ) → station_in ids i < 2048
unfolding station_in
station_lt ids i = omega arith

-- ---- a bit of a word with one more set

pow_bit : (i j : ℕ) → 2 ^ i / 2 ^ j % 2 ≡ cond (eqb i j) 1 0
pow_bit i j = go (dec_lt i j) (dec_lt j i)
  where
    go : Dec (i < j) → Dec (j < i) → 2 ^ i / 2 ^ j % 2 ≡ cond (eqb i j) 1 0
    go (yes l) _ = rw (ne_eqb i j (λ e. omega arith)) (ap (λ (x : ℕ). x % 2) (div-eq_of_lt (P.pow-lt l)))
    go (no _) (yes l) =
        let e : i ≡ suc (i - j - 1) + j = omega arith in
        let d = i - j - 1 in
        let f : 2 ^ i ≡ 2 ^ suc d * 2 ^ j = ap (λ (x : ℕ). 2 ^ x) e ∙ P.pow-add 2 (suc d) j in
        rw (ne_eqb i j (λ e. omega arith)) (ap (λ (x : ℕ). x / 2 ^ j % 2) f ∙ ap (λ (x : ℕ). x % 2) (P.shl-shr (2 ^ suc d) j ∙ pow-suc 2 d) ∙ omega arith)
    go (no a) (no b) =
        let e : i ≡ j = omega arith in
        rw (eq-eqb i j e) (ap (λ (x : ℕ). x / 2 ^ j % 2) (ap (λ (x : ℕ). 2 ^ x) e ∙ sym (one-mul (2 ^ j))) ∙ ap (λ (x : ℕ). x % 2) (P.shl-shr 1 j))

or_bit : (p : ℕ) (t : Bool) → p < 2 → bit_or p (cond t 1 0) ≡ cond t 1 p
or_bit p false l = or_zero_r p
or_bit zero true l = refl
or_bit (suc zero) true l = refl
or_bit (suc (suc p)) true l = absurd (omega arith)

pub or_one : (m i j : ℕ) → bit_or m (2 ^ i) / 2 ^ j % 2 ≡ cond (eqb i j) 1 (m / 2 ^ j % 2)
or_one m i j =
    ap (λ (x : ℕ). x % 2) (or_shr m (2 ^ i) j)
    ∙ or_mod (m / 2 ^ j) (2 ^ i / 2 ^ j) 1
    ∙ ap (λ (x : ℕ). bit_or (m / 2 ^ j % 2) x) (pow_bit i j)
    ∙ or_bit (m / 2 ^ j % 2) (eqb i j) (omega arith)

-- ---- a bit for each STA-ID, set where it is one of the first j

pub record Marked (id : ℕ → ℕ) (marks : List ℕ) (j : ℕ) : Type 0 where
  pub marked : (x : ℕ) → x < 2048 → get_or marks (x / 64) 0 / 2 ^ (x % 64) % 2 ≡ cond (among id j x) 1 0

zeros : (n i : ℕ) → ◌≡◌ {A = ℕ} (get_or (replicate n 0) i 0) 0
zeros zero i = refl
zeros (suc n) zero = refl
zeros (suc n) (suc i) = zeros n i

pub marked_none : (id : ℕ → ℕ) (n : ℕ) → Marked id (replicate n 0) 0
unfolding least
marked_none id n = record { marked = λ x l. rw (zeros n (x / 64), zero-div (2 ^ (x % 64)), zero-mod 2) refl }

sets : (s : Bool) → cond {A = ℕ} (cond s true true) 1 0 ≡ 1
sets true = refl
sets false = refl

keeps : (s : Bool) → cond s true false ≡ s
keeps true = refl
keeps false = refl

pub marked_more : (id : ℕ → ℕ) (marks : List ℕ) (j y : ℕ) → y ≡ id j → y < 2048 → length marks ≡ 32 → Marked id marks j
    → Marked id (set marks (y / 64) (bit_or (get_or marks (y / 64) 0) (2 ^ (y % 64)))) (j + 1)
marked_more id marks j y e b n f = record { marked = λ x l. go x l (ℕ_discrete x y) (ℕ_discrete (x / 64) (y / 64)) }
  where
    v : ℕ
    v = bit_or (get_or marks (y / 64) 0) (2 ^ (y % 64))

    new : List ℕ
    new = set marks (y / 64) v

    here : (x : ℕ) → x / 64 ≡ y / 64 → get_or new (x / 64) 0 / 2 ^ (x % 64) % 2 ≡ cond (eqb (y % 64) (x % 64)) 1 (get_or marks (x / 64) 0 / 2 ^ (x % 64) % 2)
    here x q =
        ap (λ (z : ℕ). get_or new z 0 / 2 ^ (x % 64) % 2) q
        ∙ ap (λ (z : ℕ). z / 2 ^ (x % 64) % 2) (get_or-set_same marks (y / 64) v 0 (omega arith))
        ∙ or_one (get_or marks (y / 64) 0) (y % 64) (x % 64)
        ∙ ap (λ (z : ℕ). cond (eqb (y % 64) (x % 64)) 1 (get_or marks z 0 / 2 ^ (x % 64) % 2)) (sym q)

    other : (x : ℕ) → x < 2048 → (x ≡ y → ⊥) → get_or new (x / 64) 0 / 2 ^ (x % 64) % 2 ≡ get_or marks (x / 64) 0 / 2 ^ (x % 64) % 2
        → get_or new (x / 64) 0 / 2 ^ (x % 64) % 2 ≡ cond (among id (j + 1) x) 1 0
    other x l d q =
        let z : eqb (id j) x ≡ false = ne_eqb (id j) x (λ w. d (sym w ∙ sym e)) in
        q
        ∙ f.marked x l
        ∙ sym (ap (λ (t : Bool). cond {A = ℕ} t 1 0) (among_next (λ i. eqb (id i) x) j ∙ ap (cond (among id j x) true) z ∙ keeps (among id j x)))

    go : (x : ℕ) → x < 2048 → Dec (x ≡ y) → Dec (x / 64 ≡ y / 64) → get_or new (x / 64) 0 / 2 ^ (x % 64) % 2 ≡ cond (among id (j + 1) x) 1 0
    go x l (yes q) _ =
        let z : eqb (id j) x ≡ true = eq-eqb (id j) x (sym e ∙ sym q) in
        here x (ap (λ (w : ℕ). w / 64) q)
        ∙ ap (λ (t : Bool). cond t 1 (get_or marks (x / 64) 0 / 2 ^ (x % 64) % 2)) (eq-eqb (y % 64) (x % 64) (ap (λ (w : ℕ). w % 64) (sym q)))
        ∙ sym (ap (λ (t : Bool). cond {A = ℕ} t 1 0) (among_next (λ i. eqb (id i) x) j ∙ ap (cond (among id j x) true) z) ∙ sets (among id j x))
    go x l (no d) (yes q) =
        other x l d (here x q ∙ ap (λ (t : Bool). cond t 1 (get_or marks (x / 64) 0 / 2 ^ (x % 64) % 2)) (ne_eqb (y % 64) (x % 64) (λ w. d (omega arith))))
    go x l (no d) (no q) =
        other x l d (ap (λ (z : ℕ). z / 2 ^ (x % 64) % 2) (get_or-set_other marks (y / 64) (x / 64) v 0 q))

-- ---- gathered

pub again_none : (id : ℕ → ℕ) → false ≡ any_repeated id 0
unfolding any_repeated first_repeated least
again_none id = refl

one : (s : Bool) → eqb (cond s 1 0) 1 ≡ s
one true = refl
one false = refl

-- a marked one that may not stand again was seen before
pub seen : (id : ℕ → ℕ) (marks : List ℕ) (j x : ℕ) (b : Bool) → x ≡ id j → x < 2048 → Marked id marks j
    → b ≡ (ltb 0 x && leb x 2006) && eqb (get_or marks (x / 64) 0 / 2 ^ (x % 64) % 2) 1 → b ≡ repeated id j
seen id marks j x b e l f q =
    q ∙ ap (◌&&◌ (ltb 0 x && leb x 2006)) (ap (λ (z : ℕ). eqb z 1) (f.marked x l) ∙ one (among id j x)) ∙ ap (λ (z : ℕ). seen_before id j z) e

pub again_more : (id : ℕ → ℕ) (j : ℕ) (a b : Bool) → a ≡ any_repeated id j → b ≡ repeated id j → a || b ≡ any_repeated id (j + 1)
unfolding any_repeated first_repeated
again_more id j a b h q = ap₂ ◌||◌ h q ∙ or_cond (any_repeated id j) (repeated id j) ∙ sym (among_next (repeated id) j)
  where
    or_cond : (s t : Bool) → s || t ≡ cond s true t
    or_cond true t = refl
    or_cond false t = refl

-- none does where the gathered answer says so
pub none_again : (id : ℕ → ℕ) (t : ℕ) → any_repeated id t ≡ false → first_repeated id t ≡ t
unfolding any_repeated first_repeated
none_again id t e = let l = ltb-false (least (repeated id) t) t e in let m = least_le (repeated id) t in omega arith

-- ---- the same STA-IDs, held in other ways

pub repeat_cong : (f g : ℕ → ℕ) (t : ℕ) → ((k : ℕ) → k < t → f k ≡ g k) → first_repeated f t ≡ first_repeated g t
unfolding first_repeated
repeat_cong f g t h = least_cong (repeated f) (repeated g) t here
  where
    here : (k : ℕ) → k < t → repeated f k ≡ repeated g k
    here k l = rw (h k l, least_cong (λ i. eqb (f i) (g k)) (λ i. eqb (g i) (g k)) k (λ i m. ap (λ (y : ℕ). eqb y (g k)) (h i (omega arith))))

pub any_cong : (f g : ℕ → ℕ) (t : ℕ) → ((k : ℕ) → k < t → f k ≡ g k) → any_repeated f t ≡ any_repeated g t
unfolding any_repeated
any_cong f g t h = ap (λ (j : ℕ). ltb j t) (repeat_cong f g t h)

-- of the first t
at_taken : (l : List ℕ) (t k : ℕ) → k < t → at (take t l) k ≡ at l k
at_taken l t k m = get_or-take t l k 0 m

pub taken : (l : List ℕ) (t : ℕ) → t ≤ length l → first_repeated (station_in (take t l)) (length (take t l)) ≡ first_repeated (station_in l) t
unfolding station_in
taken l t h =
    ap (first_repeated (station_in (take t l))) (length-take-le t l h)
    ∙ repeat_cong _ _ t (λ k m. ap (λ (x : ℕ). x % 2048) (at_taken l t k m))

-- and from bit 0 on
pub few_taken : (l : List ℕ) (t : ℕ) → t ≤ length l → any_repeated (station_from 0 (take t l)) (length (take t l)) ≡ any_repeated (station_in l) t
unfolding station_in station_from
few_taken l t h =
    ap (any_repeated (station_from 0 (take t l))) (length-take-le t l h)
    ∙ any_cong _ _ t (λ k m. ap (λ (x : ℕ). x / 1 % 2048) (at_taken l t k m) ∙ omega arith)

-- in the array of 144
pub repeat_held : (fields w : List ℕ) (t : ℕ) → first_repeated (station_in (filled (station_in fields) t w)) t ≡ first_repeated (station_in fields) t
unfolding station_in
repeat_held fields w t =
    repeat_cong (station_in (filled (station_in fields) t w)) (station_in fields) t
    (λ k l. ap (λ (x : ℕ). x % 2048) (get_d_filled (station_in fields) t w k 0 l) ∙ omega (arith, station_lt fields k))

pub held_room : (fields ids : List ℕ) (t : ℕ) → ids ≡ filled (station_in fields) t (replicate 144 0) → t ≤ 144 → t ≤ length ids
held_room fields ids t e h = omega (arith, ap length e ∙ filled_length (station_in fields) t (replicate 144 0) h)

pub held_taken : (fields ids : List ℕ) (t : ℕ) → ids ≡ filled (station_in fields) t (replicate 144 0) → t ≤ length ids
    → first_repeated (station_in (take t ids)) (length (take t ids)) ≡ first_repeated (station_in fields) t
held_taken fields ids t e h =
    taken ids t h ∙ ap (λ (l : List ℕ). first_repeated (station_in l) t) e ∙ repeat_held fields (replicate 144 0) t

-- in the numbers of both channels' User fields
pub station_is : (bw : ℕ) (a b : List ℕ) (n k : ℕ) → user_of bw a b n k % 2048 ≡ station_of bw a b n k
unfolding user_of
station_is bw a b n k = go (ltb k n)
  where
    low : (s : List ℕ) (i : ℕ) → user bw s i % 2048 ≡ station_at bw s i
    low s i = field_low s (user_at bw i) 22 11 (omega arith)

    go : (t : Bool) → cond t (user bw a k) (user bw b (k - n)) % 2048 ≡ cond t (station_at bw a k) (station_at bw b (k - n))
    go true = low a k
    go false = low b (k - n)

pub twice_held : (bw : ℕ) (a b fields : List ℕ) (n m : ℕ) → Front (user_of bw a b n) (n + m) fields
    → twice bw (station_in fields) n m ≡ station_twice bw a b n m
unfolding station_twice station_in
twice_held bw a b fields n m h =
    ap (λ (j : ℕ). refuse_if (ltb j (n + m)) (station_place bw n j))
    (repeat_cong (station_in fields) (station_of bw a b n) (n + m) (λ k l. ap (λ (x : ℕ). x % 2048) (h.front k l) ∙ station_is bw a b n k))

-- ---- of few: one more before it
pub met_more : (id : ℕ → ℕ) (j x : ℕ) (a b : Bool) → a ≡ among id j x → b ≡ eqb (id j) x → a || b ≡ among id (j + 1) x
met_more id j x a b e f = rw (e, f) (or_cond (among id j x) (eqb (id j) x) ∙ sym (among_next (λ i. eqb (id i) x) j))
  where
    or_cond : (p q : Bool) → p || q ≡ cond p true q
    or_cond true q = refl
    or_cond false q = refl
