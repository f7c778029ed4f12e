-- The lines of a channel's User fields, position by position.
use mathlib.Core.Path.{◌≡◌, refl, sym, ap₂}
use mathlib.Core.Logic.{⊎_elim}
use mathlib.Core.Bool.{Bool, true, false, cond}
use mathlib.Core.List.{List}
use Prim.Native.Nat.{ℕ, zero, suc, ◌+◌, ◌-◌, ◌%◌, ◌≤◌, ◌<◌}
use native.Mathlib.Nat.{add_assoc}
use native.Mathlib.Omega.{arith}
use lib.ListN.{length}
use borrow.Author.Tests.{ne_eqb}
use mir.Val.{bool_byte}
use Rattle.answer.specs.Lists.{at}
use Rattle.resource.specs.Values.{fields_of}
use Rattle.resource.proofs.Fields.{fields_most}
use Rattle.resource.proofs.Test.{below_or}
use Rattle.plan.specs.Engine.{only_plan}
use Rattle.records.specs.Records.{in_channel}
use Rattle.records.specs.Owns.{fields_before}
use Rattle.records.specs.Engine.{owner_at}
use Rattle.records.proofs.Owners.{before_next, before_rise, found_left, in_own}
use Rattle.records.proofs.Entering.{only_below, owner_most}
use Rattle.stations.specs.Engine.{station_in}
use Rattle.text.specs.Text.{upto, Wrote}
use Rattle.text.proofs.Laws.{after, upto_append, upto_cong}
use Rattle.lines.specs.Lines.{sta_line}
use Rattle.station_lines.specs.Engine.{given_line, owned_line}

pub as_number : (t : Bool) → bool_byte t ≡ cond t 1 0
as_number true = refl
as_number false = refl

pub one_most : (t : Bool) → bool_byte t ≤ 1
one_most true = omega arith
one_most false = omega arith

-- the resource of a position's field has a number of at most 144, from 1
pub few_owners : (r : List ℕ) (p k : ℕ) → p < 16 → k < fields_of (at r p) → owner_at (only_plan (at r)) (at r) p k + 1 ≤ 144
few_owners r p k l h = omega (arith, owner_most (only_plan (at r)) (at r) p k (only_below (at r) p), fields_most (at r p))

module _ (c : ℕ) (row : ℕ → ℕ) (p : ℕ) (e : p % 2 + 1 ≡ c) where
  -- a channel's positions are every second
  pub before_second : fields_before c row (p + 2) ≡ fields_before c row p + fields_of (row p)
  before_second =
      let s : p + 2 ≡ p + 1 + 1 = omega arith in
      let none : in_channel c (p + 1) (fields_of (row (p + 1))) ≡ 0 = rw (ne_eqb ((p + 1) % 2 + 1) c (λ (f : (p + 1) % 2 + 1 ≡ c). omega arith)) in
      rw s (omega (arith, before_next c row (p + 1), before_next c row p, in_own c p (fields_of (row p)) e, none))

  pub within : (n : ℕ) → p < n → fields_before c row p + fields_of (row p) ≤ fields_before c row n
  within n h = omega (arith, before_next c row p, in_own c p (fields_of (row p)) e, before_rise c row (p + 1) n (omega arith))

  -- past the row all are met
  pub all_met : (n : ℕ) → n ≤ p → p ≤ n + 1 → fields_before c row p ≡ fields_before c row n
  all_met n l m = ⊎_elim (λ (h : n < p).
      let s : p ≡ n + 1 = omega arith in
      let none : in_channel c n (fields_of (row n)) ≡ 0 = rw (ne_eqb (n % 2 + 1) c (λ (f : n % 2 + 1 ≡ c). omega arith)) in
      rw s (omega (arith, before_next c row n, none)))
      (λ (h : p ≤ n). let s : p ≡ n = omega arith in rw s refl) (below_or n p)

-- channel 2's first position has one before it, which is channel 1's
pub none_before : (c : ℕ) (row : ℕ → ℕ) → 1 ≤ c → c ≤ 2 → 0 ≡ fields_before c row (c - 1)
none_before zero row l h = absurd (omega (arith, l))
none_before (suc zero) row l h = refl
none_before (suc (suc zero)) row l h = refl
none_before (suc (suc (suc c))) row l h = absurd (omega (arith, h))

-- the lines of one position more
module _ (fields : List ℕ) (i : ℕ) (r : List ℕ) (c j p : ℕ) where
  pub next_lines : {d e f : List ℕ} {o s q : ℕ} → p < length r → p % 2 + 1 ≡ c → j ≡ fields_before c (at r) p
      → Wrote d o (upto (owned_line fields i r c) j) e s → Wrote e s (upto (given_line fields (i + j) r p) (fields_of (at r p))) f q
      → Wrote d o (upto (owned_line fields i r c) (j + fields_of (at r p))) f q
  next_lines l h g x y =
      let f = fields_of (at r p) in
      let own : upto (given_line fields (i + j) r p) f ≡ upto (λ k. owned_line fields i r c (j + k)) f =
      upto_cong (given_line fields (i + j) r p) (λ k. owned_line fields i r c (j + k)) f
      (λ k m.
      let in_own_k = in_own c p f h in
      ap₂ (λ (s t : ℕ). sta_line (station_in fields s) (t + 1)) (add_assoc i j k)
      (sym (found_left (only_plan (at r)) (at r) c p (length r) (j + k) k l (omega arith) (omega (arith, in_own_k))))) in
      rw (upto_append (owned_line fields i r c) j f) (after x (rw own at y))
