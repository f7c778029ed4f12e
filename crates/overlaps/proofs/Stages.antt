-- The refusals of a list in the groups in which the code runs them, and what is left once each entry has its mask.
use mathlib.Core.Path.{◌≡◌, refl, ◌∙◌, ap}
use mathlib.Core.Bool.{true, not}
use mathlib.Core.List.{List, ◌++◌}
use Prim.Native.Nat.{ℕ, ◌*◌, ◌/◌, ◌≤◌, ◌<◌}
use native.Mathlib.Omega.{arith}
use borrow.Author.Tests.{ltb-false}
use lib.Dec.{ltb}
use lib.ListN.{length, drop}
use Rattle.answer.specs.Answer.{no, refuse_if, ◌or◌, answer_at, after, passes}
use Rattle.answer.specs.declared.Answer.{Answer}
use Rattle.answer.specs.Answer.{Outcome}
use Rattle.std.specs.Prelude.{Ok, Err}
use Rattle.answer.specs.Lists.{at, filled}
use Rattle.answer.specs.Tally.{tally}
use Rattle.answer.proofs.Lists.{get_d_filled}
use Rattle.answer.proofs.Order.{pass_right, pass_if, or_refuse, or_next, or_pass}
use Rattle.answer.specs.declared.Refusal.TheVariants.{TooFewPairs}
use Rattle.answer.specs.declared.Refusal.{Refusal}
use Rattle.trigger.specs.Reading.{above2}
use Rattle.overlaps.specs.Overlaps.{entries_in}
use Rattle.masks.specs.Engine.{hit, pairs_to}
use Rattle.overlaps.specs.Engine.{mask_at}
use Rattle.overlaps.specs.Worked.{pair_count, pair_bytes}
use Rattle.overlaps.specs.Result.{not_whole, over32, entries_outcome, no_pair_room, overlaps_outcome, overlaps_answer, pairs_after}
use Rattle.overlaps.proofs.Below.{tally_below, pairs_below}

-- 1, 15 and 25
abbrev pub of_length : ℕ → List ℕ → Outcome
of_length bw es = above2 bw or not_whole es or over32 es

-- the pairs of n masks m: how many, and 26 where k bytes are no room for them
abbrev counted : (ℕ → ℕ) → ℕ → ℕ
counted m n = tally (hit m n) (32 * n)

abbrev no_room : (ℕ → ℕ) → ℕ → ℕ → Outcome
no_room m n k = refuse_if (ltb (k / 2) (counted m n)) TooFewPairs

pub few : (bw : ℕ) (es : List ℕ) → of_length bw es ≡ Ok tt → entries_in es ≤ 32
unfolding over32
few bw es e = ltb-false 32 (entries_in es) (pass_if _ _ (pass_right (above2 bw or not_whole es) (over32 es) e))

not_passed : (o : Outcome) → not (passes o) ≡ true → (x : Refusal) × (o ≡ Err x)
not_passed (Ok u) e = absurd (let z : ◌≡◌ {A = ℕ} 0 1 = cc in omega arith)
not_passed (Err x) e = (x, refl)

module _ (bw : ℕ) (es : List ℕ) (k : ℕ) where
  pub length_refused : (x : Refusal) → of_length bw es ≡ Err x → overlaps_outcome bw es k ≡ Err x
  unfolding overlaps_outcome
  length_refused x e = or_refuse _ _ x (or_refuse _ _ x e)

  module _ (p : of_length bw es ≡ Ok tt) where
    entry_refused : (x : Refusal) → entries_outcome bw es (entries_in es) ≡ Err x → overlaps_outcome bw es k ≡ Err x
    unfolding overlaps_outcome
    entry_refused x e = or_refuse _ _ x (or_next _ _ p ∙ e)

    -- by its test: the answer and the lent bytes are the entry's
    pub refused_answer : not (passes (entries_outcome bw es (entries_in es))) ≡ true
        → answer_at (entries_outcome bw es (entries_in es)) 0 ≡ answer_at (overlaps_outcome bw es k) (pair_count es)
    refused_answer e =
        let r = not_passed (entries_outcome bw es (entries_in es)) e in
        rw (r.1, entry_refused r.0 r.1)

    pub refused_kept : not (passes (entries_outcome bw es (entries_in es))) ≡ true → (new old : List ℕ) → old ≡ after (overlaps_outcome bw es k) new old
    refused_kept e new old =
        let r = not_passed (entries_outcome bw es (entries_in es)) e in
        rw (entry_refused r.0 r.1)

    room_left : entries_outcome bw es (entries_in es) ≡ Ok tt → overlaps_outcome bw es k ≡ no_pair_room es k
    unfolding overlaps_outcome
    room_left e = or_next _ _ (or_pass _ _ p e)

-- masks v whose first are the entries'
module _ (es w v : List ℕ) (e : v ≡ filled (mask_at es) (entries_in es) w) where
  same : (i : ℕ) → i < entries_in es → at v i ≡ mask_at es i
  same i l = ap (λ (z : List ℕ). at z i) e ∙ get_d_filled (mask_at es) (entries_in es) w i 0 l

  count_is : counted (at v) (entries_in es) ≡ pair_count es
  unfolding pair_count
  count_is = tally_below (at v) (mask_at es) (entries_in es) same (32 * entries_in es)

  bytes_are : pairs_to (at v) (entries_in es) (32 * entries_in es) ≡ pair_bytes es
  unfolding pair_bytes
  bytes_are = pairs_below (at v) (mask_at es) (entries_in es) same (32 * entries_in es)

  module _ (bw : ℕ) (d : List ℕ) (p : of_length bw es ≡ Ok tt) (q : entries_outcome bw es (entries_in es) ≡ Ok tt) where
    pub answered : (r : Answer) → r ≡ answer_at (no_room (at v) (entries_in es) (length d)) (counted (at v) (entries_in es))
        → r ≡ overlaps_answer bw es (length d)
    unfolding overlaps_answer no_pair_room
    answered r f = f ∙ rw (count_is, room_left bw es (length d) p q)

    pub written : (o : List ℕ)
        → o ≡ after (no_room (at v) (entries_in es) (length d))
        (pairs_to (at v) (entries_in es) (32 * entries_in es) ++ drop (2 * counted (at v) (entries_in es)) d) d
        → o ≡ pairs_after bw es d
    unfolding pairs_after no_pair_room
    written o f = f ∙ rw (count_is, bytes_are, room_left bw es (length d) p q)
