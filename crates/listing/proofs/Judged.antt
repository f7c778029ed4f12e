-- "22 is first of all and 23 last": a listing's answer is one by the rows 1 to 11 and 23.
use mathlib.Core.Path.{◌≡◌, refl, ◌∙◌, ap}
use mathlib.Core.Bool.{true}
use mathlib.Core.List.{List, [], ◌∷◌}
use Prim.Native.Nat.{ℕ}
use lib.Dec.{ltb}
use lib.ListN.{length}
use Rattle.answer.specs.Answer.{◌or◌}
use Rattle.answer.specs.Order.{first_of, Judged}
use Rattle.answer.specs.declared.Answer.{Answer}
use Rattle.answer.specs.Answer.{Outcome}
use Rattle.std.specs.Prelude.{Ok}
use Rattle.answer.proofs.Numbers.{Only, only_if, none, more, distinct, absent, zero_pass, judged}
use Rattle.answer.proofs.First.{first_append}
use Rattle.answer.proofs.Order.{or_end}
use Rattle.answer.specs.declared.Refusal.TheVariants.{BufferTooShort}
use Rattle.halves.specs.Table.{checks11, outcome11}
use Rattle.halves.proofs.Exactly.{checks11_then}
use Rattle.listed.specs.Listing.{listing, check23, list_outcome, list_answer, list_numbers, list_checks}
use Rattle.listing.proofs.Facts.{list_kept}
use Rattle.listing.proofs.list.Reads as list

only_23 : (bw : ℕ) (a b : List ℕ) (room : ℕ) → Only 23 (check23 bw a b room)
unfolding check23
only_23 bw a b room = only_if (ltb room (length (listing bw a b))) (BufferTooShort (length (listing bw a b)))

numbers_distinct : distinct (0 ∷ list_numbers) ≡ true
unfolding distinct absent
numbers_distinct = refl

listable_rows : (bw : ℕ) (a b : List ℕ) (room : ℕ) → first_of (list_checks bw a b room) ≡ list_outcome bw a b room
unfolding list_outcome outcome11
listable_rows bw a b room =
    first_append (checks11 bw a b) (check23 bw a b room ∷ [])
    ∙ ap (λ (o : Outcome). first_of (checks11 bw a b) or o) (unfold first_of in or_end (check23 bw a b room))

pub list_judged : (bw : ℕ) (a b : List ℕ) (room : ℕ) → Judged list_numbers (list_checks bw a b room) (length (listing bw a b)) (list_answer bw a b room)
unfolding list_answer
list_judged bw a b room =
    rw (listable_rows bw a b room) at (judged (checks11_then bw a b (more (only_23 bw a b room) none)) numbers_distinct (length (listing bw a b)))

-- number 0 is given only where every row passes
pub accepted_exactly : (bw : ℕ) (a b : List ℕ) (room : ℕ) → (list_answer bw a b room).number ≡ 0 → list_outcome bw a b room ≡ Ok tt
unfolding list_answer
accepted_exactly bw a b room =
    rw (listable_rows bw a b room) at (zero_pass (checks11_then bw a b (more (only_23 bw a b room) none)) numbers_distinct (length (listing bw a b)))

-- "Every refusal writes nothing", of what `list` allows
pub list_keeps : (κs : _) (a : _) (r : _) (s : _) → list.Post κs a r s → (r.number ≡ 0 → ⊥) → s.1.1.1.0.now ≡ a.1.1.1.0.now
list_keeps κs a r s p n =
    p.1 ∙ list_kept a.0 a.1.0.now a.1.1.0.now a.1.1.1.0.now (λ e. n (ap (λ (z : Answer). z.number) p.0 ∙ e))
