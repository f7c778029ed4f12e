-- Answers are by 02's rows in their order (T-11), and a refusal writes nothing.
use mathlib.Core.Path.{◌≡◌, refl, ◌∙◌, ap}
use mathlib.Core.Bool.{Bool, true, false, not, ◌||◌}
use mathlib.Core.List.{List, [], ◌∷◌}
use Prim.Native.Nat.{ℕ, ◌≤◌, ◌<◌}
use native.Mathlib.Omega.{arith}
use lib.Dec.{ltb, leb}
use lib.ListN.{length}
use borrow.Author.Tests.{ltb-false, leb-false}
use Rattle.answer.specs.declared.Answer.{Answer}
use Rattle.std.specs.Prelude.{Ok}
use Rattle.answer.specs.Answer.{no}
use Rattle.answer.specs.Lists.{at, filled}
use Rattle.answer.specs.Order.{first_of, Judged}
use Rattle.answer.proofs.First.{first_chain}
use Rattle.answer.proofs.Numbers.{only_if, Gives, distinct, absent, judged, none, more}
use Rattle.answer.proofs.Order.{after_answered, pass_if, pass_left, pass_right}
use Rattle.answer.specs.declared.Refusal.TheVariants.{NoSuchStreams, BufferTooShort}
use Rattle.stream_rows.specs.Rows.{row_in}
use Rattle.stream_rows.specs.Worked.{the_rows, is_listed}
use Rattle.stream_rows.specs.Result.{not2to8, no_row, no_row_room, row_outcome, row_numbers, row_checks, row_answer, row_after}
use Rattle.stream_rows.specs.Result.{not_row, number_numbers, number_checks, number_of, number_answer}
use Rattle.stream_rows.proofs.put_row.Reads as put_row
use Rattle.stream_rows.proofs.number_of.Reads as number_of_row

pub neither_left : (a b : Bool) → (a || b) ≡ false → a ≡ false
neither_left true b e = e
neither_left false b e = refl

pub neither_right : (a b : Bool) → (a || b) ≡ false → b ≡ false
neither_right true b e = absurd (let z : ◌≡◌ {A = ℕ} 0 1 = cc in omega arith)
neither_right false b e = e

-- ---- what passing says
pub up_to_8 : (users : ℕ) → not2to8 users ≡ false → (2 ≤ users) × (users ≤ 8)
up_to_8 users e = (ltb-false users 2 (neither_left _ (ltb 8 users) e), ltb-false 8 users (neither_right (ltb users 2) _ e))

pub record RowPassed (users number n : ℕ) : Type 0 where
  pub from_2 : 2 ≤ users
  pub to_8 : users ≤ 8
  pub numbered : number < length (the_rows users)
  pub room : users ≤ n

pub row_passed : (users number n : ℕ) → row_outcome users number n ≡ Ok tt → RowPassed users number n
unfolding row_outcome no_row no_row_room
row_passed users number n e =
    let t = pass_if (not2to8 users || leb (length (the_rows users)) number) NoSuchStreams (pass_left _ (no_row_room users n) e) in
    let u = up_to_8 users (neither_left _ (leb (length (the_rows users)) number) t) in
    record {
      from_2 = u.0;
      to_8 = u.1;
      numbered = leb-false (length (the_rows users)) number (neither_right (not2to8 users) _ t);
      room = ltb-false n users (pass_if (ltb n users) (BufferTooShort users) (pass_right (no_row users number) _ e));
    }

-- ---- the rows of refusals
row_distinct : distinct (0 ∷ row_numbers) ≡ true
unfolding distinct absent
row_distinct = refl

row_gives : (users number n : ℕ) → Gives row_numbers (row_checks users number n)
unfolding no_row no_row_room
row_gives users number n =
    more (only_if (not2to8 users || leb (length (the_rows users)) number) NoSuchStreams) (more (only_if (ltb n users) (BufferTooShort users)) none)

row_first : (users number n : ℕ) → first_of (row_checks users number n) ≡ row_outcome users number n
unfolding row_outcome
row_first users number n = first_chain (no_row users number) (no_row_room users n ∷ [])

pub row_judged : (users number n : ℕ) → Judged row_numbers (row_checks users number n) users (row_answer users number n)
unfolding row_answer
row_judged users number n = rw (row_first users number n) at (judged (row_gives users number n) row_distinct users)

-- "nothing written"
pub row_kept : (users number : ℕ) (w : List ℕ) → ((row_answer users number (length w)).number ≡ 0 → ⊥) → row_after users number w ≡ w
unfolding row_answer row_after
row_kept users number w n =
    after_answered (row_outcome users number (length w)) users _ (filled (at (row_in (the_rows users) number)) users w) w refl n

number_distinct : distinct (0 ∷ number_numbers) ≡ true
unfolding distinct absent
number_distinct = refl

number_gives : (row : List ℕ) → Gives number_numbers (number_checks row)
unfolding not_row
number_gives row = more (only_if (not2to8 (length row) || not (is_listed row)) NoSuchStreams) none

pub number_judged : (row : List ℕ) → Judged number_numbers (number_checks row) (number_of row) (number_answer row)
unfolding number_answer
number_judged row = rw (first_chain (not_row row) []) at (judged (number_gives row) number_distinct (number_of row))

-- ---- of what the entry points' contracts allow
pub put_row_judged : (κs : _) (a : _) (r : _) (s : _) → put_row.Post κs a r s
    → Judged row_numbers (row_checks a.0 a.1.0 (length a.1.1.0.now)) a.0 r
put_row_judged κs a r s p = rw p.0 (row_judged a.0 a.1.0 (length a.1.1.0.now))

pub put_row_keeps : (κs : _) (a : _) (r : _) (s : _) → put_row.Post κs a r s → (r.number ≡ 0 → ⊥) → s.1.1.0.now ≡ a.1.1.0.now
put_row_keeps κs a r s p n =
    p.1 ∙ row_kept a.0 a.1.0 a.1.1.0.now (λ e. n (ap (λ (z : Answer). z.number) p.0 ∙ e))

pub number_of_judged : (κs : _) (a : _) (r : _) (s : _) → number_of_row.Post κs a r s
    → Judged number_numbers (number_checks a.0.now) (number_of a.0.now) r
number_of_judged κs a r s p = rw p (number_judged a.0.now)
