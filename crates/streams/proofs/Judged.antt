-- The answer for a frame's streams is one by the rows 1 to 11, 21 and 23, and a refusal writes nothing.
use mathlib.Core.Path.{◌≡◌, refl, sym, ◌∙◌, ap}
use mathlib.Core.Bool.{Bool, true, false, not}
use mathlib.Core.List.{List, [], ◌∷◌}
use Prim.Native.Nat.{ℕ, ◌<◌}
use lib.Dec.{ltb}
use native.Mathlib.Omega.{arith}
use borrow.Author.Tests.{not-true, not-false}
use lib.ListN.{length, get_or-append}
use Rattle.answer.specs.Answer.{no, ◌or◌, answer_at}
use Rattle.answer.specs.Every.{every}
use Rattle.answer.specs.Answer.{Outcome}
use Rattle.answer.proofs.Every.{every_at}
use Rattle.answer.specs.Lists.{filled}
use Rattle.answer.specs.Order.{first_of, Judged}
use Rattle.answer.specs.declared.Answer.{Answer}
use Rattle.std.specs.Prelude.{Ok}
use Rattle.answer.proofs.Numbers.{only_if, Gives, none, more, distinct, absent, zero_pass, number_applies, judged}
use Rattle.answer.proofs.First.{first_append, pass_first}
use Rattle.answer.proofs.Order.{after_answered, pass_if, pass_left, pass_right, or_next, refuse_if_lem}
use Rattle.answer.specs.declared.Refusal.TheVariants.{NoSuchStreams, BufferTooShort}
use Rattle.halves.specs.Table.{checks11, outcome11}
use Rattle.halves.proofs.Exactly.{checks11_then}
use Rattle.streams.specs.Result.{fields, streams_at, named_at, no_row_named, no_streams_room, streams_checks, streams_numbers, streams_outcome, streams_answer}
use Rattle.streams.specs.Result.{streams_after}
use Rattle.streams.proofs.streams.Reads as streams

module _ (bw : ℕ) (a b : List ℕ) where
  rows_give : (room : ℕ) → Gives streams_numbers (streams_checks bw a b room)
  unfolding no_row_named no_streams_room
  rows_give room =
      checks11_then bw a b
      (more (only_if (not (every (named_at bw a b) (fields bw a b))) NoSuchStreams) (more (only_if (ltb room (fields bw a b)) (BufferTooShort
      (fields bw a b))) none))

  numbers_distinct : distinct (0 ∷ streams_numbers) ≡ true
  unfolding distinct absent
  numbers_distinct = refl

  pub streams_judged : (room : ℕ) → Judged streams_numbers (streams_checks bw a b room) (fields bw a b) (streams_answer bw a b room)
  unfolding streams_answer streams_outcome
  streams_judged room = judged (rows_give room) numbers_distinct (fields bw a b)

  -- number 0 is given only where every row passes
  pub accepted_exactly : (room : ℕ) → (streams_answer bw a b room).number ≡ 0 → streams_outcome bw a b room ≡ Ok tt
  unfolding streams_answer streams_outcome
  accepted_exactly room = zero_pass (rows_give room) numbers_distinct (fields bw a b)

  -- what passing says: so does the reading, and every field is named
  pub passed : (room : ℕ) → streams_outcome bw a b room ≡ Ok tt → (outcome11 bw a b ≡ Ok tt) × (every (named_at bw a b) (fields bw a b) ≡ true)
  unfolding streams_outcome outcome11 no_row_named first_of
  passed room e =
      let f = sym (first_append (checks11 bw a b) (no_row_named bw a b ∷ no_streams_room bw a b room ∷ [])) ∙ e in (
        pass_left (first_of (checks11 bw a b)) _ f,
        not-false _ (pass_if _ _ (pass_left _ _ (pass_right (first_of (checks11 bw a b)) _ f))),
      )

  -- and what 21 says: the reading passes, and not every field is named
  pub refused_21 : (room : ℕ) → (streams_answer bw a b room).number ≡ 21
      → (outcome11 bw a b ≡ Ok tt) × (every (named_at bw a b) (fields bw a b) ≡ false)
  unfolding streams_answer streams_outcome outcome11 no_row_named
  refused_21 room e =
      let w = number_applies (rows_give room) numbers_distinct (fields bw a b) 11 (omega arith) e in
      let rest = no_row_named bw a b ∷ no_streams_room bw a b room ∷ [] in (
        pass_first (checks11 bw a b) (λ k l. sym (get_or-append (checks11 bw a b) rest (Ok tt) k l) ∙ w.applies.nothing_earlier k l),
        not-true _ (refuse_if_lem _ _ _ w.applies.refuses).0,
      )

  -- it is given where the reading passes and some field is not named
  pub given_21 : (room : ℕ) → outcome11 bw a b ≡ Ok tt → (x : ℕ) → x < fields bw a b → named_at bw a b x ≡ false → streams_answer bw a b room ≡ no 21 0 0
  unfolding streams_answer streams_outcome outcome11 no_row_named first_of
  given_21 room e x l f =
      let g = first_append (checks11 bw a b) (no_row_named bw a b ∷ no_streams_room bw a b room ∷ []) in
      let n : every (named_at bw a b) (fields bw a b) ≡ false = fails (every (named_at bw a b) (fields bw a b)) refl in
      ap (λ (o : Outcome). answer_at o (fields bw a b)) (g ∙ or_next (first_of (checks11 bw a b)) _ e) ∙ rw n
    where
      fails : (t : Bool) → every (named_at bw a b) (fields bw a b) ≡ t → t ≡ false
      fails true k = sym (every_at (named_at bw a b) (fields bw a b) k x l) ∙ f
      fails false k = refl

  pub streams_kept : (d : List ℕ) → ((streams_answer bw a b (length d)).number ≡ 0 → ⊥) → streams_after bw a b d ≡ d
  unfolding streams_answer streams_after
  streams_kept d n = after_answered (streams_outcome bw a b (length d)) (fields bw a b) _ (filled (streams_at bw a b) (fields bw a b) d) d refl n

-- "Every refusal writes nothing", of what `streams` allows
pub streams_keeps : (κs : _) (a : _) (r : _) (s : _) → streams.Post κs a r s → (r.number ≡ 0 → ⊥) → s.1.1.1.0.now ≡ a.1.1.1.0.now
streams_keeps κs a r s p n =
    p.1 ∙ streams_kept a.0 a.1.0.now a.1.1.0.now a.1.1.1.0.now (λ e. n (ap (λ (z : Answer). z.number) p.0 ∙ e))
