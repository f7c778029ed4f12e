-- The C entries' answers are by the same rows of 01's table, and a refusal writes nothing.
use mathlib.Core.Path.{◌≡◌, refl, ◌∙◌, ap}
use mathlib.Core.Bool.{true, not}
use mathlib.Core.List.{List, [], ◌∷◌}
use Prim.Native.Nat.{ℕ, ◌%◌}
use lib.Dec.{eqb}
use lib.ListN.{length}
use Rattle.answer.specs.Answer.{◌or◌}
use Rattle.answer.specs.Order.{first_of, Judged}
use Rattle.answer.specs.declared.Answer.{Answer}
use Rattle.answer.specs.Answer.{Outcome}
use Rattle.std.specs.Prelude.{Ok, Err}
use Rattle.answer.proofs.Numbers.{Only, only_if, only_or, Gives, distinct, absent, judged, none, more}
use Rattle.answer.proofs.First.{first_chain}
use Rattle.answer.proofs.Order.{after_answered}
use Rattle.answer.specs.declared.Refusal.TheVariants.{NoFrameReads}
use Rattle.halves.specs.Table.{check1}
use Rattle.candidate.specs.Engine.{needed, candidate}
use Rattle.writer.specs.Result.{check13, check14, write_outcome, front, write_numbers}
use Rattle.writer.proofs.Exactly.{only_1, only_13, only_14}
use Rattle.listing.proofs.Facts.{list_kept}
use Rattle.word_bytes.specs.Bytes.{words_in}
use Rattle.brachymel.specs.Bytes.{ragged, bytes_outcome, bytes_write_answer, write_channel, bytes_checks}
use Rattle.brachymel.proofs.brachymel_write.Reads as write
use Rattle.brachymel.proofs.brachymel_list.Reads as list

only_ragged : (t : List ℕ) → Only 13 (ragged t)
unfolding ragged
only_ragged t = only_if (not (eqb (length t % 4) 0)) NoFrameReads

numbers_distinct : distinct (0 ∷ write_numbers) ≡ true
unfolding distinct absent
numbers_distinct = refl

rows_give : (bw : ℕ) (t : List ℕ) (n m : ℕ) → Gives write_numbers (bytes_checks bw t n m)
rows_give bw t n m =
    more (only_1 bw (words_in t) n m)
    (more (only_or (only_ragged t) (only_13 bw (words_in t) n m)) (more (only_14 bw (words_in t) n m) none))

write_checks_first : (bw : ℕ) (t : List ℕ) (n m : ℕ) → first_of (bytes_checks bw t n m) ≡ bytes_outcome bw t n m
unfolding bytes_outcome write_outcome
write_checks_first bw t n m =
    first_chain (check1 bw) ((ragged t or check13 bw (words_in t)) ∷ check14 bw (words_in t) n m ∷ [])
    ∙ twice (check1 bw) (ragged t) (check13 bw (words_in t)) (check14 bw (words_in t) n m)
  where
    -- a first check that is looked at twice
    twice : (o p q r : Outcome) → o or (p or q) or r ≡ o or p or (o or q or r)
    twice (Ok u) (Ok v) q r = refl
    twice (Ok u) (Err x) q r = refl
    twice (Err x) p q r = refl

pub write_judged : (bw : ℕ) (t : List ℕ) (n m : ℕ) → Judged write_numbers (bytes_checks bw t n m) (needed bw (words_in t)) (bytes_write_answer bw t n m)
unfolding bytes_write_answer
write_judged bw t n m = rw (write_checks_first bw t n m) at (judged (rows_give bw t n m) numbers_distinct (needed bw (words_in t)))

-- "Every refusal writes nothing"
pub write_keeps : (κs : _) (a : _) (r : _) (s : _) → write.Post κs a r s → (r.number ≡ 0 → ⊥)
    → (s.1.1.0.now ≡ a.1.1.0.now) × (s.1.1.1.0.now ≡ a.1.1.1.0.now)
unfolding bytes_write_answer write_channel
write_keeps κs a r s p n =
    let bw = a.0 in
    let t = a.1.0.now in
    let x = a.1.1.0.now in
    let y = a.1.1.1.0.now in
    let o = bytes_outcome bw t (length x) (length y) in (
      p.1.0 ∙ after_answered o (needed bw (words_in t)) r (front (candidate bw (words_in t) 1) x) x p.0 n,
      p.1.1 ∙ after_answered o (needed bw (words_in t)) r (front (candidate bw (words_in t) 2) y) y p.0 n,
    )

pub list_keeps : (κs : _) (a : _) (r : _) (s : _) → list.Post κs a r s → (r.number ≡ 0 → ⊥) → s.1.1.1.0.now ≡ a.1.1.1.0.now
list_keeps κs a r s p n =
    p.1 ∙ list_kept a.0 a.1.0.now a.1.1.0.now a.1.1.1.0.now (λ e. n (ap (λ (z : Answer). z.number) p.0 ∙ e))
