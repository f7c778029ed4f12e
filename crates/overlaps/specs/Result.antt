-- What listing the overlaps gives: 02's refusals in their order (T-02), the answer, and the lent buffer afterwards.
--
-- "For a list: 15 not whole entries, 25 over 32 of them, then the first refused entry's number with its place from 1, then 26 room for fewer
-- pairs than there are."
use Rattle.std.specs.Prelude.{◌≡◌, not, List, [], ◌∷◌, ◌++◌, ℕ, zero, suc, ◌+◌, ◌*◌, ◌/◌, ◌%◌, ◌<◌, ltb, eqb, length, drop, get_or}
use Rattle.answer.specs.Answer.{no, of_entry, refuse_if, ◌or◌, answer_at, after}
use Rattle.answer.specs.Order.{Answers}
use Rattle.answer.specs.declared.Answer.{Answer}
use Rattle.answer.specs.Answer.{Outcome}
use Rattle.answer.specs.declared.Refusal.TheVariants.{NotWholeEntries, TooManyEntries, TooFewPairs}
use Rattle.std.specs.Prelude.{Ok, Err}
use Rattle.trigger.specs.Reading.{above2, info_outcome, entry_answer}
use Rattle.overlaps.specs.Overlaps.{entries_in, entry_at, info_at, Reported}
use Rattle.overlaps.specs.Worked.{pair_count, pair_bytes}

-- 15
unfoldable pub not_whole : List ℕ → Outcome
not_whole es = refuse_if (not (eqb (length es % 5) 0)) NotWholeEntries

-- 25
unfoldable pub over32 : List ℕ → Outcome
over32 es = refuse_if (ltb 32 (entries_in es)) TooManyEntries

-- an entry's refusal, "with its place from 1": p
abbrev pub placed : ℕ → Outcome → Outcome
placed p (Ok u) = Ok tt
placed p (Err x) = Err (of_entry p x)

-- "the first refused entry's number with its place": of the first n
unfoldable pub entries_outcome : ℕ → List ℕ → ℕ → Outcome
entries_outcome bw es zero = Ok tt
entries_outcome bw es (suc n) = entries_outcome bw es n or placed (suc n) (info_outcome bw (info_at es n))

-- 26, two bytes a pair: of m bytes lent
unfoldable pub no_pair_room : List ℕ → ℕ → Outcome
no_pair_room es m = refuse_if (ltb (m / 2) (pair_count es)) TooFewPairs

unfoldable pub overlaps_outcome : ℕ → List ℕ → ℕ → Outcome
overlaps_outcome bw es m = above2 bw or not_whole es or over32 es or entries_outcome bw es (entries_in es) or no_pair_room es m

abbrev pub overlaps_checks : ℕ → List ℕ → ℕ → List Outcome
overlaps_checks bw es m = above2 bw ∷ not_whole es ∷ over32 es ∷ entries_outcome bw es (entries_in es) ∷ no_pair_room es m ∷ []

unfoldable pub overlaps_answer : ℕ → List ℕ → ℕ → Answer
overlaps_answer bw es m = answer_at (overlaps_outcome bw es m) (pair_count es)

-- the lent bytes d afterwards
unfoldable pub pairs_after : ℕ → List ℕ → List ℕ → List ℕ
pairs_after bw es d = after (overlaps_outcome bw es (length d)) (pair_bytes es ++ drop (2 * pair_count es) d) d

-- ---- what the answer says of the list
-- the entry e, read by itself into a record that has room, is accepted
abbrev pub ReadsAlone : ℕ → List ℕ → Type 0
ReadsAlone bw e = (entry_answer bw e 32).number ≡ 0

-- "the first refused entry's number with its place from 1": the answer r to the list es, whose entry i is refused by itself and none before it
pub record FirstRefused (bw : ℕ) (es : List ℕ) (i : ℕ) (r : Answer) : Type 0 where
  pub is_entry : i < entries_in es
  pub refused_alone : r ≡ no (entry_answer bw (entry_at es i) 32).number 0 (i + 1)
  pub earlier_read : (j : ℕ) → j < i → ReadsAlone bw (entry_at es j)

-- the answer r to the list es with m bytes lent is by the rows 1, 15, 25, the entries', 26
pub record JudgedList (bw : ℕ) (es : List ℕ) (m : ℕ) (r : Answer) : Type 0 where
  pub accepted : r.number ≡ 0 → (r ≡ no 0 0 (pair_count es)) × ((k : ℕ) → get_or (overlaps_checks bw es m) k (Ok tt) ≡ Ok tt)
  pub refused : (r.number ≡ 0 → ⊥) → (k : ℕ) × Answers (overlaps_checks bw es m) k r
  pub of_entry : Answers (overlaps_checks bw es m) 3 r → (i : ℕ) × FirstRefused bw es i r
  -- "26 room for fewer pairs than there are"
  pub of_room : Answers (overlaps_checks bw es m) 4 r → (n : ℕ) × (w : List ℕ) × Reported bw es n w × (m / 2 < n)
  -- and an accepted list's entries are each read
  pub each_read : r.number ≡ 0 → (i : ℕ) → i < entries_in es → ReadsAlone bw (entry_at es i)
