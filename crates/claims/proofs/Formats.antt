-- The reader's plan is 01's, and each User word is of the format that its field's owner has.
use mathlib.Core.Path.{◌≡◌, sym, ◌∙◌, ap, subst}
use mathlib.Core.Bool.{Bool}
use mathlib.Core.List.{List}
use Prim.Native.Nat.{ℕ, ◌+◌, ◌≤◌, ◌<◌}
use native.Mathlib.Omega.{arith}
use lib.Dec.{leb}
use lib.ListN.{length, get_or, drop, get_or-append}
use borrow.Author.Tests.{le-leb, lt-leb}
use Rattle.answer.specs.declared.Answer.{Answer}
use Rattle.std.specs.Prelude.{Ok}
use Rattle.answer.proofs.Order.{pass_left, pass_right}
use Rattle.bits.specs.Bits.{field}
use Rattle.answer.specs.Lists.{at}
use Rattle.kinds.specs.Signals.{Signals}
use Rattle.kinds.specs.Fields.{together, shared}
use Rattle.plan.specs.Answers.{Laid}
use Rattle.plan.specs.Engine.{plan_outcome}
use Rattle.plan.proofs.Laid.{outcome_laid}
use Rattle.plan.proofs.Demand.{accepted_plan, only_plan_lem}
use Rattle.records.specs.declared.Record.{Record}
use Rattle.records.specs.Records.{records_of, blank}
use Rattle.records.specs.Owns.{fields_before, ComesFrom}
use Rattle.records.specs.FieldsOf.{fields_on}
use Rattle.records.specs.Engine.{owner_of}
use Rattle.records.proofs.Owners.{comes_below, one_owner, owner_owns}
use Rattle.records.proofs.Shares.{owner_listed}
use Rattle.records.proofs.Formats.{as_owned}
use Rattle.channel.specs.Layout.{row, count, user_at}
use Rattle.words.specs.Words.{user_word}
use Rattle.halves.specs.Table.{outcome11, outcome6}
use Rattle.halves.specs.Engine.{outcome9to11}
use Rattle.halves.proofs.Stages.{outcome11_stages}
use Rattle.frame_words.specs.Words.{word_count, giver, position_in, shared_at, user_word_at, words_of}
use Rattle.frame_words.proofs.Determine.{words_length, word_1, word_2}
use Rattle.frame_words.proofs.Counts.{row_count_1, row_count_2, given_1, given_2}
use Rattle.reader.specs.Table.{check12, read_outcome}
use Rattle.reader.specs.Result.{words_after}
use Rattle.reader.proofs.Stages.{read_outcome_stages, read_outcome_pass}
use Rattle.reader.proofs.Exactly.{accepted_exactly}
use Rattle.reader.proofs.read.Reads as read
use Rattle.claims.specs.Formats.{WordOn, OwnsIn, OneOwner, Formatted, UserWords}

-- ---- the words of a frame
format : (x : Record) (f v : ℕ) (t : Bool) → leb 2 (fields_on x) ≡ t → v ≡ user_word t f → WordOn x f v
format x f v t e g = record {
  alone = λ l. g ∙ ap (λ (u : Bool). user_word u f) (sym e ∙ lt-leb 2 (fields_on x) l);
  shared = λ l. g ∙ ap (λ (u : Bool). user_word u f) (sym e ∙ le-leb 2 (fields_on x) l);
}

module _ (bw : ℕ) (a b : List ℕ) (l : bw ≤ 4) (o : ℕ → ℕ) (s : Signals o (at (row bw a b)) 0 (length (row bw a b))) where
  abbrev r : List ℕ
  r = row bw a b

  -- the reader's own plan is this one
  reader_plan : (p : ℕ) → p < length r → shared o (at r) p ≡ shared_at r p
  reader_plan p h = ap (λ (x : ℕ). leb 2 (together x (at r) p)) (only_plan_lem r o s p h)

  -- of channel c, whose bytes are d
  owned_word : (c : ℕ) (d : List ℕ) → ((j p k : ℕ) → ComesFrom (at r) (length r) c j p k → position_in c (giver bw c d j) ≡ p)
      → (i j : ℕ) → OwnsIn o r i c j → WordOn (get_or (records_of o r) i blank) (field d (user_at bw j) 22) (user_word_at bw r c d j)
  unfolding user_word_at
  owned_word c d given i j w =
      let g = as_owned o (at r) (length r) s i c j w in
      let p = g.0 in
      format (get_or (records_of o r) i blank) (field d (user_at bw j) 22) (user_word_at bw r c d j) (shared_at r p)
      (g.3 ∙ reader_plan p g.2.inside)
      (ap (λ (q : ℕ). user_word (shared_at r q) (field d (user_at bw j) 22)) (given j p g.1 g.2))

  -- an owned field is one of its channel's
  owned_below : (i c j : ℕ) → OwnsIn o r i c j → j < fields_before c (at r) (length r)
  owned_below i c j w = let g = as_owned o (at r) (length r) s i c j w in comes_below (at r) (length r) c j g.0 g.1 g.2

  has_one : (c j : ℕ) → j < fields_before c (at r) (length r) → OneOwner o r c j
  has_one c j h =
      let i = owner_of o (at r) c (length r) j in
      let w = owner_owns o (at r) (length r) s c j h in
      (i, owner_listed o (at r) (length r) s c j h, w, λ i' v. one_owner o (at r) (length r) i' i c j v w)

  -- w has the frame's words at its front
  pub formatted : (w : List ℕ) → ((k : ℕ) → k < word_count bw a b → at w k ≡ at (words_of bw a b) k) → Formatted bw a b w o
  unfolding word_count
  formatted w same = record {
    one_1 = λ j h. has_one 1 j (omega (arith, row_count_1 bw a b l));
    one_2 = λ j h. has_one 2 j (omega (arith, row_count_2 bw a b l));
    word_1 = λ i j v.
        let h : j < count bw 1 a = omega (arith, owned_below i 1 j v, row_count_1 bw a b l) in
        rw (same (10 + j) (omega arith) ∙ word_1 bw a b j h) (owned_word 1 a (given_1 bw a b l) i j v);
    word_2 = λ i j v.
        let h : j < count bw 2 b = omega (arith, owned_below i 2 j v, row_count_2 bw a b l) in
        rw (same (10 + count bw 1 a + j) (omega arith) ∙ word_2 bw a b j h) (owned_word 2 b (given_2 bw a b l) i j v);
  }

-- ---- of any result that the contract of `reader::read` allows

-- the frame's words stand at the front of the lent ones
front_words : (bw : ℕ) (a b w : List ℕ) → read_outcome bw a b (length w) ≡ Ok tt → (k : ℕ) → k < word_count bw a b
    → at (words_after bw a b w) k ≡ at (words_of bw a b) k
unfolding words_after
front_words bw a b w e k h =
    rw e (get_or-append (words_of bw a b) (drop (word_count bw a b) w) 0 k (omega (arith, words_length bw a b)))

the_layout : (bw : ℕ) (a b : List ℕ) → outcome11 bw a b ≡ Ok tt → plan_outcome (row bw a b) ≡ Ok tt
the_layout bw a b e =
    pass_right (outcome6 bw a b) (plan_outcome (row bw a b)) (pass_left _ (outcome9to11 bw a b) (sym (outcome11_stages bw a b) ∙ e))

pub frame_words : (bw : ℕ) (a b w : List ℕ) → read_outcome bw a b (length w) ≡ Ok tt → UserWords bw a b (words_after bw a b w)
frame_words bw a b w e =
    let r = row bw a b in
    let f : outcome11 bw a b ≡ Ok tt = pass_left _ (check12 bw a b (length w)) (sym (read_outcome_stages bw a b (length w)) ∙ e) in
    record {
      a_plan = accepted_plan r (subst (Laid r) (the_layout bw a b f) (outcome_laid r));
      each_plan = λ o s.
          formatted bw a b (read_outcome_pass bw a b (length w) e).common.known o s (words_after bw a b w) (front_words bw a b w e);
    }

pub user_words : (κs : _) (a : _) (x : _) (s : _) → read.Post κs a x s → x.number ≡ 0
    → UserWords a.0 a.1.0.now a.1.1.0.now s.1.1.1.0.now
user_words κs a x s p z =
    let w = a.1.1.1.0.now in
    let n = ap (λ (y : Answer). y.number) (sym p.0) ∙ z in
    rw p.1 (frame_words a.0 a.1.0.now a.1.1.0.now w (accepted_exactly a.0 a.1.0.now a.1.1.0.now (length w) n))
