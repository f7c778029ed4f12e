-- Reading and writing an entry undo each other, by answer and lent buffer; and 17 is where no entry reads to the record.
use mathlib.Core.Path.{◌≡◌, refl, sym, ◌∙◌, ap, subst}
use mathlib.Core.Logic.{⊎_elim}
use mathlib.Core.Bool.{Bool, true, false, not, ◌&&◌}
use mathlib.Core.List.{List}
use Prim.Native.Nat.{ℕ, ◌/◌, ◌^◌, ◌≤◌, ◌<◌}
use native.Mathlib.Omega.{arith}
use borrow.Author.Tests.{ltb-false, le-ltb, eqb-true, ne_eqb, lt-leb, le-leb}
use lib.Dec.{T, ltb, leb, eqb}
use lib.ListN.{length, take, drop, get_or-eq_default}
use Rattle.answer.specs.Answer.{no, ◌or◌}
use Rattle.std.specs.Prelude.{Ok}
use Rattle.answer.specs.Lists.{at, build, filled}
use Rattle.answer.proofs.Lists.{length_build, get_d_build, get_d_filled, build_is, take_filled, drop_filled}
use Rattle.answer.proofs.Order.{pass_if, if_pass, or_pass, pass_not_refuse}
use Rattle.answer.specs.declared.Refusal.TheVariants.{UnknownBandwidth, NotWholeEntries, NotNamed, BufferTooShort, OtherLayout}
use Rattle.bits.specs.Bits.{Small}
use Rattle.word_bytes.specs.Bytes.{byte_at, word_at, words_in}
use Rattle.word_bytes.proofs.Back.{words_back, word_same}
use Rattle.resource.specs.declared.Resource.{Resource}
use Rattle.resource.specs.Names.{name_of, number_of}
use Rattle.resource.proofs.Test.{below_or}
use Rattle.trigger_values.specs.UserInfo.{info_of, aid12, value_in, entry_of}
use Rattle.trigger_values.specs.Values.{resource_of, ResourceOf}
use Rattle.trigger.specs.Reading.{above2, not_five, info_outcome, no_record_room, entry_outcome, numbers_of, entry_answer, record_read}
use Rattle.trigger.specs.Worked.{EntryReads, SomeEntry, the_entry, some_entry}
use Rattle.trigger.specs.Engine.{info_with}
use Rattle.trigger.specs.Writing.{says2007, of_none, no_entry_room, record_outcome, record_answer, entry_written}
use Rattle.trigger.proofs.Stages.{read_chain, not_false}
use Rattle.trigger.proofs.Five.{entry_length}
use Rattle.trigger_values.proofs.OneToOne.{one_to_one}
use Rattle.trigger.proofs.Worked.{accepted, number_low, record_words, the_entry_fact, found, reads_to, small_entry}
use Rattle.trigger.proofs.Judged.{entry_judged, record_judged, record_exactly}

-- ---- an entry that is accepted
pub record EntryPassed (bw : ℕ) (e : List ℕ) (n : ℕ) : Type 0 where
  pub narrow : bw ≤ 2
  pub five : length e ≡ 5
  pub info : info_outcome bw (info_of e) ≡ Ok tt
  pub room : 32 ≤ n

pub entry_passed : (bw : ℕ) (e : List ℕ) (n : ℕ) → (entry_answer bw e n).number ≡ 0 → EntryPassed bw e n
unfolding above2 not_five no_record_room info_outcome
entry_passed bw e n z =
    let a = ((entry_judged bw e n).accepted z).1 in
    record {
      narrow = (let h = ltb-false 2 bw (pass_if (ltb 2 bw) UnknownBandwidth (a 0)) in omega arith);
      five = eqb-true (length e) 5 (not_false (eqb (length e) 5) (pass_if (not (eqb (length e) 5)) NotWholeEntries (a 1)));
      info = or_pass _ _ (or_pass _ _ (a 2) (a 3)) (a 4);
      room = ltb-false n 32 (pass_if (ltb n 32) (BufferTooShort 32) (a 5));
    }

pub entry_outcome_lem : (bw : ℕ) (e : List ℕ) (n : ℕ) → EntryPassed bw e n → entry_outcome bw e n ≡ Ok tt
unfolding above2 not_five no_record_room
entry_outcome_lem bw e n p =
    let narrow = p.narrow in
    sym (read_chain bw e n)
    ∙ or_pass _ _
    (or_pass _ _
    (or_pass _ _ (if_pass (ltb 2 bw) UnknownBandwidth (le-ltb 2 bw (omega arith))) (if_pass (not (eqb (length e) 5)) NotWholeEntries (rw p.five)))
    p.info)
    (if_pass (ltb n 32) (BufferTooShort 32) (le-ltb n 32 p.room))

-- what it reads to
module _ (bw : ℕ) (e w : List ℕ) where
  pub reads_it : EntryPassed bw e (length w) → EntryReads bw e (take 32 (record_read bw e w))
  unfolding record_read
  reads_it p = record {
    five = p.five;
    accepted = p.info;
    exactly = rw (entry_outcome_lem bw e (length w) p) (sym (take_filled (byte_at (numbers_of (info_of e))) 32 w));
  }

  pub reads_exactly : (t : List ℕ) → bw ≤ 2 → EntryReads bw e t → 32 ≤ length w
      → (entry_answer bw e (length w) ≡ no 0 0 32) × (take 32 (record_read bw e w) ≡ t) × (drop 32 (record_read bw e w) ≡ drop 32 w)
  unfolding entry_answer record_read
  reads_exactly t h r l =
      let o = entry_outcome_lem bw e (length w) (record { narrow = h; five = r.five; info = r.accepted; room = l }) in
      (rw o, rw o (take_filled (byte_at (numbers_of (info_of e))) 32 w ∙ r.exactly), rw o (drop_filled (byte_at (numbers_of (info_of e))) 32 w))

  -- its resource, by its subcarriers and its index
  pub read_resource : (entry_answer bw e (length w)).number ≡ 0
      → (r : Resource) × ResourceOf (2 ^ bw) r × (word_at (record_read bw e w) 1 ≡ name_of r) × (word_at (record_read bw e w) 2 ≡ number_of r)
  unfolding record_read numbers_of
  read_resource z =
      let p = entry_passed bw e (length w) z in
      let x = info_of e in
      let f = byte_at (numbers_of x) in
      let word : (i : ℕ) → i < 8 → word_at (filled f 32 w) i ≡ at (numbers_of x) i
      = λ i l. word_same (filled f 32 w) (build f 32) i
      (λ j m. get_d_filled f 32 w j 0 (omega arith) ∙ sym (get_d_build f 32 j 0 (omega arith)))
      ∙ words_back (numbers_of x) 8 i l (number_low x i l) in
      let a = accepted bw x p.info in (
        resource_of (value_in x),
        (one_to_one bw p.narrow).names_one (value_in x) (rw a.takes tt),
        rw (entry_outcome_lem bw e (length w) p) (word 1 (omega arith)),
        rw (entry_outcome_lem bw e (length w) p) (word 2 (omega arith)),
      )

-- ---- a record that is accepted
pub record RecordPassed (bw : ℕ) (t : List ℕ) (n : ℕ) : Type 0 where
  pub narrow : bw ≤ 2
  pub other_aid : leb 4 (length t) && eqb (word_at t 0) 2007 ≡ false
  pub some : some_entry bw t ≡ true
  pub room : 5 ≤ n

pub record_passed : (bw : ℕ) (t : List ℕ) (n : ℕ) → (record_answer bw t n).number ≡ 0 → RecordPassed bw t n
unfolding above2 says2007 of_none no_entry_room
record_passed bw t n z =
    let a = ((record_judged bw t n).accepted z).1 in
    record {
      narrow = (let h = ltb-false 2 bw (pass_if (ltb 2 bw) UnknownBandwidth (a 0)) in omega arith);
      other_aid = pass_if (leb 4 (length t) && eqb (word_at t 0) 2007) (OtherLayout 0) (a 1);
      some = not_false (some_entry bw t) (pass_if (not (some_entry bw t)) (NotNamed 0) (a 2));
      room = ltb-false n 5 (pass_if (ltb n 5) (BufferTooShort 5) (a 3));
    }

record_outcome_lem : (bw : ℕ) (t : List ℕ) (n : ℕ) → RecordPassed bw t n → record_outcome bw t n ≡ Ok tt
unfolding record_outcome above2 says2007 of_none no_entry_room
record_outcome_lem bw t n p =
    let narrow = p.narrow in
    or_pass _ _
    (or_pass _ _
    (or_pass _ _ (if_pass (ltb 2 bw) UnknownBandwidth (le-ltb 2 bw (omega arith))) (if_pass (leb 4 (length t) && eqb (word_at t 0) 2007)
    (OtherLayout 0) p.other_aid))
    (if_pass (not (some_entry bw t)) (NotNamed 0) (ap not p.some)))
    (if_pass (ltb n 5) (BufferTooShort 5) (le-ltb n 5 p.room))

-- the first number, where there is one
first_there : (t : List ℕ) → (at (words_in t) 0 ≡ 2007) → (4 ≤ length t) × (word_at t 0 ≡ 2007)
first_there t e =
    ⊎_elim
    (λ (l : length t < 4).
    let z : at (words_in t) 0 ≡ 0 = get_or-eq_default (words_in t) 0 (omega (arith, length_build (word_at t) (length t / 4))) in
    absurd (omega arith))
    (λ (l : 4 ≤ length t). (l, sym (get_d_build (word_at t) (length t / 4) 0 0 (omega arith)) ∙ e))
    (below_or (length t) 4)

not_2007 : (t : List ℕ) → leb 4 (length t) && eqb (word_at t 0) 2007 ≡ false → at (words_in t) 0 ≡ 2007 → ⊥
not_2007 t e h =
    let w = first_there t h in
    subst (λ (b : Bool). T b) (ap (λ (b : Bool). b && eqb (word_at t 0) 2007) (sym (le-leb 4 (length t) w.0)) ∙ e) (rw w.1 tt)

not_said : (t : List ℕ) → (at (words_in t) 0 ≡ 2007 → ⊥) → leb 4 (length t) && eqb (word_at t 0) 2007 ≡ false
not_said t n =
    ⊎_elim
    (λ (l : length t < 4). rw (lt-leb 4 (length t) l))
    (λ (l : 4 ≤ length t).
    rw (le-leb 4 (length t) l) (ne_eqb (word_at t 0) 2007 (λ e. n (get_d_build (word_at t) (length t / 4) 0 0 (omega arith) ∙ e))))
    (below_or (length t) 4)

five_bytes : (bw : ℕ) (t : List ℕ) → build (at (the_entry t)) 5 ≡ the_entry t
unfolding the_entry
five_bytes bw t = sym (build_is (at (entry_of (info_with (words_in t)))) 0 (entry_of (info_with (words_in t))) 5 (entry_length (info_with (words_in t)))
    (λ i l. refl))

module _ (bw : ℕ) (t : List ℕ) where
  -- what was read is written back
  pub gives_back : (e d : List ℕ) → bw ≤ 2 → Small e → EntryReads bw e t → 5 ≤ length d
      → (record_answer bw t (length d) ≡ no 0 0 5) × (take 5 (entry_written bw t d) ≡ e) × (drop 5 (entry_written bw t d) ≡ drop 5 d)
  unfolding record_answer entry_written numbers_of
  gives_back e d h s r l =
      let n = not_said t (λ z. (accepted bw (info_of e) r.accepted).other_aid (first_number z)) in
      let o = record_outcome_lem bw t (length d) (record { narrow = h; other_aid = n; some = found bw t e r; room = l }) in (
        rw o,
        rw o (take_filled (at (the_entry t)) 5 d ∙ five_bytes bw t ∙ sym (the_entry_fact bw t e s r)),
        rw o (drop_filled (at (the_entry t)) 5 d),
      )
    where
      first_number : at (words_in t) 0 ≡ 2007 → aid12 (info_of e) ≡ 2007
      first_number z = ap (λ (l : List ℕ). at l 0) (sym (record_words (info_of e) t r.exactly)) ∙ z

  -- what was written reads to it
  pub written_reads : (d : List ℕ) → Small t → (record_answer bw t (length d)).number ≡ 0
      → (bw ≤ 2) × EntryReads bw (take 5 (entry_written bw t d)) t
  unfolding entry_written
  written_reads d s z =
      let p = record_passed bw t (length d) z in
      let r = reads_to bw t s (not_2007 t p.other_aid) p.some in
      (p.narrow, rw (record_outcome_lem bw t (length d) p, take_filled (at (the_entry t)) 5 d, five_bytes bw t) r)

  -- 17
  pub refused_17 : (n : ℕ) → Small t → bw ≤ 2 → (4 ≤ length t → word_at t 0 ≡ 2007 → ⊥) → (SomeEntry bw t → ⊥) → (record_answer bw t n).number ≡ 17
  unfolding record_answer record_outcome above2 says2007 of_none no_entry_room
  refused_17 n s h m k =
      let other : at (words_in t) 0 ≡ 2007 → ⊥ = λ e. (let w = first_there t e in m w.0 w.1) in
      rw (le-ltb 2 bw (omega arith), not_said t other, none (some_entry bw t) (λ e. k (the_entry t, the_entry_small, reads_to bw t s other e)))
    where
      none : (b : Bool) → (b ≡ true → ⊥) → b ≡ false
      none true f = absurd (f refl)
      none false f = refl

      the_entry_small : Small (the_entry t)
      the_entry_small = small_entry bw t

  pub refused_17_none : (n : ℕ) → (record_answer bw t n).number ≡ 17 → (e : List ℕ) → EntryReads bw e t → ⊥
  unfolding of_none
  refused_17_none n z e r =
      let a = (record_exactly bw t n 2 (omega arith) z).applies.refuses in
      pass_not_refuse (if_pass (not (some_entry bw t)) (NotNamed 0) (ap not (found bw t e r))) a
