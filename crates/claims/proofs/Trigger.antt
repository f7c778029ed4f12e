-- Trigger frames are read on the same terms.
use mathlib.Core.Path.{◌≡◌, sym, ◌∙◌, ap}
use mathlib.Core.List.{List}
use Prim.Native.Nat.{ℕ, ◌*◌, ◌^◌, ◌≤◌, ◌<◌}
use native.Mathlib.Omega.{arith}
use lib.Dec.{T}
use lib.ListN.{length, take, drop, get_or, replicate}
use Rattle.answer.specs.Answer.{no}
use Rattle.answer.specs.declared.Answer.{Answer}
use Rattle.bits.specs.Bits.{Small}
use Rattle.word_bytes.specs.Bytes.{word_at}
use Rattle.resource.specs.declared.Resource.{Resource}
use Rattle.resource.specs.Names.{name_of, number_of}
use Rattle.kinds.specs.Signals.{Signals}
use Rattle.records.specs.Records.{records_from, blank}
use Rattle.trigger_values.specs.Values.{resource_of, taken, ResourceOf}
use Rattle.trigger.specs.Reading.{entry_answer, record_read}
use Rattle.trigger.specs.Worked.{EntryReads, SomeEntry}
use Rattle.trigger.specs.Writing.{record_answer, entry_written}
use Rattle.trigger_values.proofs.OneToOne.{one_to_one}
use Rattle.trigger.proofs.Judged.{entry_judged, record_judged, record_kept, entry_kept}
use Rattle.trigger.proofs.Inverse.{entry_passed, reads_it, reads_exactly, gives_back, written_reads, refused_17, refused_17_none, read_resource}
use Rattle.overlaps.specs.Overlaps.{Reported}
use Rattle.overlaps.specs.Worked.{pair_count}
use Rattle.overlaps.specs.Result.{overlaps_answer, pairs_after}
use Rattle.overlaps.proofs.Judged.{list_judged, pairs_kept, after_reported, past_kept}
use Rattle.overlaps.proofs.Most.{accepted_most, always_room}
use Rattle.claims.specs.Calls.{EntryCall, EntryCallReads, entry_reads, c_entry_reads, EntryCallWrites, entry_writes, c_entry_writes}
use Rattle.claims.specs.Calls.{Overlaps, overlaps, c_overlaps}
use Rattle.claims.specs.Trigger.{EntryAccepts, record_given, entry_given, SameInput, SameResult, EntriesFirst, EntriesSecond, EntriesOverlap}
use Rattle.claims.proofs.OfPlan.{of_plan}
use Rattle.claims.proofs.Holding.{held_by_some}

-- ---- what each call gives
pub record Gives (A : ℕ → List ℕ → ℕ → Answer) (B : ℕ → List ℕ → List ℕ → List ℕ) (c : EntryCall) : Type 0 where
  pub answers : c.answer ≡ A c.bandwidth c.given (length c.lent)
  pub leaves : c.after ≡ B c.bandwidth c.given c.lent

read_gives : (c : EntryCall) → EntryCallReads c → Gives entry_answer record_read c
read_gives c (entry_reads κs a r s p) = record { answers = p.0; leaves = p.1 }
read_gives c (c_entry_reads κs a r s p) = record { answers = p.0; leaves = p.1 }

write_gives : (c : EntryCall) → EntryCallWrites c → Gives record_answer entry_written c
write_gives c (entry_writes κs a r s p) = record { answers = p.0; leaves = p.1 }
write_gives c (c_entry_writes κs a r s p) = record { answers = p.0; leaves = p.1 }

overlaps_give : (c : EntryCall) → Overlaps c → Gives overlaps_answer pairs_after c
overlaps_give c (overlaps κs a r s p) = record { answers = p.0; leaves = p.1 }
overlaps_give c (c_overlaps κs a r s p) = record { answers = p.0; leaves = p.1 }

-- equations: so two calls agree, and a refusal keeps where its buffer's equation says so
module _ (A : ℕ → List ℕ → ℕ → Answer) (B : ℕ → List ℕ → List ℕ → List ℕ) where
  same_result : (c c' : EntryCall) → Gives A B c → Gives A B c' → SameInput c c' → SameResult c c'
  same_result c c' g g' i = record {
    answers = g.answers ∙ rw (i.bandwidths, i.bytes, i.buffers) (sym g'.answers);
    afters = g.leaves ∙ rw (i.bandwidths, i.bytes, i.buffers) (sym g'.leaves);
  }

  keeps : ((bw : ℕ) (e w : List ℕ) → ((A bw e (length w)).number ≡ 0 → ⊥) → B bw e w ≡ w)
      → (c : EntryCall) → Gives A B c → (c.answer.number ≡ 0 → ⊥) → c.after ≡ c.lent
  keeps k c g n = g.leaves ∙ k c.bandwidth c.given c.lent (λ z. n (ap (λ (x : Answer). x.number) g.answers ∙ z))

  number : (c : EntryCall) → Gives A B c → c.answer.number ≡ 0 → (A c.bandwidth c.given (length c.lent)).number ≡ 0
  number c g z = ap (λ (x : Answer). x.number) (sym g.answers) ∙ z

pub entries_first : EntriesFirst
entries_first = record {
  read_ends = λ c h. rw (read_gives c h).answers (entry_judged c.bandwidth c.given (length c.lent));
  write_ends = λ c h. rw (write_gives c h).answers (record_judged c.bandwidth c.given (length c.lent));
  overlaps_end = λ c h. rw (overlaps_give c h).answers (list_judged c.bandwidth c.given (length c.lent));
  read_asks_nothing = λ κs a. tt;
  write_asks_nothing = λ κs a. tt;
  overlaps_ask_nothing = λ κs a. tt;
  c_read_asks_nothing = λ κs a. tt;
  c_write_asks_nothing = λ κs a. tt;
  c_overlaps_ask_nothing = λ κs a. tt;
  read_keeps = λ c h. keeps entry_answer record_read record_kept c (read_gives c h);
  write_keeps = λ c h. keeps record_answer entry_written entry_kept c (write_gives c h);
  overlaps_keep = λ c h. keeps overlaps_answer pairs_after pairs_kept c (overlaps_give c h);
  reads_agree = λ c c' h h'. same_result entry_answer record_read c c' (read_gives c h) (read_gives c' h');
  writes_agree = λ c c' h h'. same_result record_answer entry_written c c' (write_gives c h) (write_gives c' h');
  overlaps_agree = λ c c' h h'. same_result overlaps_answer pairs_after c c' (overlaps_give c h) (overlaps_give c' h');
}

-- ---- reading and writing
gave_resource : (c : EntryCall) → EntryCallReads c → c.answer.number ≡ 0
    → (r : Resource) × ResourceOf (2 ^ c.bandwidth) r × (word_at c.after 1 ≡ name_of r) × (word_at c.after 2 ≡ number_of r)
gave_resource c h z =
    let g = read_gives c h in
    let w = read_resource c.bandwidth c.given c.lent (number entry_answer record_read c g z) in
    rw g.leaves w

plan_value : (bw : ℕ) → bw ≤ 2 → (o row : ℕ → ℕ) → Signals o row 0 (2 ^ bw) → (i : ℕ) → i < length (records_from o row (2 ^ bw))
    → (v : ℕ) × T (taken bw v) × (resource_of v ≡ (get_or (records_from o row (2 ^ bw)) i blank).resource)
plan_value bw h o row s i l = (one_to_one bw h).has_one (of_plan o row bw h s i l)

gave_back : (c d : EntryCall) → EntryCallReads c → EntryCallWrites d → Small c.given → c.answer.number ≡ 0
    → d.bandwidth ≡ c.bandwidth → d.given ≡ record_given c → 5 ≤ length d.lent
    → (d.answer ≡ no 0 0 5) × (entry_given d ≡ c.given) × (drop 5 d.after ≡ drop 5 d.lent)
gave_back c d h k s z b t l =
    let g = read_gives c h in
    let f = write_gives d k in
    let p = entry_passed c.bandwidth c.given (length c.lent) (number entry_answer record_read c g z) in
    let e = t ∙ ap (take 32) g.leaves in
    let q = reads_it c.bandwidth c.given c.lent p in
    let r = gives_back c.bandwidth (take 32 (record_read c.bandwidth c.given c.lent)) c.given d.lent p.narrow s q l in (
      f.answers ∙ rw (b, e) r.0,
      ap (take 5) f.leaves ∙ rw (b, e) r.1,
      ap (drop 5) f.leaves ∙ rw (b, e) r.2,
    )

read_back : (d c : EntryCall) → EntryCallWrites d → EntryCallReads c → Small d.given → d.answer.number ≡ 0
    → c.bandwidth ≡ d.bandwidth → c.given ≡ entry_given d → 32 ≤ length c.lent
    → (c.answer ≡ no 0 0 32) × (record_given c ≡ d.given) × (drop 32 c.after ≡ drop 32 c.lent)
read_back d c k h s z b t l =
    let f = write_gives d k in
    let g = read_gives c h in
    let w = written_reads d.bandwidth d.given d.lent s (number record_answer entry_written d f z) in
    let e = t ∙ ap (take 5) f.leaves in
    let r = reads_exactly d.bandwidth (take 5 (entry_written d.bandwidth d.given d.lent)) c.lent d.given w.0 w.1 l in (
      g.answers ∙ rw (b, e) r.0,
      ap (take 32) g.leaves ∙ rw (b, e) r.1,
      ap (drop 32) g.leaves ∙ rw (b, e) r.2,
    )

accepts_reads : (bw : ℕ) (e w t : List ℕ) → EntryAccepts bw e w t → EntryReads bw e t
accepts_reads bw e w t a = rw a.exactly at (reads_it bw e w (entry_passed bw e (length w) a.number_0))

none_17 : (d : EntryCall) → EntryCallWrites d → Small d.given → d.bandwidth ≤ 2 → (4 ≤ length d.given → word_at d.given 0 ≡ 2007 → ⊥)
    → ((e w : List ℕ) → Small e → EntryAccepts d.bandwidth e w d.given → ⊥) → d.answer.number ≡ 17
none_17 d k s h m n =
    ap (λ (x : Answer). x.number) (write_gives d k).answers
    ∙ refused_17 d.bandwidth d.given (length d.lent) s h m (λ u. n u.0 (replicate 32 0) u.1 (some u))
  where
    some : (u : SomeEntry d.bandwidth d.given) → EntryAccepts d.bandwidth u.0 (replicate 32 0) d.given
    some u =
        let r = reads_exactly d.bandwidth u.0 (replicate 32 0) d.given h u.2 (omega arith) in
        record { number_0 = ap (λ (x : Answer). x.number) r.0; exactly = r.1 }

only_17 : (d : EntryCall) → EntryCallWrites d → d.answer.number ≡ 17 → (e w : List ℕ) → Small e → EntryAccepts d.bandwidth e w d.given → ⊥
only_17 d k z e w s a =
    refused_17_none d.bandwidth d.given (length d.lent) (ap (λ (x : Answer). x.number) (sym (write_gives d k).answers) ∙ z) e
    (accepts_reads d.bandwidth e w d.given a)

pub entries_second : EntriesSecond
entries_second = record {
  reading_is = λ c h. ((read_gives c h).answers, (read_gives c h).leaves);
  gives_resource = gave_resource;
  one_to_one = one_to_one;
  plans_have_values = plan_value;
  values_have_plans = held_by_some;
  writing_gives_back = gave_back;
  reading_gives_back = read_back;
  of_none_refused = none_17;
  only_of_none_refused = only_17;
}

-- ---- overlaps
module _ (c : EntryCall) (h : Overlaps c) (z : c.answer.number ≡ 0) where
  the_number : (overlaps_answer c.bandwidth c.given (length c.lent)).number ≡ 0
  the_number = number overlaps_answer pairs_after c (overlaps_give c h) z

  the_place : c.answer.place ≡ pair_count c.given
  the_place =
      ap (λ (x : Answer). x.place) ((overlaps_give c h).answers ∙ ((list_judged c.bandwidth c.given (length c.lent)).accepted the_number).0)

  reported_is : Reported c.bandwidth c.given c.answer.place c.after
  reported_is = rw (the_place, (overlaps_give c h).leaves) (after_reported c.bandwidth c.given c.lent the_number)

  kept_past : drop (2 * c.answer.place) c.after ≡ drop (2 * c.answer.place) c.lent
  kept_past = rw (the_place, (overlaps_give c h).leaves) (past_kept c.bandwidth c.given c.lent the_number)

  place_most : c.answer.place ≤ 496
  place_most = rw the_place (accepted_most c.bandwidth c.given (length c.lent) the_number)

room_always : (c : EntryCall) → Overlaps c → 992 ≤ length c.lent → c.answer.number ≡ 26 → ⊥
room_always c h l z =
    always_room c.bandwidth c.given (length c.lent) l (ap (λ (x : Answer). x.number) (sym (overlaps_give c h).answers) ∙ z)

pub entries_overlap : EntriesOverlap
entries_overlap = record { are_reported = reported_is; past_kept = kept_past; most = place_most; always_room = room_always }
