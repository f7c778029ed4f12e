-- Writing is the inverse of reading, of the contracts of `read` and `write`.
--
-- The user: "Writing those words gives the same channels back, padding zero, up to the end of the longer channel's last
-- block. Words that no accepted pair of channels reads to are refused."
use mathlib.Core.Path.{◌≡◌, refl, sym, ◌∙◌, ap}
use mathlib.Core.Bool.{Bool, true, false, cond, not}
use mathlib.Core.List.{List, ◌++◌}
use Prim.Native.Nat.{ℕ, ◌≤◌, ◌<◌}
use native.Mathlib.Omega.{arith}
use lib.ListN.{length, get_or, take, drop}
use lib.Seq.{take_at}
use borrow.Author.Tests.{le-ltb}
use Rattle.answer.specs.Answer as A
use Rattle.answer.specs.Answer.{refuse_if, answer_at}
use Rattle.answer.specs.Order.{Applies}
use Rattle.answer.specs.declared.Answer.{Answer}
use Rattle.answer.specs.Answer.{Outcome}
use Rattle.std.specs.Prelude.{Ok, Err}
use Rattle.answer.proofs.Order.{if_pass, pass_not_refuse}
use Rattle.answer.specs.declared.Refusal.TheVariants.{NoFrameReads}
use Rattle.bits.specs.Bits.{Small}
use Rattle.channel.specs.Layout.{present, count}
use Rattle.channel.proofs.Laws.{present_1}
use Rattle.halves.specs.Table.{check1}
use Rattle.frame_words.specs.Words.{word_count, SameFrame}
use Rattle.frame_words.proofs.Determine.{words_length, words_determine}
use Rattle.reader.specs.Result as R
use Rattle.reader.proofs.read.Reads as read
use Rattle.candidate.specs.Engine.{needed, candidate}
use Rattle.candidate.specs.Length.{bytes_for}
use Rattle.candidate.proofs.Held.{present_length}
use Rattle.candidate.proofs.Parts.{candidate_small}
use Rattle.judge.specs.Engine.{reads_to}
use Rattle.writer.specs.Worked.{ReadsTo, some_read}
use Rattle.writer.specs.Result.{check13, write_outcome, write_checks, write_answer}
use Rattle.writer.proofs.Candidate.{reads_to_says, says_reads_to, candidate_reads, accepted_known}
use Rattle.writer.proofs.Exactly as W
use Rattle.writer.proofs.write.Reads as write
use Rattle.writer.specs.Inverse.{Accepts, GivenBack}
use Rattle.writer.proofs.Reading.{read_place, read_words, accepts_reads, reads_pass, reads_accepts}
use Rattle.writer.proofs.Writing.{pass_reads, written, second_length, given_back}

-- Channels that `read` accepts, and `write` of exactly the words that it gave, with enough room: the same channels back,
-- zero from their own ends on, both of the bytes that the longer one needs, and nothing else changed.
pub write_after_read : (κs : _) (a : _) (r : _) (s : _) (κs' : _) (a' : _) (r' : _) (s' : _)
    → read.Post κs a r s → write.Post κs' a' r' s'
    → r.number ≡ 0
    → a'.0 ≡ a.0
    → a'.1.0.now ≡ take r.place s.1.1.1.0.now
    → bytes_for a.0 (count a.0 1 a.1.0.now) (count a.0 2 a.1.1.0.now) ≤ length a'.1.1.0.now
    → (present a.0 2 ≡ true → bytes_for a.0 (count a.0 1 a.1.0.now) (count a.0 2 a.1.1.0.now) ≤ length a'.1.1.1.0.now)
    → GivenBack a.0 a.1.0.now a.1.1.0.now a'.1.1.0.now a'.1.1.1.0.now s'.1.1.0.now s'.1.1.1.0.now r'
write_after_read κs a r s κs' a' r' s' p q z eb ew l m =
    let bw = a.0 in
    let c1 = a.1.0.now in
    let c2 = a.1.1.0.now in
    let w₀ = a.1.1.1.0.now in
    let x = a'.1.1.0.now in
    let y = a'.1.1.1.0.now in
    let h : ReadsTo bw c1 c2 a'.1.0.now =
    accepts_reads bw c1 c2 w₀ a'.1.0.now
    (record {
      number_0 = ap (λ (t : Answer). t.number) (sym p.0) ∙ z;
      exactly = ap (λ (t : Answer). take t.place (R.words_after bw c1 c2 w₀)) (sym p.0) ∙ ap (take r.place) (sym p.1) ∙ sym ew;
    }) in
    let v = sym h.the_words in
    given_back bw c1 c2 h.accepted x y s'.1.1.0.now s'.1.1.1.0.now r' l m
    (q.0 ∙ rw (eb, v))
    (q.1.0 ∙ rw (eb, v))
    (q.1.1 ∙ rw (eb, v))

-- ---- (b) read after write

front_take : (s d : List ℕ) (n : ℕ) → length s ≡ n → take n (s ++ drop (length s) d) ≡ s
front_take s d n l = take_at s (drop (length s) d) n l

-- What `write` accepted, read from the bytes that it wrote (none of channel 2 at 20 MHz) with room for the words, is
-- accepted with exactly these words.
pub read_after_write : (κs : _) (a : _) (r : _) (s : _) (κs' : _) (a' : _) (r' : _) (s' : _)
    → write.Post κs a r s → read.Post κs' a' r' s'
    → r.number ≡ 0
    → a'.0 ≡ a.0
    → a'.1.0.now ≡ take r.place s.1.1.0.now
    → a'.1.1.0.now ≡ take (cond (present a.0 2) r.place 0) s.1.1.1.0.now
    → length a.1.0.now ≤ length a'.1.1.1.0.now
    → (r' ≡ A.no 0 0 (length a.1.0.now)) × (take (length a.1.0.now) s'.1.1.1.0.now ≡ a.1.0.now)
unfolding write_answer
read_after_write κs a r s κs' a' r' s' p q z eb e1 e2 l =
    let bw = a.0 in
    let w = a.1.0.now in
    let x = a.1.1.0.now in
    let y = a.1.1.1.0.now in
    let w₀ = a'.1.1.1.0.now in
    let c1 = candidate bw w 1 in
    let c2 = candidate bw w 2 in
    let o : write_outcome bw w (length x) (length y) ≡ Ok tt =
    W.accepted_exactly bw w (length x) (length y) (ap (λ (t : Answer). t.number) (sym p.0) ∙ z) in
    let k : r.place ≡ needed bw w = ap (λ (t : Answer). t.place) (p.0 ∙ ap (λ (o : Outcome). answer_at o (needed bw w)) o) in
    let f1 : a'.1.0.now ≡ c1 =
    e1
    ∙ ap (take r.place) (p.1.0 ∙ written bw w (length x) (length y) 1 x o)
    ∙ front_take c1 x r.place (present_length bw w 1 (present_1 bw) ∙ sym k) in
    let f2 : a'.1.1.0.now ≡ c2 =
    e2
    ∙ ap (take (cond (present bw 2) r.place 0)) (p.1.1 ∙ written bw w (length x) (length y) 2 y o)
    ∙ front_take c2 y (cond (present bw 2) r.place 0) (second_length bw w r.place k) in
    let h = pass_reads bw w (length x) (length y) o in
    let v = reads_pass bw c1 c2 w (length w₀) h l in
    let n : word_count bw c1 c2 ≡ length w = sym (words_length bw c1 c2) ∙ ap length h.the_words in (
      q.0 ∙ rw (eb, f1, f2) (read_place bw c1 c2 (length w₀) v ∙ ap (A.no 0 0) n),
      ap (take (length w)) (q.1 ∙ rw (eb, f1, f2)) ∙ ap (λ (j : ℕ). take j (R.words_after bw c1 c2 w₀)) (sym n) ∙ read_words bw c1 c2 w₀ v ∙ h.the_words,
    )

-- ---- (c) 13

-- 13 is given: then no channels, of any lengths and with any room, are read to exactly these words
pub thirteen_none : (κs : _) (a : _) (r : _) (s : _) → write.Post κs a r s → r.number ≡ 13
    → (x y w₀ : List ℕ) → Accepts a.0 x y w₀ a.1.0.now → ⊥
unfolding check13 some_read
thirteen_none κs a r s p z x y w₀ h =
    let bw = a.0 in
    let w = a.1.0.now in
    let n = length a.1.1.0.now in
    let m = length a.1.1.1.0.now in
    let d = W.refused_exactly bw w n m 1 (omega arith) (ap (λ (t : Answer). t.number) (sym p.0) ∙ z) in
    let t = says_reads_to bw (candidate bw w 1) (candidate bw w 2) w (candidate_reads bw x y w (accepts_reads bw x y w₀ w h)) in
    pass_not_refuse (if_pass _ NoFrameReads (ap not t)) d.applies.refuses

first_passes : (bw : ℕ) → bw ≤ 4 → check1 bw ≡ Ok tt
unfolding check1
first_passes bw l = if_pass _ _ (le-ltb 4 bw l)

second_refuses : (bw : ℕ) (w : List ℕ) → (ReadsTo bw (candidate bw w 1) (candidate bw w 2) w → ⊥) → check13 bw w ≡ Err NoFrameReads
unfolding check13 some_read
second_refuses bw w h = go (reads_to bw (candidate bw w 1) (candidate bw w 2) w) refl
  where
    go : (t : Bool) → reads_to bw (candidate bw w 1) (candidate bw w 2) w ≡ t → refuse_if (not t) NoFrameReads ≡ Err NoFrameReads
    go true e = absurd (h (reads_to_says bw (candidate bw w 1) (candidate bw w 2) w e))
    go false e = refl

thirteen_applies : (bw : ℕ) (w : List ℕ) (n m : ℕ) → bw ≤ 4 → (ReadsTo bw (candidate bw w 1) (candidate bw w 2) w → ⊥)
    → Applies (write_checks bw w n m) 1 NoFrameReads
thirteen_applies bw w n m l h = record { refuses = second_refuses bw w h; nothing_earlier = λ j k. go j k }
  where
    go : (j : ℕ) → j < 1 → get_or (write_checks bw w n m) j (Ok tt) ≡ Ok tt
    go j k = let z : j ≡ 0 = omega arith in rw z (first_passes bw l)

-- and it is given where there are none, for every bandwidth code up to 4
pub none_thirteen : (κs : _) (a : _) (r : _) (s : _) → write.Post κs a r s → a.0 ≤ 4
    → ((x y w₀ : List ℕ) → Small x → Small y → Accepts a.0 x y w₀ a.1.0.now → ⊥) → r.number ≡ 13
none_thirteen κs a r s p l h =
    let bw = a.0 in
    let w = a.1.0.now in
    let n = length a.1.1.0.now in
    let m = length a.1.1.1.0.now in
    let d =
    thirteen_applies bw w n m l
    (λ t.
    h (candidate bw w 1) (candidate bw w 2) w (candidate_small bw w 1) (candidate_small bw w 2)
    (reads_accepts bw (candidate bw w 1) (candidate bw w 2) w w t (omega arith))) in
    ap (λ (t : Answer). t.number) (p.0 ∙ (W.applies_exactly bw w n m 1 NoFrameReads d).0)

-- ---- (d) equal words

-- Two frames that `read` accepts with the same words, each as many as its answer counts, have the same bandwidth, row,
-- overflow and User fields.
pub equal_words : (κs : _) (a : _) (r : _) (s : _) (κs' : _) (a' : _) (r' : _) (s' : _)
    → read.Post κs a r s → read.Post κs' a' r' s'
    → r.number ≡ 0 → r'.number ≡ 0
    → take r.place s.1.1.1.0.now ≡ take r'.place s'.1.1.1.0.now
    → SameFrame a.0 a.1.0.now a.1.1.0.now a'.0 a'.1.0.now a'.1.1.0.now
equal_words κs a r s κs' a' r' s' p p' z z' e =
    let h = reads_of κs a r s p z in
    let h' = reads_of κs' a' r' s' p' z' in
    words_determine a.0 a'.0 _ _ _ _
    (accepted_known a.0 _ _ h.accepted) (accepted_known a'.0 _ _ h'.accepted)
    (h.the_words ∙ e ∙ sym h'.the_words)
  where
    reads_of : (κs : _) (a : _) (r : _) (s : _) → read.Post κs a r s → r.number ≡ 0
        → ReadsTo a.0 a.1.0.now a.1.1.0.now (take r.place s.1.1.1.0.now)
    reads_of κs a r s p z =
        accepts_reads a.0 a.1.0.now a.1.1.0.now a.1.1.1.0.now (take r.place s.1.1.1.0.now)
        (record {
          number_0 = ap (λ (t : Answer). t.number) (sym p.0) ∙ z;
          exactly =
              ap (λ (t : Answer). take t.place (R.words_after a.0 a.1.0.now a.1.1.0.now a.1.1.1.0.now)) (sym p.0)
              ∙ ap (take r.place) (sym p.1);
        })
