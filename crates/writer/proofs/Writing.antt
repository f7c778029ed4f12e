-- What `write` gives, from its contract's equations: where it passes, and what both lent channels then hold.
use mathlib.Core.Path.{◌≡◌, refl, sym, ◌∙◌, ap}
use mathlib.Core.Bool.{Bool, true, false, cond, not, ◌&&◌}
use mathlib.Core.List.{List, [], ◌∷◌, ◌++◌}
use Prim.Native.Nat.{ℕ, ◌*◌, ◌/◌, ◌≤◌, ◌<◌}
use native.Mathlib.Omega.{arith}
use lib.Dec.{ltb}
use lib.ListN.{length, drop, get_or-append}
use lib.Seq.{drop_at}
use borrow.Author.Tests.{le-ltb, not-false}
use Rattle.answer.specs.Answer as A
use Rattle.answer.specs.declared.Answer.{Answer}
use Rattle.std.specs.Prelude.{Ok}
use Rattle.answer.proofs.Order.{pass_left, pass_right, or_pass, pass_if, if_pass}
use Rattle.bits.specs.Bits.{bit, Same}
use Rattle.channel.specs.Layout.{present, count, end_of}
use Rattle.channel.proofs.Laws.{present_1}
use Rattle.halves.specs.Table.{check1, outcome11}
use Rattle.frame_words.specs.Words.{words_of}
use Rattle.candidate.specs.Engine.{needed, candidate}
use Rattle.candidate.specs.Length.{bytes_for}
use Rattle.candidate.proofs.Held.{present_length, absent_length}
use Rattle.writer.specs.Worked.{ReadsTo, some_read}
use Rattle.writer.specs.Result.{check13, check14, write_outcome, front, write_answer, channel_after}
use Rattle.writer.specs.Room.{no_channel_room}
use Rattle.writer.proofs.Candidate.{reads_to_says, says_reads_to, candidate_reads, accepted_known}
use Rattle.writer.proofs.Candidate.{same_1, same_2, zero_1, zero_2, reach_1, reach_2, needed_of}
use Rattle.writer.specs.Inverse.{Given, GivenBack}

-- ---- writing, from its contract's equations

write_outcome_pass : (bw : ℕ) (w : List ℕ) (n m : ℕ) → bw ≤ 4 → ReadsTo bw (candidate bw w 1) (candidate bw w 2) w
    → needed bw w ≤ n → (present bw 2 ≡ true → needed bw w ≤ m) → write_outcome bw w n m ≡ Ok tt
unfolding write_outcome check1 check13 some_read check14 no_channel_room
write_outcome_pass bw w n m l h p q =
    or_pass _ _
    (or_pass _ _
    (if_pass _ _ (le-ltb 4 bw l))
    (if_pass _ _ (ap not (says_reads_to bw (candidate bw w 1) (candidate bw w 2) w h))))
    (or_pass _ _
    (if_pass _ _ (le-ltb n (needed bw w) p))
    (if_pass _ _ (go (present bw 2) refl)))
  where
    go : (t : Bool) → present bw 2 ≡ t → (t && ltb m (needed bw w)) ≡ false
    go true e = le-ltb m (needed bw w) (q e)
    go false e = refl

pub pass_reads : (bw : ℕ) (w : List ℕ) (n m : ℕ) → write_outcome bw w n m ≡ Ok tt → ReadsTo bw (candidate bw w 1) (candidate bw w 2) w
unfolding write_outcome check13 some_read
pass_reads bw w n m e =
    let f = pass_right (check1 bw) _ (pass_left _ (check14 bw w n m) e) in
    reads_to_says bw (candidate bw w 1) (candidate bw w 2) w (not-false _ (pass_if _ _ f))

pub written : (bw : ℕ) (w : List ℕ) (n m c : ℕ) (d : List ℕ) → write_outcome bw w n m ≡ Ok tt
    → channel_after bw w n m c d ≡ candidate bw w c ++ drop (length (candidate bw w c)) d
unfolding channel_after front
written bw w n m c d e = rw e

bit_front : (s t : List ℕ) (i : ℕ) → i < 8 * length s → bit (s ++ t) i ≡ bit s i
unfolding bit
bit_front s t i l = rw (get_or-append s t 0 (i / 8) (omega arith))

module _ (bw : ℕ) (w : List ℕ) where
  given : (c : ℕ) (s d d' : List ℕ) → length (candidate bw w c) ≡ needed bw w
      → end_of bw (count bw c s) ≤ 8 * needed bw w
      → Same s (candidate bw w c) (end_of bw (count bw c s))
      → ((i : ℕ) → end_of bw (count bw c s) ≤ i → bit (candidate bw w c) i ≡ 0)
      → d' ≡ candidate bw w c ++ drop (length (candidate bw w c)) d
      → Given bw c s d d' (needed bw w)
  given c s d d' l m p q e =
      record {
        same = λ i k. rw e (bit_front (candidate bw w c) (drop (length (candidate bw w c)) d) i (omega arith) ∙ sym (p.same i k));
        zero_past = λ i k j. rw e (bit_front (candidate bw w c) (drop (length (candidate bw w c)) d) i (omega arith) ∙ q i k);
        kept = rw (e, l) (drop_at (candidate bw w c) (drop (needed bw w) d) (needed bw w) l);
      }

  nothing : (d d' : List ℕ) → length (candidate bw w 2) ≡ 0 → d' ≡ candidate bw w 2 ++ drop (length (candidate bw w 2)) d → d' ≡ d
  nothing d d' l e = e ∙ ap (λ (k : ℕ). candidate bw w 2 ++ drop k d) l ∙ none (candidate bw w 2) l
    where
      none : (s : List ℕ) → length s ≡ 0 → s ++ d ≡ d
      none [] z = refl
      none (t ∷ ts) z = absurd (omega arith)

  pub second_length : (j : ℕ) → j ≡ needed bw w → length (candidate bw w 2) ≡ cond (present bw 2) j 0
  second_length j k = go (present bw 2) refl
    where
      go : (t : Bool) → present bw 2 ≡ t → length (candidate bw w 2) ≡ cond t j 0
      go true e = present_length bw w 2 e ∙ sym k
      go false e = absent_length bw w 2 e

module _ (bw : ℕ) (a b : List ℕ) (e : outcome11 bw a b ≡ Ok tt) where
  abbrev bytes : ℕ
  bytes = bytes_for bw (count bw 1 a) (count bw 2 b)

  pub given_back : (x y x' y' : List ℕ) (r : Answer)
      → bytes ≤ length x → (present bw 2 ≡ true → bytes ≤ length y)
      → r ≡ write_answer bw (words_of bw a b) (length x) (length y)
      → x' ≡ channel_after bw (words_of bw a b) (length x) (length y) 1 x
      → y' ≡ channel_after bw (words_of bw a b) (length x) (length y) 2 y
      → GivenBack bw a b x y x' y' r
  unfolding write_answer
  given_back x y x' y' r l m er ex ey =
      let w = words_of bw a b in
      let n : needed bw w ≡ bytes = needed_of bw a b e in
      let o : write_outcome bw w (length x) (length y) ≡ Ok tt =
      write_outcome_pass bw w (length x) (length y) (accepted_known bw a b e)
      (candidate_reads bw a b w (record { accepted = e; the_words = refl }))
      (rw n l) (λ p. rw n (m p)) in
      let z : r ≡ A.no 0 0 (needed bw w) = er ∙ rw o in
      let fx = ex ∙ written bw w (length x) (length y) 1 x o in
      let fy = ey ∙ written bw w (length x) (length y) 2 y o in
      rw z
      (record {
        answered = rw n;
        channel_1 = given bw w 1 a x x' (present_length bw w 1 (present_1 bw)) (reach_1 bw a b e) (same_1 bw a b e) (zero_1 bw a b e) fx;
        channel_2 = λ p. given bw w 2 b y y' (present_length bw w 2 p) (reach_2 bw a b e) (same_2 bw a b e p) (zero_2 bw a b e p) fy;
        untouched = λ p. nothing bw w y y' (absent_length bw w 2 p) fy;
      })
