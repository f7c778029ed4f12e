-- The engine's channels are any channels that read to the words: `Worked`, of all words.
use mathlib.Core.Path.{◌≡◌, refl, subst}
use mathlib.Core.Bool.{Bool, true, false, cond}
use mathlib.Core.List.{List}
use Prim.Native.Nat.{ℕ}
use native.Mathlib.Omega.{arith}
use lib.ListN.{length}
use Rattle.answer.specs.Decides.{Decides}
use Rattle.channel.specs.Layout.{present, count}
use Rattle.candidate.specs.Length.{bytes_for}
use Rattle.candidate.proofs.Parts.{candidate_small}
use Rattle.candidate.proofs.Held.{present_length, absent_length}
use Rattle.writer.specs.Worked.{ReadsTo, SomeRead, SameThenZero, the_channel, the_bytes, some_read, Worked}
use Rattle.writer.proofs.Candidate.{reads_to_says, says_reads_to, candidate_reads, same_1, same_2, zero_1, zero_2, needed_of}

module _ (bw : ℕ) (w : List ℕ) where
  decided : Decides (some_read bw w) (SomeRead bw w)
  unfolding some_read
  decided = record {
    yes = λ e. (the_channel bw w 1, the_channel bw w 2, candidate_small bw w 1, candidate_small bw w 2, reads_to_says bw _ _ w e);
    no = λ e h. differ (says_reads_to bw _ _ w (candidate_reads bw h.0 h.1 w h.4)) e;
  }
    where
      differ : {t : Bool} → t ≡ true → t ≡ false → ⊥
      differ e f = let z : ◌≡◌ {A = ℕ} 0 1 = cc in omega arith

  first : (a b : List ℕ) → ReadsTo bw a b w → SameThenZero bw 1 a (the_channel bw w 1)
  first a b r =
      subst (λ (v : List ℕ). SameThenZero bw 1 a (the_channel bw v 1)) r.the_words
      (record { same = same_1 bw a b r.accepted; zero_past = zero_1 bw a b r.accepted })

  second : (a b : List ℕ) → ReadsTo bw a b w → present bw 2 ≡ true → SameThenZero bw 2 b (the_channel bw w 2)
  second a b r p =
      subst (λ (v : List ℕ). SameThenZero bw 2 b (the_channel bw v 2)) r.the_words
      (record { same = same_2 bw a b r.accepted p; zero_past = zero_2 bw a b r.accepted p })

  bytes : (a b : List ℕ) → ReadsTo bw a b w → the_bytes bw w ≡ bytes_for bw (count bw 1 a) (count bw 2 b)
  bytes a b r = subst (λ (v : List ℕ). the_bytes bw v ≡ bytes_for bw (count bw 1 a) (count bw 2 b)) r.the_words (needed_of bw a b r.accepted)

  long : (c : ℕ) → length (the_channel bw w c) ≡ cond (present bw c) (the_bytes bw w) 0
  long c = go (present bw c) refl
    where
      go : (t : Bool) → present bw c ≡ t → length (the_channel bw w c) ≡ cond t (the_bytes bw w) 0
      go true e = present_length bw w c e
      go false e = absent_length bw w c e

  pub worked : Worked bw w
  worked = record {
    some_read_fact = decided;
    these = λ a b r. candidate_reads bw a b w r;
    same_1 = first;
    same_2 = second;
    the_bytes_fact = bytes;
    as_long = long;
  }
