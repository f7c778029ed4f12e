-- What the contracts of the listing say.
use mathlib.Core.Path.{◌≡◌, refl, sym, ◌∙◌}
use mathlib.Core.Bool.{Bool, true, false}
use mathlib.Core.List.{List, ◌++◌}
use mathlib.Core.Logic.{◌⊎◌, inl, inr}
use Prim.Native.Nat.{ℕ, ◌+◌}
use borrow.Author.Tests.{le-ltb}
use lib.Dec.{ltb}
use lib.ListN.{length, take, drop, get_or}
use lib.Seq.{take-append_seam}
use Rattle.answer.specs.Answer.{◌or◌}
use Rattle.answer.proofs.Order.{after_kept}
use Rattle.answer.specs.declared.Answer.{Answer}
use Rattle.answer.specs.declared.Refusal.{Refusal}
use Rattle.answer.specs.Answer.{answer_of}
use Rattle.std.specs.Prelude.{Ok, Err}
use Rattle.text.specs.Text.{upto}
use Rattle.channel.specs.Layout.{row, count}
use Rattle.records.specs.Records.{blank}
use Rattle.halves.specs.Table.{outcome11}
use Rattle.frame_words.specs.Words.{word_count}
use Rattle.reader.specs.Table.{check12, no_room}
use Rattle.frame_words.proofs.Counted.{word_count_le}
use Rattle.reader.proofs.Stages.{read_outcome_stages}
use Rattle.reader.specs.Result.{read_answer}
use Rattle.lines.specs.Lines.{head_text}
use Rattle.listed.specs.Listing.{record_line, resources, ru_lines, sta_line_at, sta_lines, stations_in, listing_of, listing}
use Rattle.listed.specs.Listing.{check23, list_outcome, list_answer, list_after}
use Rattle.listing.proofs.list.Reads as list

-- ---- any two results that a contract allows for one input agree
pub list_agrees : (κs : _) (a : _) (r r' : _) (s s' : _) → list.Post κs a r s → list.Post κs a r' s'
    → (r ≡ r') × (s.1.1.1.0.now ≡ s'.1.1.1.0.now)
list_agrees κs a r r' s s' p q = (p.0 ∙ sym q.0, p.1 ∙ sym q.1)

-- ---- "Every refusal writes nothing"
pub list_kept : (bw : ℕ) (a b d : List ℕ) → ((list_answer bw a b (length d)).number ≡ 0 → ⊥) → list_after bw a b d ≡ d
unfolding list_answer list_after
list_kept bw a b d h = after_kept (list_outcome bw a b (length d)) (length (listing bw a b)) _ d h

-- accepted, the text stands at the front of the buffer
pub list_text : (bw : ℕ) (a b d : List ℕ) → list_outcome bw a b (length d) ≡ Ok tt
    → take (list_answer bw a b (length d)).place (list_after bw a b d) ≡ listing bw a b
unfolding list_answer list_after
list_text bw a b d e = rw e (take-append_seam (listing bw a b) (drop (length (listing bw a b)) d))

-- ---- 1 to 11 as the reader: `list` refuses with one of them exactly when `read` with room for 154 words does
pub read_refuses : (bw : ℕ) (a b : List ℕ) (x : Refusal) → outcome11 bw a b ≡ Err x → read_answer bw a b 154 ≡ answer_of x
unfolding read_answer
read_refuses bw a b x e = rw (read_outcome_stages bw a b 154, e)

pub read_accepts : (bw : ℕ) (a b : List ℕ) → outcome11 bw a b ≡ Ok tt → (read_answer bw a b 154).number ≡ 0
unfolding read_answer check12 no_room
read_accepts bw a b e = rw (read_outcome_stages bw a b 154, e, le-ltb 154 (word_count bw a b) (word_count_le bw a b))

pub list_refuses : (bw : ℕ) (a b : List ℕ) (room : ℕ) (x : Refusal) → outcome11 bw a b ≡ Err x → list_answer bw a b room ≡ answer_of x
unfolding list_answer list_outcome
list_refuses bw a b room x e = rw e

pub list_accepts : (bw : ℕ) (a b : List ℕ) (room : ℕ) → outcome11 bw a b ≡ Ok tt
    → ((list_answer bw a b room).number ≡ 0) ⊎ ((list_answer bw a b room).number ≡ 23)
unfolding list_answer list_outcome check23
list_accepts bw a b room e = go (ltb room (length (listing bw a b))) refl
  where
    go : (t : Bool) → ltb room (length (listing bw a b)) ≡ t
        → ((list_answer bw a b room).number ≡ 0) ⊎ ((list_answer bw a b room).number ≡ 23)
    go true f = inr (rw (e, f))
    go false f = inl (rw (e, f))

-- ---- the k-th `ru=` line is the k-th record's, the i-th `sta=` line is the i-th User field's (`listed/proofs/Stations.antt`)
pub listing_lines : (bw : ℕ) (a b : List ℕ)
    → listing bw a b
    ≡ head_text bw (length (resources (row bw a b))) (count bw 1 a) (count bw 2 b) (stations_in bw a b (count bw 1 a) (count bw 1 a + count bw 2 b))
    ++ upto (λ k. record_line (length (row bw a b)) (get_or (resources (row bw a b)) k blank)) (length (resources (row bw a b)))
    ++ upto (sta_line_at bw (row bw a b) a b (count bw 1 a)) (count bw 1 a + count bw 2 b)
unfolding listing listing_of ru_lines sta_lines
listing_lines bw a b = refl
