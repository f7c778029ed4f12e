-- What the contracts of the reader's public functions leave open: nothing.
use mathlib.Core.Path.{◌≡◌, sym, ◌∙◌}
use lib.ListN.{length, drop}
use mathlib.Core.List.{◌++◌}
use Rattle.answer.proofs.Order.{after_answered}
use Rattle.frame_words.specs.Words.{word_count, words_of}
use Rattle.reader.specs.Table.{read_outcome}
use Rattle.reader.specs.Result.{read_answer, words_after}
use Rattle.reader.proofs.read.Reads as read

-- any two answers, and any two states of the lent words afterwards, that `read` allows for one input
pub read_agrees : (κs : _) (a : _) (r r' : _) (s s' : _) → read.Post κs a r s → read.Post κs a r' s'
    → (r ≡ r') × (s.1.1.1.0.now ≡ s'.1.1.1.0.now)
read_agrees κs a r r' s s' p q = (p.0 ∙ sym q.0, p.1 ∙ sym q.1)

-- "Every refusal writes nothing": with any number but 0 the lent words are as they were
pub read_keeps : (κs : _) (a : _) (r : _) (s : _) → read.Post κs a r s → (r.number ≡ 0 → ⊥) → s.1.1.1.0.now ≡ a.1.1.1.0.now
unfolding read_answer words_after
read_keeps κs a r s p n =
    let bw = a.0 in
    let x = a.1.0.now in
    let y = a.1.1.0.now in
    let w = a.1.1.1.0.now in
    p.1 ∙ after_answered (read_outcome bw x y (length w)) (word_count bw x y) r (words_of bw x y ++ drop (word_count bw x y) w) w p.0 n
