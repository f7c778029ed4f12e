-- What the contracts of the C entries leave open: nothing.
use mathlib.Core.Path.{◌≡◌, sym, ◌∙◌}
use lib.ListN.{length}
use Prim.Native.Nat.{◌*◌, ◌/◌}
use Rattle.answer.proofs.Order.{after_answered}
use Rattle.answer.specs.Lists.{filled}
use Rattle.frame_words.specs.Words.{word_count, words_of}
use Rattle.reader.specs.Table.{read_outcome}
use Rattle.reader.specs.Result.{read_answer}
use Rattle.word_bytes.specs.Bytes.{byte_at}
use Rattle.byte_reader.specs.Bytes.{read_bytes}
use Rattle.brachymel.proofs.brachymel_read.Reads as read
use Rattle.brachymel.proofs.brachymel_write.Reads as write
use Rattle.brachymel.proofs.brachymel_list.Reads as list
use Rattle.brachymel.proofs.brachymel_compare.Reads as compare
use Rattle.brachymel.proofs.brachymel_trigger_read.Reads as trigger_read
use Rattle.brachymel.proofs.brachymel_trigger_write.Reads as trigger_write
use Rattle.brachymel.proofs.brachymel_trigger_overlaps.Reads as trigger_overlaps

pub read_agrees : (κs : _) (a : _) (r r' : _) (s s' : _) → read.Post κs a r s → read.Post κs a r' s'
    → (r ≡ r') × (s.1.1.1.0.now ≡ s'.1.1.1.0.now)
read_agrees κs a r r' s s' p q = (p.0 ∙ sym q.0, p.1 ∙ sym q.1)

pub list_agrees : (κs : _) (a : _) (r r' : _) (s s' : _) → list.Post κs a r s → list.Post κs a r' s'
    → (r ≡ r') × (s.1.1.1.0.now ≡ s'.1.1.1.0.now)
list_agrees κs a r r' s s' p q = (p.0 ∙ sym q.0, p.1 ∙ sym q.1)

pub write_agrees : (κs : _) (a : _) (r r' : _) (s s' : _) → write.Post κs a r s → write.Post κs a r' s'
    → (r ≡ r') × ((s.1.1.0.now ≡ s'.1.1.0.now) × (s.1.1.1.0.now ≡ s'.1.1.1.0.now))
write_agrees κs a r r' s s' p q = (p.0 ∙ sym q.0, (p.1.0 ∙ sym q.1.0, p.1.1 ∙ sym q.1.1))

pub compare_agrees : (κs : _) (a : _) (r r' : _) (s s' : _) → compare.Post κs a r s → compare.Post κs a r' s'
    → (r ≡ r') × (s.1.1.1.1.1.1.0.now ≡ s'.1.1.1.1.1.1.0.now)
compare_agrees κs a r r' s s' p q = (p.0 ∙ sym q.0, p.1 ∙ sym q.1)

pub trigger_read_agrees : (κs : _) (a : _) (r r' : _) (s s' : _) → trigger_read.Post κs a r s → trigger_read.Post κs a r' s'
    → (r ≡ r') × (s.1.1.0.now ≡ s'.1.1.0.now)
trigger_read_agrees κs a r r' s s' p q = (p.0 ∙ sym q.0, p.1 ∙ sym q.1)

pub trigger_write_agrees : (κs : _) (a : _) (r r' : _) (s s' : _) → trigger_write.Post κs a r s → trigger_write.Post κs a r' s'
    → (r ≡ r') × (s.1.1.0.now ≡ s'.1.1.0.now)
trigger_write_agrees κs a r r' s s' p q = (p.0 ∙ sym q.0, p.1 ∙ sym q.1)

pub trigger_overlaps_agrees : (κs : _) (a : _) (r r' : _) (s s' : _) → trigger_overlaps.Post κs a r s → trigger_overlaps.Post κs a r' s'
    → (r ≡ r') × (s.1.1.0.now ≡ s'.1.1.0.now)
trigger_overlaps_agrees κs a r r' s s' p q = (p.0 ∙ sym q.0, p.1 ∙ sym q.1)

-- "Every refusal writes nothing"
pub read_keeps : (κs : _) (a : _) (r : _) (s : _) → read.Post κs a r s → (r.number ≡ 0 → ⊥) → s.1.1.1.0.now ≡ a.1.1.1.0.now
unfolding read_bytes read_answer
read_keeps κs a r s p n =
    let x = a.1.0.now in
    let y = a.1.1.0.now in
    let w = a.1.1.1.0.now in
    p.1
    ∙ after_answered (read_outcome a.0 x y (length w / 4)) (word_count a.0 x y) r (filled (byte_at (words_of a.0 x y)) (4 * word_count a.0 x y) w) w
    p.0 n
