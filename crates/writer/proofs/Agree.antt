-- What the contracts of `write` and `write_bytes` leave open: nothing.
use mathlib.Core.Path.{◌≡◌, sym, ◌∙◌}
use lib.ListN.{length}
use Rattle.answer.proofs.Order.{after_answered}
use Rattle.candidate.specs.Engine.{needed, candidate}
use Rattle.writer.specs.Result.{write_outcome, front, write_answer, channel_after}
use Rattle.writer.proofs.write.Reads as write
use Rattle.writer.proofs.write_bytes.Reads as write_bytes

-- any two answers, and any two states of both lent channels afterwards, that `write` allows for one input
pub write_agrees : (κs : _) (a : _) (r r' : _) (s s' : _) → write.Post κs a r s → write.Post κs a r' s'
    → (r ≡ r') × (s.1.1.0.now ≡ s'.1.1.0.now) × (s.1.1.1.0.now ≡ s'.1.1.1.0.now)
write_agrees κs a r r' s s' p q = (p.0 ∙ sym q.0, p.1.0 ∙ sym q.1.0, p.1.1 ∙ sym q.1.1)

-- the same of words that are lent as bytes
pub write_bytes_agrees : (κs : _) (a : _) (r r' : _) (s s' : _) → write_bytes.Post κs a r s → write_bytes.Post κs a r' s'
    → (r ≡ r') × (s.1.1.0.now ≡ s'.1.1.0.now) × (s.1.1.1.0.now ≡ s'.1.1.1.0.now)
write_bytes_agrees κs a r r' s s' p q = (p.0 ∙ sym q.0, p.1.0 ∙ sym q.1.0, p.1.1 ∙ sym q.1.1)

-- "Every refusal writes nothing": with any number but 0 both lent channels are as they were
pub write_keeps : (κs : _) (a : _) (r : _) (s : _) → write.Post κs a r s → (r.number ≡ 0 → ⊥)
    → (s.1.1.0.now ≡ a.1.1.0.now) × (s.1.1.1.0.now ≡ a.1.1.1.0.now)
unfolding write_answer channel_after
write_keeps κs a r s p n =
    let bw = a.0 in
    let w = a.1.0.now in
    let x = a.1.1.0.now in
    let y = a.1.1.1.0.now in
    let o = write_outcome bw w (length x) (length y) in (
      p.1.0 ∙ after_answered o (needed bw w) r (front (candidate bw w 1) x) x p.0 n,
      p.1.1 ∙ after_answered o (needed bw w) r (front (candidate bw w 2) y) y p.0 n,
    )
