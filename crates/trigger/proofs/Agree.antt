-- Any two results, and any two states of a lent buffer, that a public function's contract allows for one input agree.
use mathlib.Core.Path.{◌≡◌, sym, ◌∙◌}
use Rattle.answer.proofs.Agree.{Agrees}
use Rattle.trigger.proofs.info_at.Reads as info_at
use Rattle.trigger.proofs.judge.Reads as judge
use Rattle.trigger.proofs.is_read.Reads as is_read
use Rattle.trigger.proofs.read.Reads as read
use Rattle.trigger.proofs.write.Reads as write

pub info_at_agrees : Agrees info_at.Post
info_at_agrees κs a r r' s s' p q = p ∙ sym q

pub judge_agrees : Agrees judge.Post
judge_agrees κs a r r' s s' p q = p ∙ sym q

pub is_read_agrees : Agrees is_read.Post
is_read_agrees κs a r r' s s' p q = p ∙ sym q

pub read_agrees : (κs : _) (a : _) (r r' : _) (s s' : _) → read.Post κs a r s → read.Post κs a r' s'
    → (r ≡ r') × (s.1.1.0.now ≡ s'.1.1.0.now)
read_agrees κs a r r' s s' p q = (p.0 ∙ sym q.0, p.1 ∙ sym q.1)

pub write_agrees : (κs : _) (a : _) (r r' : _) (s s' : _) → write.Post κs a r s → write.Post κs a r' s'
    → (r ≡ r') × (s.1.1.0.now ≡ s'.1.1.0.now)
write_agrees κs a r r' s s' p q = (p.0 ∙ sym q.0, p.1 ∙ sym q.1)
