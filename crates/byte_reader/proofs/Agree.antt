-- What the contract of `read` leaves open: nothing.
use mathlib.Core.Path.{◌≡◌, sym, ◌∙◌}
use Rattle.byte_reader.proofs.read.Reads as read

-- any two answers, and any two states of the lent bytes afterwards, that it allows for one input
pub read_agrees : (κs : _) (a : _) (r r' : _) (s s' : _) → read.Post κs a r s → read.Post κs a r' s'
    → (r ≡ r') × (s.1.1.1.0.now ≡ s'.1.1.1.0.now)
read_agrees κs a r r' s s' p q = (p.0 ∙ sym q.0, p.1 ∙ sym q.1)
