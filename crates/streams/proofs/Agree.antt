-- Any two results, and any two states of the lent bytes, that the contract allows for one input agree.
use mathlib.Core.Path.{◌≡◌, sym, ◌∙◌}
use Rattle.streams.proofs.streams.Reads as streams

pub streams_agrees : (κs : _) (a : _) (r r' : _) (s s' : _) → streams.Post κs a r s → streams.Post κs a r' s'
    → (r ≡ r') × (s.1.1.1.0.now ≡ s'.1.1.1.0.now)
streams_agrees κs a r r' s s' p q = (p.0 ∙ sym q.0, p.1 ∙ sym q.1)
