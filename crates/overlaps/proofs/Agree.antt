-- Any two answers, and any two states of the lent pairs, that `overlaps`'s contract allows for one input agree.
use mathlib.Core.Path.{◌≡◌, sym, ◌∙◌}
use Rattle.overlaps.proofs.overlaps.Reads as overlaps

pub overlaps_agrees : (κs : _) (a : _) (r r' : _) (s s' : _) → overlaps.Post κs a r s → overlaps.Post κs a r' s'
    → (r ≡ r') × (s.1.1.0.now ≡ s'.1.1.0.now)
overlaps_agrees κs a r r' s s' p q = (p.0 ∙ sym q.0, p.1 ∙ sym q.1)
