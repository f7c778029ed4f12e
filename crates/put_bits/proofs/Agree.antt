-- What the contracts of `put_field` and `put_eight` leave open: nothing.
use mathlib.Core.Path.{◌≡◌, sym, ◌∙◌}
use Rattle.put_bits.proofs.put_field.Reads as put_field
use Rattle.put_bits.proofs.put_eight.Reads as put_eight

pub put_field_agrees : (κs : _) (a : _) (r r' : _) (s s' : _) → put_field.Post κs a r s → put_field.Post κs a r' s' → s.0.now ≡ s'.0.now
put_field_agrees κs a r r' s s' p q = p ∙ sym q

pub put_eight_agrees : (κs : _) (a : _) (r r' : _) (s s' : _) → put_eight.Post κs a r s → put_eight.Post κs a r' s' → s.0.now ≡ s'.0.now
put_eight_agrees κs a r r' s s' p q = p ∙ sym q
