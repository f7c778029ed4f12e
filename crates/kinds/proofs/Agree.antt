-- Any two results that a public function's contract allows for one input agree: each contract is an equation.
use mathlib.Core.Path.{◌≡◌, sym, ◌∙◌}
use Rattle.kinds.proofs.value_at.Reads as value_at
use Rattle.kinds.proofs.family_of.Reads as family_of
use Rattle.kinds.proofs.span_of.Reads as span_of
use Rattle.kinds.proofs.mask_of.Reads as mask_of
use Rattle.kinds.proofs.takes_place.Reads as takes_place
use Rattle.kinds.proofs.blank_of.Reads as blank_of
use Rattle.kinds.proofs.place_in.Reads as place_in
use Rattle.kinds.proofs.start_of.Reads as start_of
use Rattle.kinds.proofs.fields_in.Reads as fields_in
use Rattle.kinds.proofs.total_of.Reads as total_of

pub value_at_agrees : (κs : _) (a : _) (r r' : _) (s s' : _) → value_at.Post κs a r s → value_at.Post κs a r' s' → r ≡ r'
value_at_agrees κs a r r' s s' p q = p ∙ sym (q)

pub family_of_agrees : (κs : _) (a : _) (r r' : _) (s s' : _) → family_of.Post κs a r s → family_of.Post κs a r' s' → r ≡ r'
family_of_agrees κs a r r' s s' p q = p ∙ sym (q)

pub span_of_agrees : (κs : _) (a : _) (r r' : _) (s s' : _) → span_of.Post κs a r s → span_of.Post κs a r' s' → r ≡ r'
span_of_agrees κs a r r' s s' p q = p.2 ∙ sym q.2

pub mask_of_agrees : (κs : _) (a : _) (r r' : _) (s s' : _) → mask_of.Post κs a r s → mask_of.Post κs a r' s' → r ≡ r'
mask_of_agrees κs a r r' s s' p q = p ∙ sym (q)

pub takes_place_agrees : (κs : _) (a : _) (r r' : _) (s s' : _) → takes_place.Post κs a r s → takes_place.Post κs a r' s' → r ≡ r'
takes_place_agrees κs a r r' s s' p q = p ∙ sym (q)

pub blank_of_agrees : (κs : _) (a : _) (r r' : _) (s s' : _) → blank_of.Post κs a r s → blank_of.Post κs a r' s' → r ≡ r'
blank_of_agrees κs a r r' s s' p q = p ∙ sym (q)

pub place_in_agrees : (κs : _) (a : _) (r r' : _) (s s' : _) → place_in.Post κs a r s → place_in.Post κs a r' s' → r ≡ r'
place_in_agrees κs a r r' s s' p q = p.1 ∙ sym q.1

pub start_of_agrees : (κs : _) (a : _) (r r' : _) (s s' : _) → start_of.Post κs a r s → start_of.Post κs a r' s' → r ≡ r'
start_of_agrees κs a r r' s s' p q = p.1 ∙ sym q.1

pub fields_in_agrees : (κs : _) (a : _) (r r' : _) (s s' : _) → fields_in.Post κs a r s → fields_in.Post κs a r' s' → r ≡ r'
fields_in_agrees κs a r r' s s' p q = p.1 ∙ sym q.1

pub total_of_agrees : (κs : _) (a : _) (r r' : _) (s s' : _) → total_of.Post κs a r s → total_of.Post κs a r' s' → r ≡ r'
total_of_agrees κs a r r' s s' p q = p.1 ∙ sym q.1
