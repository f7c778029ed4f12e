-- Any two results that a public function's contract allows for one input agree: each contract is an equation.
use mathlib.Core.Path.{◌≡◌, sym, ◌∙◌}
use lib.ListN.{take}
use Rattle.answer.proofs.Agree.{Agrees}
use Rattle.masks.proofs.mask_of.Reads as mask_of
use Rattle.masks.proofs.all_apart.Reads as all_apart
use Rattle.masks.proofs.find_pairs.Reads as find_pairs

pub mask_of_agrees : Agrees mask_of.Post
mask_of_agrees κs a r r' s s' p q = p ∙ sym q

pub all_apart_agrees : Agrees all_apart.Post
all_apart_agrees κs a r r' s s' p q = p ∙ sym q

-- where the pairs end, and they themselves
pub find_pairs_agrees : (κs : _) (a : _) (r r' : _) (s s' : _) → find_pairs.Post κs a r s → find_pairs.Post κs a r' s'
    → (r ≡ r') × (take r s.0.now ≡ take r' s'.0.now)
find_pairs_agrees κs a r r' s s' p q = (p.0 ∙ sym q.0, p.1.0 ∙ sym q.1.0)
