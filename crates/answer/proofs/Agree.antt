-- Any two results that a public function's contract allows for one input agree: each contract is an equation.
use mathlib.Core.Path.{◌≡◌, sym, ◌∙◌}
use Rattle.answer.proofs.refuse_if.Reads as refuse_if
use Rattle.answer.proofs.or_else.Reads as or_else

-- of a contract, `Post` of its function: for one input it allows one result
abbrev pub Agrees : {K : Type 0} {A R S : K → Type 0} → ((κs : K) → A κs → R κs → S κs → Type 0) → Type 0
Agrees {K} {A} {R} {S} P = (κs : K) (a : A κs) (r r' : R κs) (s s' : S κs) → P κs a r s → P κs a r' s' → r ≡ r'

pub refuse_if_agrees : (E : _) (laws : _) (copies : _) (clones : _) (instance : _) → Agrees (refuse_if.Post E laws copies clones instance)
refuse_if_agrees E laws copies clones instance κs a r r' s s' p q = p ∙ sym q

pub or_else_agrees : (E : _) (laws : _) (copies : _) (clones : _) (instance : _) → Agrees (or_else.Post E laws copies clones instance)
or_else_agrees E laws copies clones instance κs a r r' s s' p q = p ∙ sym q
