-- Any two verdicts that the contracts of the public functions allow for one input agree.
use mathlib.Core.Path.{◌≡◌, refl, sym, ◌∙◌}
use mathlib.Core.Bool.{Bool, true, false}
use Rattle.std.specs.Prelude.{is_some}
use Rattle.answer.specs.Decides.{Decides}
use Rattle.judge.proofs.take_row.Reads as take_row
use Rattle.judge.proofs.judge.Reads as judge

-- two tests that decide one fact
same_test : {A : Type 0} (t u : Bool) → Decides t A → Decides u A → t ≡ u
same_test true true p q = refl
same_test true false p q = absurd (q.no refl (p.yes refl))
same_test false true p q = absurd (p.no refl (q.yes refl))
same_test false false p q = refl

pub take_row_agrees : (κs : _) (a : _) (r r' : _) (s s' : _) → take_row.Post κs a r s → take_row.Post κs a r' s' → r ≡ r'
take_row_agrees κs a r r' s s' p q = same_test r r' p.0 q.0

pub judge_agrees : (κs : _) (a : _) (r r' : _) (s s' : _) → judge.Post κs a r s → judge.Post κs a r' s' → is_some r ≡ is_some r'
judge_agrees κs a r r' s s' p q = p.0 ∙ sym q.0
