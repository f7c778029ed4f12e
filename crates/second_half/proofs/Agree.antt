-- Any two results that the contract allows for one input agree, and so do the numbers where it passes.
use mathlib.Core.Path.{◌≡◌, sym, ◌∙◌}
use Rattle.std.specs.Prelude.{Ok}
use Rattle.second_half.proofs.check_users.Reads as check_users

pub check_users_agrees : (κs : _) (a : _) (r r' : _) (s s' : _) → check_users.Post κs a r s → check_users.Post κs a r' s'
    → (r ≡ r') × (r ≡ Ok tt → s.0.now ≡ s'.0.now)
check_users_agrees κs a r r' s s' p q =
    let e = p.0 ∙ sym q.0 in
    (e, λ f. p.1 f ∙ sym (q.1 (sym e ∙ f)))
