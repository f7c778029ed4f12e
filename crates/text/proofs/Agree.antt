-- Any two results that a public writer's contract allows for one input agree, the place and the buffer: `Wrote` gives both.
use mathlib.Core.Path.{◌≡◌, sym, ◌∙◌}
use mathlib.Core.List.{List}
use Prim.Native.Nat.{ℕ}
use Rattle.text.specs.Text.{Wrote}
use Rattle.text.proofs.put.Reads as put
use Rattle.text.proofs.put_all.Reads as put_all
use Rattle.text.proofs.put_dec.Reads as put_dec
use Rattle.text.proofs.put_signed.Reads as put_signed

pub wrote_agrees : {d e e' t : List ℕ} {at r r' : ℕ} → Wrote d at t e r → Wrote d at t e' r' → (r ≡ r') × (e ≡ e')
wrote_agrees p q = (p.next ∙ sym q.next, p.bytes ∙ sym q.bytes)

pub put_agrees : (κs : _) (a : _) (r r' : _) (s s' : _) → put.Post κs a r s → put.Post κs a r' s' → (r ≡ r') × (s.0.now ≡ s'.0.now)
put_agrees κs a r r' s s' p q = wrote_agrees p q

pub put_all_agrees : (κs : _) (a : _) (r r' : _) (s s' : _) → put_all.Post κs a r s → put_all.Post κs a r' s' → (r ≡ r') × (s.0.now ≡ s'.0.now)
put_all_agrees κs a r r' s s' p q = wrote_agrees p q

pub put_dec_agrees : (κs : _) (a : _) (r r' : _) (s s' : _) → put_dec.Post κs a r s → put_dec.Post κs a r' s' → (r ≡ r') × (s.0.now ≡ s'.0.now)
put_dec_agrees κs a r r' s s' p q = wrote_agrees p.0 q.0

pub put_signed_agrees : (κs : _) (a : _) (r r' : _) (s s' : _) → put_signed.Post κs a r s → put_signed.Post κs a r' s' → (r ≡ r') × (s.0.now ≡ s'.0.now)
put_signed_agrees κs a r r' s s' p q = wrote_agrees p.0 q.0
