-- Any two results, and any two states of a lent row, that a public function's contract allows for one input agree.
use mathlib.Core.Path.{◌≡◌, sym, ◌∙◌}
use Rattle.answer.proofs.Agree.{Agrees}
use Rattle.stream_rows.proofs.rows_of.Reads as rows_of
use Rattle.stream_rows.proofs.entry_at.Reads as entry_at
use Rattle.stream_rows.proofs.put_row.Reads as put_row
use Rattle.stream_rows.proofs.number_of.Reads as number_of

pub rows_of_agrees : Agrees rows_of.Post
rows_of_agrees κs a r r' s s' p q = p ∙ sym q

pub entry_at_agrees : Agrees entry_at.Post
entry_at_agrees κs a r r' s s' p q = p.0 ∙ sym q.0

pub put_row_agrees : (κs : _) (a : _) (r r' : _) (s s' : _) → put_row.Post κs a r s → put_row.Post κs a r' s'
    → (r ≡ r') × (s.1.1.0.now ≡ s'.1.1.0.now)
put_row_agrees κs a r r' s s' p q = (p.0 ∙ sym q.0, p.1 ∙ sym q.1)

pub number_of_agrees : Agrees number_of.Post
number_of_agrees κs a r r' s s' p q = p ∙ sym q
