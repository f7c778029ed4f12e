-- Any two results that a public function's contract allows for one input agree: each contract is an equation.
use mathlib.Core.Path.{sym, ◌∙◌}
use Rattle.answer.proofs.Agree.{Agrees}
use Rattle.lengths.proofs.is_lent.Reads as is_lent
use Rattle.lengths.proofs.too_long.Reads as too_long
use Rattle.lengths.proofs.is_short_common.Reads as is_short_common
use Rattle.lengths.proofs.cut_common.Reads as cut_common
use Rattle.lengths.proofs.is_short_users.Reads as is_short_users
use Rattle.lengths.proofs.cut_users.Reads as cut_users
use Rattle.lengths.proofs.lacks_at.Reads as lacks_at

pub is_lent_agrees : Agrees is_lent.Post
is_lent_agrees κs a r r' s s' p q = p ∙ sym q

pub too_long_agrees : Agrees too_long.Post
too_long_agrees κs a r r' s s' p q = p ∙ sym q

pub is_short_common_agrees : Agrees is_short_common.Post
is_short_common_agrees κs a r r' s s' p q = p ∙ sym q

pub cut_common_agrees : Agrees cut_common.Post
cut_common_agrees κs a r r' s s' p q = p ∙ sym q

pub is_short_users_agrees : Agrees is_short_users.Post
is_short_users_agrees κs a r r' s s' p q = p ∙ sym q

pub cut_users_agrees : Agrees cut_users.Post
cut_users_agrees κs a r r' s s' p q = p ∙ sym q

pub lacks_at_agrees : Agrees lacks_at.Post
lacks_at_agrees κs a r r' s s' p q = p ∙ sym q
