-- Any two results that the contract of `refused_early` allows for one input agree.
use mathlib.Core.Path.{sym, ◌∙◌}
use Rattle.answer.proofs.Agree.{Agrees}
use Rattle.whole_words.proofs.refused_early.Reads as refused_early

pub refused_early_agrees : Agrees refused_early.Post
refused_early_agrees κs a r r' s s' p q = p ∙ sym q
