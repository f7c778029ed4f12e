-- Any two results that the contract of `judge_write` allows for one input agree.
use mathlib.Core.Path.{sym, ◌∙◌}
use Rattle.answer.proofs.Agree.{Agrees}
use Rattle.record_refusals.proofs.judge_write.Reads as judge_write

pub judge_write_agrees : Agrees judge_write.Post
judge_write_agrees κs a r r' s s' p q = p ∙ sym q
