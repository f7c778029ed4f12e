-- Any two results that the contract allows for one input agree: it is an equation.
use Prim.Native.Nat.{ℕ}
use mathlib.Core.Path.{sym, ◌∙◌}
use Rattle.answer.proofs.Agree.{Agrees}
use Rattle.stations.proofs.station_twice.Reads as station_twice
use Rattle.stations.proofs.any_of_few.Reads as any_of_few

pub station_twice_agrees : Agrees station_twice.Post
station_twice_agrees κs a r r' s s' p q = p ∙ sym q

pub any_of_few_agrees : (k : ℕ) (fits : _) → Agrees (any_of_few.Post k fits)
any_of_few_agrees k fits κs a r r' s s' p q = p ∙ sym q
