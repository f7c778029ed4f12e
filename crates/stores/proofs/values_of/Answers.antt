-- `stores::values_of` meets its contract.
use mathlib.Core.Path.{refl}
use Rattle.stores.specs.Engine.{hundreds_of, pair_of, tens_of, values_of}
use Rattle.stores.proofs.Laws.{values}
use Rattle.stores.proofs.values_of.Goals as goal

pub overflow_sub-result : goal.overflow_sub-result
unfolding hundreds_of pair_of tens_of
overflow_sub-result c = (values c.args.n c.requires).within

pub returns : goal.returns
unfolding hundreds_of pair_of tens_of values_of
returns c = (refl, (values c.args.n c.requires).most)
