--
use Rattle.compare_size.specs.Size.{compare_size}
use Rattle.std.proofs.Common.{refl}
use Rattle.compare.proofs.longest.Goals as goal

pub returns : goal.returns
unfolding compare_size
returns c = refl
