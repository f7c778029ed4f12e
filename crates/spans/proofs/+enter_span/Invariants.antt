-- What the loops of `spans::enter_span` keep, and what falls.
use Rattle.spans.proofs.+enter_span.Given as goal

abbrev pub decreases-enter_span : goal.decreases-enter_span
decreases-enter_span l = l.n
