--
use Rattle.std.proofs.Common.{append-nil}
use Rattle.compare.specs.Engine.{refusals_text}
use Rattle.text.proofs.Laws.{after}
use Rattle.compare.proofs.put_refusals.Goals as goal

pub returns-in-Err : goal.returns-in-Err
unfolding refusals_text
returns-in-Err c = rw c.in-Err.is (after c.put_refused-a.ensures.wrote (rw c.from-y.ensures at c.put_refused.ensures.wrote))

pub returns : goal.returns
unfolding refusals_text
returns c = rw (c.in_default.is, append-nil) c.put_refused-a.ensures.wrote
