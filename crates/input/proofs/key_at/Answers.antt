-- `input::key_at` meets its contract.
use Rattle.std.proofs.Common.{◌∙◌, drop}
use Rattle.input.proofs.Turns.{rest_whole, starts_bytes}
use Rattle.input.proofs.key_at.Goals as goal

pub returns : goal.returns
returns c = c.starts_with.ensures.value ∙ rw (rest_whole c.args.at c.args.s.now) (starts_bytes c.args.k.now (drop c.args.at c.args.s.now))
