-- `user_codes::code_of` meets its contract.
use Rattle.user_codes.specs.Engine.{resource_code}
use Rattle.user_codes.proofs.code_of.Goals as goal

pub returns : goal.returns
unfolding resource_code
returns c = rw (c.from-index.ensures, c.number_of.ensures, c.subcarriers_of-size.ensures, c.from.ensures)
