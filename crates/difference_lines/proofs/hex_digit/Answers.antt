--
use Rattle.difference_lines.proofs.Digits.{low_digit, high_digit}
use Rattle.difference_lines.proofs.hex_digit.Goals as goal

pub returns-then-d-lt10 : goal.returns-then-d-lt10
returns-then-d-lt10 c = low_digit _ c.if-d-lt10.true

pub returns : goal.returns
returns c = high_digit _ c.if-d-lt10.false c.requires
