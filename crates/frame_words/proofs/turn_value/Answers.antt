-- `frame_words::turn_value` meets its contract.
use Rattle.std.proofs.Common.{◌≡◌, arith}
use Rattle.answer.proofs.Lists.{filled_start}
use Rattle.frame_words.proofs.turn_value.Goals as goal

pub returns-else-m-gt0 : goal.returns-else-m-gt0
returns-else-m-gt0 c = let e : c.args.m ≡ 0 = omega arith in rw e (filled_start _ _)
