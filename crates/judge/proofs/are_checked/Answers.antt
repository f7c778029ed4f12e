-- `judge::are_checked` meets its contract.
use Rattle.judge.proofs.Steps.{first_check_lem, second_check_lem, checked_decides}
use Rattle.judge.proofs.are_checked.Goals as goal

pub returns : goal.returns
returns c =
    rw (c.from.ensures, c.from-2.ensures)
    (checked_decides c.args.bw c.args.words.now _ _ (first_check_lem c.args.bw c.args.words.now c.args.first _ c.requires.2 c.first_bits.ensures.value)
    (second_check_lem c.args.bw c.args.words.now c.args.second _ c.requires.0 c.requires.3 c.second_bits.ensures.value))
