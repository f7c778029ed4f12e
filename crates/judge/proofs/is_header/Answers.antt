-- `judge::is_header` meets its contract.
use Rattle.judge.proofs.Steps.{header_decides}
use Rattle.judge.proofs.is_header.Goals as goal

pub returns : goal.returns
returns c =
    let s =
    c.args in
    header_decides s.bw s.n s.words.now
    c.known_word.result
    c.known_word.ensures
    c.is_overflow.ensures
    c.is_first.ensures
    c.is_three.ensures
    c.is_three-2.ensures
    c.is_three-3.ensures c.is_three-4.ensures c.is_three-5.ensures
