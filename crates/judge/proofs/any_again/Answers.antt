-- `judge::any_again` meets its contract.
use Rattle.std.proofs.Common.{◌≡◌, ◌∙◌, ℕ, ◌+◌, ◌-◌, ap, arith, take, drop}
use Rattle.judge.proofs.Marks.{from_word}
use Rattle.judge.proofs.any_again.Goals as goal

pub returns-then-t-le8 : goal.returns-then-t-le8
returns-then-t-le8 c =
    let k : 10 + c.args.t - 10 ≡ c.args.t = omega arith in
    c.any_of_few.ensures
    ∙ from_word c.args.words.now _ c.args.t c.requires.1 (ap (λ (n : ℕ). take n (drop 10 c.args.words.now)) k)
