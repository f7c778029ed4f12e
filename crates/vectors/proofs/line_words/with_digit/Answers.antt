-- Each way of reading a digit is a case of its definition.
use Rattle.std.proofs.Common.{◌≡◌, ◌-◌, arith, lt-ltb, le-ltb}
use Rattle.vectors.specs.Text.{with_digit}
use Rattle.vectors.proofs.Digits.{digit_is, digit_over}
use Rattle.vectors.proofs.line_words.with_digit.Goals as goal

pub returns-then-c-lt48-clause-value : goal.returns-then-c-lt48-clause-value
unfolding with_digit
returns-then-c-lt48-clause-value c = simp (lt-ltb _ _ c.if-c-lt48.true)

pub returns-then-c-gt57-clause-value : goal.returns-then-c-gt57-clause-value
unfolding with_digit
returns-then-c-gt57-clause-value c = simp (le-ltb _ _ c.if-c-lt48.false, lt-ltb _ _ c.if-c-gt57.true)

pub returns-then-w-lt-UNREAD-clause-value : goal.returns-then-w-lt-UNREAD-clause-value
returns-then-w-lt-UNREAD-clause-value c =
    let e : c.from.result ≡ c.args.c - 48 = omega arith in
    digit_is c.args.v c.args.c c.from.result c.if-c-lt48.false c.if-c-gt57.false e c.if-w-lt-UNREAD.true

pub returns-else-w-lt-UNREAD-clause-value : goal.returns-else-w-lt-UNREAD-clause-value
returns-else-w-lt-UNREAD-clause-value c =
    let e : c.from.result ≡ c.args.c - 48 = omega arith in
    digit_over c.args.v c.args.c c.from.result c.if-c-lt48.false c.if-c-gt57.false e c.if-w-lt-UNREAD.false
