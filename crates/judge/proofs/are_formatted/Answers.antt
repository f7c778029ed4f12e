-- `judge::are_formatted` meets its contract.
use Rattle.std.proofs.Common.{sym, ◌∙◌, true≢false, arith}
use Rattle.candidate.proofs.Held.{count_in_le}
use Rattle.judge.proofs.Formats.{lone_decides, first_fails, second_decides}
use Rattle.judge.proofs.are_formatted.Goals as goal

pub returns-then-shared-eq0 : goal.returns-then-shared-eq0
returns-then-shared-eq0 c =
    rw c.run_formatted.ensures
    (lone_decides c.args.bw c.args.words.now c.requires.0 c.args.row.now c.args.n c.args.m c.requires.1 (rw (← c.if-shared-eq0.true) c.requires.2) c.requires.3
    c.requires.4)

pub returns-then-not-channel_formatted : goal.returns-then-not-channel_formatted
returns-then-not-channel_formatted c = record {
  yes = λ e. absurd (true≢false (sym e));
  no = λ e d. first_fails c.args.bw c.args.words.now c.requires.0 (sym c.channel_formatted.ensures ∙ c.if-not-channel_formatted.true) d;
}

pub channel_formatted-requires-2 : goal.channel_formatted-requires-2
channel_formatted-requires-2 c = (
  c.requires.0,
  omega arith,
  omega arith,
  c.requires.1,
  c.requires.2,
  omega (arith, c.requires.3, count_in_le c.args.bw c.args.words.now 1),
  omega (arith, c.requires.4, c.requires.5),
)

pub returns : goal.returns
returns c =
    rw c.channel_formatted-2.ensures
    (second_decides c.args.bw c.args.words.now c.requires.0 c.args.n c.requires.3
    (sym c.channel_formatted.ensures ∙ c.if-not-channel_formatted.false))
