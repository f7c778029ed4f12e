-- `position_lines::put_word_tones` meets its contract.
use Rattle.std.proofs.Common.{sym}
use Rattle.text.proofs.Laws.{after}
use Rattle.position_lines.proofs.Coded.{one_run, two_runs}
use Rattle.position_lines.proofs.put_word_tones.Goals as goal

pub returns-then-w-lt65536-clause-wrote : goal.returns-then-w-lt65536-clause-wrote
returns-then-w-lt65536-clause-wrote c = rw (sym (one_run c.args.n c.args.base c.args.w c.if-w-lt65536.true)) at c.put_span.ensures.wrote

pub returns-clause-wrote : goal.returns-clause-wrote
returns-clause-wrote c = rw (sym (two_runs c.args.n c.args.base c.args.w c.if-w-lt65536.false)) at (after c.put_span-a.ensures.wrote c.put_span-2.ensures.wrote)
