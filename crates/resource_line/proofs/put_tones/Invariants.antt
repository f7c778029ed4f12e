-- What the loop of `resource_line::put_tones` keeps.
use Rattle.std.proofs.Common.{◌+◌, ◌*◌, ◌≤◌, get_or, take}
use Rattle.text.specs.Text.{Wrote, upto}
use Rattle.resource.specs.Engine.{span_of, no_run}
use Rattle.resource_line.specs.ResourceLine.{span_text}
use Rattle.resource_line.proofs.put_tones.Given as goal

abbrev pub invariant-loop-i : goal.invariant-loop-i
invariant-loop-i l =
    Wrote l.initial.out l.fn.at (upto (λ j. span_text j (span_of l.fn.n (get_or (take l.fn.t.count l.fn.t.runs) j no_run))) l.i) l.out l.o ×
    (l.o ≤ l.fn.at + 44 * l.i)
