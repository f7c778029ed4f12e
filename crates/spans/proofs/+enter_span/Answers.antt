-- The proof of the cycle of calls {enter_span}. The measure is the span, which falls by halves.
use Rattle.spans.proofs.Search.{wide}
use Rattle.spans.proofs.Entries.{span_segment, span_halves}
use Rattle.spans.proofs.+enter_span.Goals as goal

pub returns-then-n-eq4 : goal.returns-then-n-eq4
returns-then-n-eq4 t c = span_segment _ _ _ _ _ _ _ c.if-n-eq4.true c.enter_segment.ensures.ends.1 c.enter_segment.ensures.ends.2
    c.enter_segment.ensures.ends.3 c.enter_segment.ensures.entered

pub returns : goal.returns
returns t c = span_halves _ _ _ _ _ _ _ _ _ _ (wide _ c.requires.2 c.if-n-eq4.false) c.requires.3
    c.named_in.ensures.1 c.min.ensures
    c.enter_span.ensures c.enter_span-2.ensures c.overlay.ensures
