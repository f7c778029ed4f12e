-- What is written lies in the buffer: no text is longer than a comparison may be.
use Rattle.std.proofs.Common.{sym, length-take-le, arith}
use Rattle.text.proofs.Laws.{kept}
use Rattle.comparing.proofs.Within.{respond_within}
use Rattle.ehtcompare.proofs.run.Goals as goal

pub slice_bounds-write_all-end : goal.slice_bounds-write_all-end
slice_bounds-write_all-end c = omega (arith, respond_within _ c.respond-n.ensures, kept c.respond-n.ensures, c.requires)

pub slice_bounds-write_all-end-2 : goal.slice_bounds-write_all-end-2
slice_bounds-write_all-end-2 c =
    sym (length-take-le _ _ (omega (arith, respond_within _ c.respond-n.ensures, kept c.respond-n.ensures, c.requires)))
