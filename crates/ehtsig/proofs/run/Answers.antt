-- What is written lies in the buffer: no text is longer than a listing may be.
use Rattle.std.proofs.Common.{sym, length-take-le, arith}
use Rattle.text.proofs.Laws.{kept}
use Rattle.listing_size.proofs.Longest.{respond_most}
use Rattle.ehtsig.proofs.run.Goals as goal

-- src/main.rt:20:18
pub slice_bounds-write_all-end : goal.slice_bounds-write_all-end
slice_bounds-write_all-end c = omega (arith, respond_most _ c.respond-n.ensures, kept c.respond-n.ensures, c.requires)

-- src/main.rt:20:18
pub slice_bounds-write_all-end-2 : goal.slice_bounds-write_all-end-2
slice_bounds-write_all-end-2 c =
    sym (length-take-le _ _ (omega (arith, respond_most _ c.respond-n.ensures, kept c.respond-n.ensures, c.requires)))
