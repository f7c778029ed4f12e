-- `comparing::put_captures` meets its contract.
use Rattle.captures.proofs.Found.{first_taken, second_taken}
use Rattle.comparing.proofs.put_captures.Goals as goal

pub returns : goal.returns
returns c = rw (
  ← (first_taken c.args.text.now c.args.c _ c.unhex_both.ensures.cc1_after),
  ← (second_taken c.args.text.now c.args.c _ c.unhex_both.ensures.cc2_after),
  ← (first_taken c.args.text.now c.args.d _ c.unhex_both-2.ensures.cc1_after),
  ← (second_taken c.args.text.now c.args.d _ c.unhex_both-2.ensures.cc2_after),
) c.put_comparison.ensures
