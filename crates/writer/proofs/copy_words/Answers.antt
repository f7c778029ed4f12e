-- `writer::copy_words` meets its contract.
use Rattle.std.proofs.Common.{refl, ap, ◌++◌, List, ℕ, length, drop}
use Rattle.answer.specs.Lists.{at}
use Rattle.answer.proofs.Lists.{build_is}
use Rattle.writer.proofs.copy_words.Goals as goal

pub returns : goal.returns
unfolding Rattle.answer.specs.Lists.filled
returns c =
    let w = c.args.words.now in
    rw c.copy_from_slice.ensures.after (ap (λ (l : List ℕ). l ++ drop (length w) c.args.own.now) (build_is (at w) 0 w (length w) refl (λ i l. refl)))
