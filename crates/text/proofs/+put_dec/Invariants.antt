-- What the loops of `text::put_dec` keep, and what falls.
use Rattle.text.proofs.+put_dec.Given as goal

abbrev pub decreases-put_dec : goal.decreases-put_dec
decreases-put_dec l = l.n
