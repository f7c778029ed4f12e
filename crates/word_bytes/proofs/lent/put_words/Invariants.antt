-- What the loop of `word_bytes::put_words` keeps: what is written and what is left are together what is to be written.
use Rattle.std.proofs.Common.{◌≡◌, ◌+◌, drop}
use Rattle.word_bytes.specs.Lent.{puts}
use Rattle.word_bytes.proofs.lent.put_words.Given as goal

abbrev pub invariant-loop-i : goal.invariant-loop-i
invariant-loop-i g l =
    let W = g.W.LentWords in
    (W.loan l.out ≡ W.loan l.initial.out)
    × (W.room (W.buffer l.out) ≡ W.room (W.buffer l.initial.out))
    × (puts W.put (W.buffer l.out) (l.from + l.i) (drop l.i l.words) ≡ puts W.put (W.buffer l.initial.out) l.from l.words)
