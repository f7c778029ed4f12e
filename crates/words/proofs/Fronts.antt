-- Words put one after the other, from the first on, are the front of what is lent.
use Rattle.std.proofs.Common.{◌≡◌, List, ℕ, ◌≤◌, ◌++◌, length, drop, slice_set}
use Rattle.word_bytes.specs.Lent.{puts}
use Rattle.word_bytes.proofs.Fronts.{numbers_front}

pub words_front : (t xs : List ℕ) → length xs ≤ length t → puts slice_set t 0 xs ≡ xs ++ drop (length xs) t
words_front = numbers_front
