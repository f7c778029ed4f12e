-- Any two results, and any two states of a lent buffer, that a public function's contract allows for one input agree.
use mathlib.Core.Path.{◌≡◌, sym, ◌∙◌}
use Rattle.word_bytes.proofs.put_word.Reads as put_word
use Rattle.word_bytes.proofs.put_bytes.Reads as put_bytes
use Rattle.word_bytes.proofs.get_words.Reads as get_words

pub put_word_agrees : (κs : _) (a : _) (r r' : _) (s s' : _) → put_word.Post κs a r s → put_word.Post κs a r' s' → s.0.now ≡ s'.0.now
put_word_agrees κs a r r' s s' p q = p ∙ sym q

pub put_bytes_agrees : (κs : _) (a : _) (r r' : _) (s s' : _) → put_bytes.Post κs a r s → put_bytes.Post κs a r' s' → s.0.now ≡ s'.0.now
put_bytes_agrees κs a r r' s s' p q = p ∙ sym q

pub get_words_agrees : (κs : _) (a : _) (r r' : _) (s s' : _) → get_words.Post κs a r s → get_words.Post κs a r' s' → s.0.now ≡ s'.0.now
get_words_agrees κs a r r' s s' p q = p ∙ sym q
