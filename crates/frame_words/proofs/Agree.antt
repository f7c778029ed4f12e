-- Any two states of the lent words or bytes, and of the fields that `turn_users` turns, that a public function's contract allows for one input
-- agree. What `put_frame` and `put_frame_bytes` leave of the fields is not said: they are room to work in.
use mathlib.Core.Path.{◌≡◌, sym, ◌∙◌}
use Rattle.frame_words.proofs.turn_users.Reads as turn_users
use Rattle.frame_words.proofs.put_frame.Reads as put_frame
use Rattle.frame_words.proofs.put_frame_bytes.Reads as put_frame_bytes
use Rattle.frame_words.proofs.put_frame_to.Reads as put_frame_to

pub turn_users_agrees : (κs : _) (a : _) (r r' : _) (s s' : _) → turn_users.Post κs a r s → turn_users.Post κs a r' s' → s.0.now ≡ s'.0.now
turn_users_agrees κs a r r' s s' p q = p ∙ sym q

pub put_frame_agrees : (κs : _) (a : _) (r r' : _) (s s' : _) → put_frame.Post κs a r s → put_frame.Post κs a r' s' → s.0.now ≡ s'.0.now
put_frame_agrees κs a r r' s s' p q = p ∙ sym q

pub put_frame_bytes_agrees : (κs : _) (a : _) (r r' : _) (s s' : _) → put_frame_bytes.Post κs a r s → put_frame_bytes.Post κs a r' s' → s.0.now ≡ s'.0.now
put_frame_bytes_agrees κs a r r' s s' p q = p ∙ sym q

-- and of words that are lent in any form
pub put_frame_to_agrees : (W : _) (laws : _) (lent : _) (instance : _) (κs : _) (a : _) (r r' : _) (s s' : _)
    → put_frame_to.Post W laws lent instance κs a r s → put_frame_to.Post W laws lent instance κs a r' s'
    → lent.buffer s.0.now ≡ lent.buffer s'.0.now
put_frame_to_agrees W laws lent instance κs a r r' s s' p q = p.0 ∙ sym q.0
