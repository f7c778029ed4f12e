-- `responding::put_lines` meets its contract.
use Rattle.std.proofs.Common.{◌≡◌, List, ℕ, take}
use Rattle.answer.specs.Lists.{build, filled}
use Rattle.answer.proofs.Lists.{take_filled}
use Rattle.responding.proofs.put_lines.Goals as goal

-- the bytes at the front of a channel's buffer
front_of : {r : List ℕ} (f : ℕ → ℕ) (n : ℕ) (w : List ℕ) → r ≡ filled f n w → take n r ≡ build f n
front_of f n w e = rw e (take_filled f n w)

pub returns : goal.returns
returns c = rw (← (front_of _ _ _ c.unhex.ensures), ← (front_of _ _ _ c.unhex-2.ensures)) c.put_outcome.ensures
