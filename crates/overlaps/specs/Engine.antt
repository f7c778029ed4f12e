-- Engine: how the code finds the pairs: by the mask of each entry's resource. The contracts of the code cite it; nobody has to believe it:
-- `Worked.antt` says what it comes to, and `proofs/Worked.antt` shows it.
use Rattle.std.specs.Prelude.{List, ℕ}
use Rattle.trigger_values.specs.UserInfo.{value_in}
use Rattle.masks.specs.Engine.{mask_of}
use Rattle.overlaps.specs.Overlaps.{info_at}

unfoldable pub mask_at : List ℕ → ℕ → ℕ
mask_at es i = mask_of (value_in (info_at es i))
