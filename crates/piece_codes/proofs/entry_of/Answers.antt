-- `piece_codes::entry_of` meets its contract.
use Rattle.std.proofs.Common.{◌≡◌, Bool, List, [], ◌∷◌, ℕ, ◌<◌, eqb, eqb→eq}
use Rattle.resource.proofs.Test.{Missed, key_or, no_key, every_below}
use Rattle.piece_codes.specs.Engine.{entry_of}
use Rattle.piece_codes.proofs.entry_of.Goals as goal

arms : List (List ℕ)
arms =
    (60 ∷ []) ∷ (59 ∷ []) ∷ (53 ∷ []) ∷ (52 ∷ []) ∷ (51 ∷ []) ∷ (50 ∷ []) ∷ (49 ∷ []) ∷ (48 ∷ []) ∷ (47 ∷ []) ∷ (46 ∷ []) ∷ (44 ∷ []) ∷ (43 ∷ [])
    ∷ (42 ∷ []) ∷ (41 ∷ []) ∷ (37 ∷ []) ∷ (20 ∷ []) ∷ (19 ∷ []) ∷ (13 ∷ []) ∷ (12 ∷ []) ∷ (11 ∷ []) ∷ (10 ∷ []) ∷ (9 ∷ []) ∷ (8 ∷ []) ∷ (7 ∷ [])
    ∷ (6 ∷ []) ∷ (5 ∷ []) ∷ (4 ∷ []) ∷ (3 ∷ []) ∷ (2 ∷ []) ∷ (1 ∷ []) ∷ []

none : ℕ → Bool
none d = eqb 0 (entry_of d)

left : (d : ℕ) → d < 128 → Missed arms d → 0 ≡ entry_of d
unfolding arms none entry_of
left d h m = eqb→eq 0 (entry_of d) (no_key none arms d (every_below (key_or none arms) 128 tt d h) m)

pub returns-in_default : goal.returns-in_default
unfolding arms
returns-in_default c = left _ c.requires c.in_default.in_default-own.rest
