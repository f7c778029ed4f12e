-- The places of the wider resources are the published ones: 001's table spells out of which RUs, numbered from 1 in their channel, each is made.
use mathlib.Core.Path.{◌≡◌, refl}
use mathlib.Core.List.{List, [], ◌∷◌}
use Prim.Native.Nat.{ℕ, zero, suc, ◌+◌, ◌-◌, ◌*◌, ◌^◌}
use Rattle.resource.specs.declared.Pairing.TheVariants.{P996And484, P3x996, P2x996And484, P3x996And484}
use Rattle.resource.specs.Places.{all, pair, segment, places_of}

-- "RU2 (484T)"
abbrev 484T : ℕ → ℕ
484T k = pair (k - 1)

abbrev 996T : ℕ → ℕ
996T k = segment (k - 1)

abbrev 2x996T : ℕ → ℕ
2x996T k = all 8 * 256 ^ (k - 1)

-- "MRU1", "MRU2", .. by places
abbrev mrus : (ℕ → ℕ) → ℕ → ℕ → List ℕ
mrus f k zero = []
mrus f k (suc n) = f k ∷ mrus f (k + 1) n

pub published_996_484 : mrus (places_of P996And484) 1 4 ≡ (484T 2 + 996T 2) ∷ (484T 1 + 996T 2) ∷ (484T 4 + 996T 1) ∷ (484T 3 + 996T 1) ∷ []
unfolding places_of
published_996_484 = refl

pub published_2x996_484 : mrus (places_of P2x996And484) 1 12
    ≡ (484T 2 + 996T 2 + 996T 3)
    ∷ (484T 1 + 996T 2 + 996T 3)
    ∷ (484T 4 + 996T 1 + 996T 3)
    ∷ (484T 3 + 996T 1 + 996T 3)
    ∷ (484T 6 + 996T 1 + 996T 2)
    ∷ (484T 5 + 996T 1 + 996T 2)
    ∷ (484T 4 + 996T 3 + 996T 4)
    ∷ (484T 3 + 996T 3 + 996T 4)
    ∷ (484T 6 + 996T 2 + 996T 4)
    ∷ (484T 5 + 996T 2 + 996T 4)
    ∷ (484T 8 + 996T 2 + 996T 3)
    ∷ (484T 7 + 996T 2 + 996T 3)
    ∷ []
unfolding places_of
published_2x996_484 = refl

pub published_3x996 : mrus (places_of P3x996) 1 4 ≡ (996T 2 + 2x996T 2) ∷ (996T 1 + 2x996T 2) ∷ (996T 4 + 2x996T 1) ∷ (996T 3 + 2x996T 1) ∷ []
unfolding places_of
published_3x996 = refl

pub published_3x996_484 : mrus (places_of P3x996And484) 1 8
    ≡ (484T 2 + 996T 2 + 2x996T 2)
    ∷ (484T 1 + 996T 2 + 2x996T 2)
    ∷ (484T 4 + 996T 1 + 2x996T 2)
    ∷ (484T 3 + 996T 1 + 2x996T 2)
    ∷ (484T 6 + 996T 4 + 2x996T 1)
    ∷ (484T 5 + 996T 4 + 2x996T 1)
    ∷ (484T 8 + 996T 3 + 2x996T 1)
    ∷ (484T 7 + 996T 3 + 2x996T 1)
    ∷ []
unfolding places_of
published_3x996_484 = refl
