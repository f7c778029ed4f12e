-- What 01 calls each resource: its number of subcarriers.
use Rattle.std.specs.Prelude.{ℕ}
use Rattle.resource.specs.declared.Size.{Size}
use Rattle.resource.specs.declared.Size.TheVariants.{S26, S52, S106, S242, S484, S996, S2x996}
use Rattle.resource.specs.declared.Pairing.{Pairing}
use Rattle.resource.specs.declared.Pairing.TheVariants.{P106And26, P484And242, P996And484, P3x996, P2x996And484, P3x996And484}
use Rattle.resource.specs.declared.Resource.{Resource}
use Rattle.resource.specs.declared.Resource.TheVariants.{Single, Joined}

-- "Resources: 26, 52, 106, 242, 484 and 996 subcarriers"
abbrev pub size_of : Size → ℕ
size_of S26 = 26
size_of S52 = 52
size_of S106 = 106
size_of S242 = 242
size_of S484 = 484
size_of S996 = 996
-- 02, T-07: "2x996"
size_of S2x996 = 1992

-- "and the joined ones 106+26 and 484+242"
abbrev pub joined_of : Pairing → ℕ
joined_of P106And26 = 132
joined_of P484And242 = 726
-- 02, T-07: "996+484 and the rest"
joined_of P996And484 = 1480
joined_of P3x996 = 2988
joined_of P2x996And484 = 2476
joined_of P3x996And484 = 3472

-- how many subcarriers a resource's name says it has
abbrev pub name_of : Resource → ℕ
name_of (Single s i) = size_of s
name_of (Joined w i) = joined_of w

abbrev pub number_of : Resource → ℕ
number_of (Single s i) = i
number_of (Joined w i) = i
