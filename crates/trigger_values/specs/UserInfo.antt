-- The EHT variant User Info field of a Trigger frame (02, T-02; 001, figure 9-64d1): an entry of five bytes.
use Rattle.std.specs.Prelude.{List, [], ◌∷◌, ℕ, ◌/◌, ◌^◌}
use Rattle.answer.specs.Lists.{at}
use Rattle.bits.specs.Bits.{field, bytes}
use Rattle.bits.specs.Pack.{unpack}

-- the 40 bits of an entry as a number, "lowest bit first"
abbrev pub info_of : List ℕ → ℕ
info_of e = field e 0 40

-- "AID12 12, RU Allocation 8, coding 1, MCS 4, reserved 1, SS 6, target power 7, PS160 1": the RU Allocation as B0 and B7-B1
abbrev pub info_widths : List ℕ
info_widths = 12 ∷ 1 ∷ 7 ∷ 1 ∷ 4 ∷ 1 ∷ 6 ∷ 7 ∷ 1 ∷ []

-- ---- the fields of the 40 bits x
unfoldable pub part : ℕ → ℕ → ℕ
part x k = at (unpack info_widths x) k

abbrev pub aid12 : ℕ → ℕ
aid12 x = part x 0

abbrev pub b0 : ℕ → ℕ
b0 x = part x 1

-- B7-B1
abbrev pub value_in : ℕ → ℕ
value_in x = part x 2

abbrev pub coding : ℕ → ℕ
coding x = part x 3

abbrev pub mcs : ℕ → ℕ
mcs x = part x 4

abbrev pub reserved : ℕ → ℕ
reserved x = part x 5

abbrev pub spatial : ℕ → ℕ
spatial x = part x 6

abbrev pub power : ℕ → ℕ
power x = part x 7

abbrev pub ps160 : ℕ → ℕ
ps160 x = part x 8

-- ---- and back: the five bytes of 40 bits
unfoldable pub entry_of : ℕ → List ℕ
entry_of x = bytes (λ i. x / 2 ^ i) 5
