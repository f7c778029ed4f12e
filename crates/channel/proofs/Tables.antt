-- The numbers that 01 gives of the layout: a common field's bits, the positions, the parts of the overflow.
use mathlib.Core.Path.{◌≡◌, refl}
use mathlib.Core.List.{List, [], ◌∷◌, map}
use Prim.Native.Nat.{ℕ, ◌+◌, ◌*◌}
use native.Mathlib.Omega.{arith}
use Rattle.answer.specs.Lists.{build}
use Rattle.bits.specs.Bits.{field}
use Rattle.bits.proofs.Fields.{field_split}
use Rattle.channel.specs.Layout.{positions, overflow, spatial_reuse, gi_ltf, ltf_symbols, ldpc_extra, pre_fec, pe_disambiguity}
use Rattle.channel.specs.Layout.{disregard, firsts, seconds, first_bits, second_at, second_bits, has_second, common}
use Rattle.channel.specs.Fields.{overflow_widths, Named, fields_from}

-- "A common field is thus 36, 36, 45, 73 or 109 bits."
pub common_table : build common 5 ≡ 36 ∷ 36 ∷ 45 ∷ 73 ∷ 109 ∷ []
unfolding build common second_at second_bits first_bits has_second firsts seconds
common_table = refl

pub positions_table : build positions 5 ≡ 1 ∷ 2 ∷ 4 ∷ 8 ∷ 16 ∷ []
unfolding build positions
positions_table = refl

-- the fields of the overflow are the list's
pub overflow_named : (s : List ℕ)
    → spatial_reuse s ∷ gi_ltf s ∷ ltf_symbols s ∷ ldpc_extra s ∷ pre_fec s ∷ pe_disambiguity s ∷ disregard s ∷ []
    ≡ map (λ (f : Named). field s f.first f.width) (fields_from 0 overflow_widths)
overflow_named s = refl

-- the overflow is its parts, lowest first, with no bit between them
pub overflow_parts : (s : List ℕ)
    → overflow s
    ≡ spatial_reuse s + 16 * (gi_ltf s + 4 * (ltf_symbols s + 8 * (ldpc_extra s + 2 * (pre_fec s + 4 * (pe_disambiguity s + 2 * disregard s)))))
overflow_parts s =
    omega (
      arith,
      field_split s 0 4 13,
      field_split s 4 2 11,
      field_split s 6 3 8,
      field_split s 9 1 7,
      field_split s 10 2 5,
      field_split s 12 1 4,
    )
