-- 004's example: what walking its channel 2 comes to.
--
-- 01, "Bench checks": "004's example: row (26,97,29,29,120,29,28,50). Channel 2: BF E6 C3 74 58 A0 83 8C 07 42 AB 09 D1 52 62 00 D2 52 A8 B4 17
-- 32 00." Channel 2 holds the odd positions' values, 97, 29, 29 and 50, so four User fields, with STA-IDs 1441, 1442, 1444 and 1445.
use mathlib.Core.Path.{◌≡◌, refl}
use mathlib.Core.List.{List, [], ◌∷◌}
use Prim.Native.Nat.{ℕ, ◌%◌}
use Rattle.answer.specs.Lists.{build, filled}
use Rattle.bits.specs.Bits.{bit, field, lacks}
use Rattle.resource.specs.Values.{carried, pieces, fields_of}
use Rattle.channel.specs.Layout.{present, firsts, seconds, first_bits, second_at, second_bits, has_second, common}
use Rattle.channel.specs.Layout.{subfields, subfields_in, value_at, value, total, count, user_at, end_of}
use Rattle.position.specs.Walk.{user, first_lacking, whole}

abbrev channel2 : List ℕ
channel2 =
    0xBF ∷ 0xE6 ∷ 0xC3 ∷ 0x74 ∷ 0x58 ∷ 0xA0 ∷ 0x83 ∷ 0x8C ∷ 0x07 ∷ 0x42 ∷ 0xAB ∷ 0x09 ∷ 0xD1 ∷ 0x52 ∷ 0x62 ∷ 0x00 ∷ 0xD2 ∷ 0x52 ∷ 0xA8 ∷ 0xB4 ∷ 0x17
    ∷ 0x32 ∷ 0x00 ∷ []

pub walked_values : (whole 3 channel2).values ≡ 97 ∷ 29 ∷ 29 ∷ 50 ∷ 0 ∷ 0 ∷ 0 ∷ 0 ∷ []
unfolding build filled bit field firsts seconds first_bits second_at subfields value_at value whole
walked_values = refl

counted : count 3 1 channel2 ≡ 4
unfolding bit field carried pieces fields_of present firsts seconds first_bits second_at subfields subfields_in value_at value total count
counted = refl

pub walked_count : (whole 3 channel2).count ≡ 4
unfolding whole
walked_count = counted

pub walked_stations : build (λ i. user 3 channel2 i % 2048) 4 ≡ 1441 ∷ 1442 ∷ 1444 ∷ 1445 ∷ []
unfolding build bit field firsts seconds first_bits second_at second_bits has_second common user_at user
walked_stations = refl

-- 23 bytes are three bits more than it takes
pub walked_end : ((whole 3 channel2).end ≡ 181) × ((whole 3 channel2).lacking ≡ 0)
unfolding lacks firsts seconds first_bits second_at second_bits has_second common end_of first_lacking whole
walked_end = rw counted (refl, refl)
