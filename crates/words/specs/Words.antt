-- The radiotap EHT words (002) of the parts of a frame; 01, "What comes back": "Words, lent as 32-bit numbers: known,
-- nine data words, one per User field, channel 1 first." Fields of a channel and of a word go lowest bit first.
--
use Rattle.std.specs.Prelude.{Bool, true, false, cond, List, [], ◌∷◌, ℕ, ◌+◌, ◌%◌, ◌^◌, ltb}
use Rattle.answer.specs.Lists.{at}
use Rattle.header_values.specs.Header.{known, ltf_size_of, gi_of}
use Rattle.channel.specs.Fields.{overflow_widths}
use Rattle.bits.specs.Pack.{pack, unpack}

-- 002, data[0]: reserved 0x7, Spatial Reuse 0x78, GI 0x180, LTF symbol size 0x600, number of LTF symbols 0x3800, LDPC
-- extra symbol segment 0x4000, Pre-FEC padding factor 0x18000, PE Disambiguity 0x20000, Disregard 0x3c0000, CRC1
-- 0x3c00000 and Tail1 0xfc000000, here as one: a channel's check and tail follow each other likewise
abbrev pub data0_widths : List ℕ
data0_widths = 3 ∷ 4 ∷ 2 ∷ 2 ∷ 3 ∷ 1 ∷ 2 ∷ 1 ∷ 4 ∷ 10 ∷ []

-- data[0]'s values, of those of the overflow's named fields (01, "Layout of a channel") in their order and of the ten bits of check and tail
abbrev pub data0_of : List ℕ → ℕ → List ℕ
data0_of vs t =
    0
    ∷ at vs 0
    ∷ gi_of (at vs 1)
    ∷ ltf_size_of (at vs 1)
    ∷ at vs 2
    ∷ at vs 3
    ∷ at vs 4
    ∷ at vs 5
    ∷ at vs 6
    ∷ t
    ∷ []

unfoldable pub overflow_word : ℕ → ℕ → ℕ
overflow_word v t = pack data0_widths (data0_of (unpack overflow_widths v) t)

-- 002: an RU Allocation of nine bits and above them its known bit; neither where the bandwidth has no such subfield
unfoldable pub value_slot : (ℕ → ℕ) → ℕ → ℕ → ℕ
value_slot row n p = cond (ltb p n) (pack (9 ∷ 1 ∷ []) (row p % 2 ^ 9 ∷ 1 ∷ [])) 0

-- data[1]: RU Allocation 1, of position 0, at 0x3fe000, known by 0x400000
unfoldable pub first_word : (ℕ → ℕ) → ℕ → ℕ
first_word row n = pack (13 ∷ 10 ∷ []) (0 ∷ value_slot row n 0 ∷ [])

-- data[2] to data[6]: three each, from position p on. 002's order, channel 1's and channel 2's in turn, is that of the
-- positions.
unfoldable pub triple_word : (ℕ → ℕ) → ℕ → ℕ → ℕ
triple_word row n p = pack (10 ∷ 10 ∷ 10 ∷ []) (value_slot row n p ∷ value_slot row n (p + 1) ∷ value_slot row n (p + 2) ∷ [])

-- data[7]: CRC2 0xf and Tail2 0x3f0, which 160 and 320 MHz have
unfoldable pub second_word : ℕ → ℕ → ℕ
second_word bw t = cond (ltb bw 3) 0 t

-- known, data[0] to data[8]: of the bandwidth code, overflow, first and second check with tail, and row of n positions
abbrev pub header : ℕ → ℕ → ℕ → ℕ → (ℕ → ℕ) → ℕ → List ℕ
header bw v t t₂ row n =
    known bw
    ∷ overflow_word v t
    ∷ first_word row n
    ∷ triple_word row n 1
    ∷ triple_word row n 4
    ∷ triple_word row n 7
    ∷ triple_word row n 10
    ∷ triple_word row n 13
    ∷ second_word bw t₂
    ∷ 0
    ∷ []

-- "A User field alone on its resource: STA-ID 11, MCS 4, reserved 1, NSS 4, beamformed 1, coding 1."
abbrev pub alone_widths : List ℕ
alone_widths = 11 ∷ 4 ∷ 1 ∷ 4 ∷ 1 ∷ 1 ∷ []

-- 002: known 0xff, STA-ID 0x7ff00, Coding 0x80000, MCS 0xf00000, NSS 0xf000000, Reserved 0x10000000, Beamforming 0x20000000
abbrev pub alone_word_widths : List ℕ
alone_word_widths = 8 ∷ 11 ∷ 1 ∷ 4 ∷ 4 ∷ 1 ∷ 1 ∷ []

-- the word's values, of the field's in their order: STA-ID, coding, MCS, NSS, reserved, beamformed
abbrev pub alone_of : List ℕ → List ℕ
alone_of vs = 0x3F ∷ at vs 0 ∷ at vs 5 ∷ at vs 1 ∷ at vs 3 ∷ at vs 2 ∷ at vs 4 ∷ []

-- "Where the resource has two or more fields over both channels together: STA-ID 11, MCS 4, coding 1, spatial
-- configuration 6."
abbrev pub shared_widths : List ℕ
shared_widths = 11 ∷ 4 ∷ 1 ∷ 6 ∷ []

-- 002: known 0xff, STA-ID 0x7ff00, Coding 0x80000, MCS 0xf00000, Spatial Configuration 0x3f000000
abbrev pub shared_word_widths : List ℕ
shared_word_widths = 8 ∷ 11 ∷ 1 ∷ 4 ∷ 6 ∷ []

-- STA-ID, coding, MCS, spatial configuration
abbrev pub shared_of : List ℕ → List ℕ
shared_of vs = 0x47 ∷ at vs 0 ∷ at vs 2 ∷ at vs 1 ∷ at vs 3 ∷ []

-- "User words: known bits 0x3F, or 0x47 on a shared resource": the word of a User field of 22 bits
unfoldable pub user_word : Bool → ℕ → ℕ
user_word true f = pack shared_word_widths (shared_of (unpack shared_widths f))
user_word false f = pack alone_word_widths (alone_of (unpack alone_widths f))
