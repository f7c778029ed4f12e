-- 01's worked listing, byte for byte: "40 MHz, row (50, 26), STA-IDs 11 and 12, whole"; and with 02's T-01, where nobody has the second
-- resource.
use mathlib.Core.Path.{◌≡◌, refl}
use mathlib.Core.List.{List, [], ◌∷◌, ◌++◌}
use Prim.Native.Nat.{ℕ}
use Rattle.answer.specs.Least.{least}
use Rattle.answer.specs.Lists.{build}
use Rattle.bits.specs.Bits.{bit, field}
use Rattle.resource.specs.Values.{carried, pieces, fields_of, divides, piece_fields, own_pieces}
use Rattle.resource.specs.Index.{index_of, resource_at, position_of, place_of}
use Rattle.resource.specs.Tones.{tones_at, tones_of}
use Rattle.kinds.specs.Fields.{fields_in}
use Rattle.kinds.specs.Kinds.{kinds, kind_at, family, span, mask, takes, takes_block, blank_at, must_name}
use Rattle.kinds.specs.Engine.{sought, kind_of, name_of, settled}
use Rattle.segments.specs.Engine.{or_else, tells, choose, segment_plan}
use Rattle.spans.specs.Engine.{named, search, spans_in, part_plan}
use Rattle.plan.specs.Engine.{only_plan}
use Rattle.records.specs.Records.{lead, list_at}
use Rattle.records.specs.Engine.{lowest, owner_at, owner_of}
use Rattle.channel.specs.Layout.{positions, present, firsts, seconds, first_bits, second_at, second_bits, has_second, common, subfields, subfields_in}
use Rattle.channel.specs.Layout.{value_at, value, row_at, row, total, count, user_at}
use Rattle.text.specs.Text.{codes, dec, signed, upto}
use Rattle.resource_line.specs.ResourceLine.{name_text, comma, tones_text, ru_name, ru_head, ru_line}
use Rattle.lines.specs.Lines.{id_text, sta_line, head_text}
use Rattle.listed.specs.Listing.{ru_lines, owner_in, sta_line_at, sta_lines, stations_in, listing_of, listing}

-- channel 1 with the STA-IDs 11 and 12; with 11 and 2046; channel 2, which has no User field
abbrev both : List ℕ
both = 0 ∷ 0 ∷ 100 ∷ 36 ∷ 176 ∷ 0 ∷ 0 ∷ 48 ∷ 0 ∷ 0 ∷ 10 ∷ 0 ∷ []

abbrev one : List ℕ
one = 0 ∷ 0 ∷ 100 ∷ 36 ∷ 176 ∷ 0 ∷ 0 ∷ 248 ∷ 31 ∷ 0 ∷ 15 ∷ 0 ∷ []

abbrev second : List ℕ
second = 0 ∷ 0 ∷ 52 ∷ 8 ∷ 0 ∷ []

abbrev ru_text : List ℕ
ru_text = codes "ru=106 index=1 segment=0 users=1 tones=-243:-138\nru=106+26 index=2 segment=0 users=1 tones=-136:-111,-109:-4\n"

pub worked_listing :
    (listing 1 both second
    ≡ codes "answer=0\nbw=1\nresources=2\nfields1=2\nfields2=0\nstations=2\n" ++ ru_text ++ codes "sta=11 resource=1\nsta=12 resource=2\n")
    × (listing 1 one second
    ≡ codes "answer=0\nbw=1\nresources=2\nfields1=2\nfields2=0\nstations=1\n" ++ ru_text ++ codes "sta=11 resource=1\nsta=none resource=2\n")
unfolding count total present subfields_in subfields fields_of pieces carried positions row build row_at value value_at firsts seconds
    second_at first_bits second_bits field bit common has_second user_at only_plan part_plan spans_in search named settled segment_plan choose
    tells or_else name_of kind_of sought must_name blank_at takes_block takes mask span family kind_at kinds least fields_in dec signed upto
    own_pieces index_of resource_at position_of place_of tones_at tones_of divides piece_fields lead list_at lowest owner_at owner_of name_text comma
    tones_text ru_name ru_head ru_line id_text sta_line head_text ru_lines owner_in sta_line_at sta_lines stations_in listing_of listing
worked_listing = (refl, refl)
