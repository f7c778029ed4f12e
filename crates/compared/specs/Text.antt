-- The differences as text (02, T-06), what `compare` answers and what the lent buffer holds.
use Rattle.std.specs.Prelude.{List, [], ◌∷◌, ◌++◌, ℕ, zero, suc, ◌+◌, ◌/◌, ◌%◌, ltb, length, drop, get_or}
use Rattle.answer.specs.Answer.{no, refuse_if, answer_at, after}
use Rattle.answer.specs.declared.Answer.{Answer}
use Rattle.answer.specs.Answer.{Outcome}
use Rattle.answer.specs.declared.Refusal.TheVariants.{BufferTooShort}
use Rattle.records.specs.declared.Record.{Record}
use Rattle.channel.specs.Layout.{row}
use Rattle.text.specs.Text.{codes, keyed, line}
use Rattle.input.specs.Form.{hex_digit}
use Rattle.resource_line.specs.ResourceLine.{ru_name}
use Rattle.lines.specs.Lines.{id_text}
use Rattle.listed.specs.Listing.{record_line}
use Rattle.compared.specs.Reading.{Item, refused_with, bandwidth_is, overflow_is, value_is, resource_is, user_is}
use Rattle.compared.specs.Differences.{Difference, comparison}

-- "names in sending order"
unfoldable pub overflow_name : ℕ → List ℕ
overflow_name k =
    get_or
    (codes "spatial-reuse="
    ∷ codes "gi-ltf="
    ∷ codes "ltf-symbols="
    ∷ codes "ldpc-extra="
    ∷ codes "pre-fec="
    ∷ codes "pe-disambiguity="
    ∷ codes "disregard="
    ∷ []) k []

-- the last k hex digits of n, the most significant first
abbrev pub hexs : ℕ → ℕ → List ℕ
hexs zero n = []
hexs (suc k) n = hexs k (n / 16) ++ (hex_digit (n % 16) ∷ [])

-- "the 22 bits as a number in six capital hex digits"
unfoldable pub bits_text : ℕ → List ℕ
bits_text f = hexs 6 f

-- "`user=` counts the User words from 1; `sta=` as the listing writes it": the STA-ID is the first 11 of the bits
unfoldable pub user_line : ℕ → ℕ → Record → List ℕ
user_line i f z =
    keyed (codes "user=") (i + 1)
    ++ codes " sta="
    ++ id_text (f % 2048)
    ++ codes " bits="
    ++ bits_text f
    ++ codes " "
    ++ ru_name z.segment z.resource
    ++ codes "\n"

-- what a line says, in a channel of n positions; of a resource "the listing's own line"
unfoldable pub item_line : ℕ → Item → List ℕ
item_line n (refused_with x) = keyed (codes "answer=") x.number ++ keyed (codes " channel=") x.channel ++ line (codes " place=") x.place
item_line n (bandwidth_is b) = line (codes "bw=") b
item_line n (overflow_is k v) = line (overflow_name k) v
item_line n (value_is p v) = keyed (codes "position=") p ++ line (codes " value=") v
item_line n (resource_is z) = record_line n z
item_line n (user_is i f z) = user_line i f z

-- "it begins `frame=1 ` or `frame=2 `, and ends with a line feed"
unfoldable pub side_text : ℕ → List ℕ
side_text s = keyed (codes "frame=") s ++ codes " "

unfoldable pub difference_line : ℕ → Difference → List ℕ
difference_line n d = side_text d.frame ++ item_line n d.what

unfoldable pub difference_lines : ℕ → List Difference → List ℕ
difference_lines n [] = []
difference_lines n (d ∷ ds) = difference_line n d ++ difference_lines n ds

-- resources are compared of frames of one bandwidth alone, so that either's positions will do
unfoldable pub comparison_text : ℕ → List ℕ → List ℕ → ℕ → List ℕ → List ℕ → List ℕ
comparison_text bw a b bw' a' b' = difference_lines (length (row bw a b)) (comparison bw a b bw' a' b')

-- ---- the call: "Accepted: the text's bytes as place (0: equal readings). 23 with the bytes needed."
unfoldable pub room_outcome : ℕ → ℕ → Outcome
room_outcome need room = refuse_if (ltb room need) (BufferTooShort need)

unfoldable pub text_answer : List ℕ → ℕ → Answer
text_answer t room = answer_at (room_outcome (length t) room) (length t)

-- "Bytes past the text keep what they held", and "Every refusal writes nothing"
unfoldable pub text_after : List ℕ → List ℕ → List ℕ
text_after t d = after (room_outcome (length t) (length d)) (t ++ drop (length t) d) d

-- "A refused frame is a line of the text, not a refusal of the call."
abbrev pub compare_answer : ℕ → List ℕ → List ℕ → ℕ → List ℕ → List ℕ → ℕ → Answer
compare_answer bw a b bw' a' b' room = text_answer (comparison_text bw a b bw' a' b') room

abbrev pub compare_after : ℕ → List ℕ → List ℕ → ℕ → List ℕ → List ℕ → List ℕ → List ℕ
compare_after bw a b bw' a' b' d = text_after (comparison_text bw a b bw' a' b') d
