-- Engine: from words back to the parts of a frame, as the writer takes them. The contracts of the code cite it; nobody has to believe it: what
-- the writer gives is said by the reader alone (`writer/specs`), and `proofs/Laws.antt` shows that these parts are those that the words were made of.
use Rattle.std.specs.Prelude.{Bool, true, false, cond, List, [], ◌∷◌, ℕ, ◌+◌, ◌-◌, ◌*◌, ◌/◌, ◌%◌, ◌^◌, eqb}
use Rattle.channel.specs.Fields.{overflow_widths}
use Rattle.bits.specs.Pack.{pack, unpack}
use Rattle.answer.specs.Lists.{at}
use Rattle.words.specs.Words.{data0_widths, alone_widths, alone_word_widths, shared_widths, shared_word_widths}

-- the GI+LTF that gives a GI and an LTF size; pairs that none gives have one too, and do not read back
abbrev pub gi_ltf : ℕ → ℕ → ℕ
gi_ltf gi size = cond (eqb size 3) (cond (eqb gi 2) 3 2) (gi % 2)

-- the overflow of data[0]
abbrev pub overflow_in : List ℕ → List ℕ
overflow_in vs =
    at vs 1 ∷ gi_ltf (at vs 2) (at vs 3) ∷ at vs 4 ∷ at vs 5 ∷ at vs 6 ∷ at vs 7 ∷ at vs 8 ∷ []

unfoldable pub overflow_of : ℕ → ℕ
overflow_of w = pack overflow_widths (overflow_in (unpack data0_widths w))

-- the RU Allocation value of position p: word 2 at bit 13, then three to a word
unfoldable pub value_of : List ℕ → ℕ → ℕ
value_of ws p =
    cond (eqb p 0) (at ws 2 / 2 ^ 13 % 2 ^ 9) (at ws (3 + (p - 1) / 3) / 2 ^ (10 * ((p - 1) % 3)) % 2 ^ 9)

abbrev pub alone_in : List ℕ → List ℕ
alone_in vs = at vs 1 ∷ at vs 3 ∷ at vs 5 ∷ at vs 4 ∷ at vs 6 ∷ at vs 2 ∷ []

abbrev pub shared_in : List ℕ → List ℕ
shared_in vs = at vs 1 ∷ at vs 3 ∷ at vs 2 ∷ at vs 4 ∷ []

abbrev pub field_in : Bool → ℕ → ℕ
field_in true w = pack shared_widths (shared_in (unpack shared_word_widths w))
field_in false w = pack alone_widths (alone_in (unpack alone_word_widths w))

-- the User field of a User word, whose known bits tell its format
unfoldable pub user_field : ℕ → ℕ
user_field w = field_in (eqb (w % 256) 0x47) w

-- whether the RU Allocation of position p is marked known
unfoldable pub known_of : List ℕ → ℕ → ℕ
known_of ws p =
    cond (eqb p 0) (at ws 2 / 2 ^ 22 % 2) (at ws (3 + (p - 1) / 3) / 2 ^ (10 * ((p - 1) % 3)) / 2 ^ 9 % 2)
