-- The first demand, of the program: every text gets exactly one of the three lines of 22, a refusal's three lines, or a listing.
--
-- 01, "Listing": "The program reads the lines bw= (one decimal digit), cc1=, cc2= (pairs of hex digits, capital letters, perhaps none), each
-- ended by a line feed and nothing after"; "A refusal is answer=, channel=, place=, three lines, by the program"; "22 is first of all".
--
-- Calls of `responding::respond` are `Calls.antt`'s: all that its contract allows. What the program's text is, and which line of another is the
-- first wrong one, is `input/specs/Form.antt`.
use Rattle.std.specs.Prelude.{◌≡◌, ◌⊎◌, List, ◌++◌, ℕ, ◌≤◌, length, drop}
use Rattle.answer.specs.declared.Answer.{Answer}
use Rattle.answer.specs.declared.Refusal.{Refusal}
use Rattle.answer.specs.Answer.{answer_of}
use Rattle.std.specs.Prelude.{Ok, Err}
use Rattle.halves.specs.Table.{outcome11}
use Rattle.text.specs.Text.{codes, line}
use Rattle.input.specs.Worked.{TextOf, PlaceOf22}
use Rattle.listed.specs.Listing.{listing}
use Rattle.claims.specs.Calls.{Call, TextCall, Reads, Responds}

-- what a text can get
pub data Response : Type 0 where
  says_22 : ℕ → Response
  says_refusal : Answer → Response
  says_listing : ℕ → List ℕ → List ℕ → Response

-- and when: "program text over 8,192 bytes, else not the three lines named under Listing | 0, 0; else first wrong line"; of the three lines, what
-- 1 to 11 say of the frame that they spell
pub data Gets (s : List ℕ) : Response → Type 0 where
  gets_22 : (k : ℕ) → PlaceOf22 k s → Gets s (says_22 k)
  gets_refusal : (bw : ℕ) (a b : List ℕ) (x : Refusal) → TextOf s bw a b → outcome11 bw a b ≡ Err x → Gets s (says_refusal (answer_of x))
  gets_listing : (bw : ℕ) (a b : List ℕ) → TextOf s bw a b → outcome11 bw a b ≡ Ok tt → Gets s (says_listing bw a b)

-- "answer=, channel=, place=, three lines"
abbrev pub lines_for : ℕ → ℕ → ℕ → List ℕ
lines_for number channel place = line (codes "answer=") number ++ line (codes "channel=") channel ++ line (codes "place=") place

abbrev pub text_for : Response → List ℕ
text_for (says_22 k) = lines_for 22 0 k
text_for (says_refusal x) = lines_for x.number x.channel x.place
text_for (says_listing bw a b) = listing bw a b

-- "answer=": 0 with a listing, else the refusal's number
abbrev pub number_in : Response → ℕ
number_in (says_22 k) = 22
number_in (says_refusal x) = x.number
number_in (says_listing bw a b) = 0

-- a reading of the frame that the text s spells
pub record Reading (s : List ℕ) (c : Call) : Type 0 where
  pub is_read : Reads c
  pub is_said : TextOf s c.bandwidth c.channel_1 c.channel_2

pub record Program : Type 0 where
  -- "each .. ends with an acceptance or one numbered refusal": one of these, and no other
  pub exactly_one : (s : List ℕ) → (x : Response) × Gets s x × ((y : Response) → Gets s y → y ≡ x)
  -- and it is what is written
  pub writes : (c : TextCall) → Responds c → (x : Response) → Gets c.text x
      → (c.bytes ≡ length (text_for x)) × (c.bytes ≤ length c.lent → c.after ≡ text_for x ++ drop c.bytes c.lent)
  -- its first line tells which
  pub first_line : (x : Response) → (rest : List ℕ) × (text_for x ≡ line (codes "answer=") (number_in x) ++ rest)
  -- a refusal is the one that every reading of the frame gives, 1 to 11; where there is none, a reading gives the words, or 12
  pub as_read : (s : List ℕ) (c : Call) → Reading s c → (x : Answer) → Gets s (says_refusal x)
      → (c.answer ≡ x) × (1 ≤ x.number) × (x.number ≤ 11)
  pub or_read : (s : List ℕ) (c : Call) → Reading s c → (bw : ℕ) (a b : List ℕ) → Gets s (says_listing bw a b)
      → (c.answer.number ≡ 0) ⊎ (c.answer.number ≡ 12)
  -- a buffer of 10,131 bytes, the program's, always does
  pub always_room : (c : TextCall) → Responds c → c.bytes ≤ 10131
  -- any two results that are allowed for one input agree
  pub agree : (c c' : TextCall) → Responds c → Responds c' → c.text ≡ c'.text → c.lent ≡ c'.lent
      → (c.bytes ≡ c'.bytes) × (c.after ≡ c'.after)
