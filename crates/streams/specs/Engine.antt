-- Engine: what the code holds of each User field, and what it makes of it. The contracts of the code cite it; nobody has to believe it:
-- `proofs/Frame.antt`.
use Rattle.std.specs.Prelude.{Bool, not, List, ℕ, ◌+◌, ◌/◌, ◌%◌, ◌≤◌, ◌<◌, ltb, length, replicate, drop}
use Rattle.answer.specs.Answer.{no, refuse_if, ◌or◌, answer_at, after}
use Rattle.answer.specs.Every.{every}
use Rattle.answer.specs.Lists.{at, build, filled}
use Rattle.answer.specs.declared.Answer.{Answer}
use Rattle.answer.specs.Answer.{Outcome}
use Rattle.answer.specs.declared.Refusal.TheVariants.{NoSuchStreams, BufferTooShort}
use Rattle.kinds.specs.Signals.{Signals}
use Rattle.plan.specs.Engine.{only_plan}
use Rattle.turns.specs.Turns.{fields_in}
use Rattle.turns.specs.Engine.{turn_code}
use Rattle.channel.specs.Layout.{positions}
use Rattle.words.specs.Engine.{value_of}
use Rattle.words.specs.Words.{alone_word_widths, shared_word_widths}
use Rattle.bits.specs.Pack.{unpack}
use Rattle.streams.specs.Streams.{streams_by, none_by}

-- a code says which of its resource's fields a field is, and from 256 on of how many: none over eight
pub record Coded (n : ℕ) (codes : List ℕ) : Type 0 where
  pub turn : (x : ℕ) → x < n → at codes x % 256 < at codes x / 256
  pub few : (x : ℕ) → x < n → at codes x / 256 ≤ 8

-- ---- of a User word, whose format is that of a resource with so many users
abbrev pub word_station : ℕ → ℕ
word_station w = at (unpack shared_word_widths w) 1

abbrev pub word_nss : ℕ → ℕ
word_nss w = at (unpack alone_word_widths w) 4

abbrev pub word_configuration : ℕ → ℕ
word_configuration w = at (unpack shared_word_widths w) 4

unfoldable pub word_none : ℕ → ℕ → Bool
word_none users w = none_by users (word_station w) (word_configuration w)

unfoldable pub word_streams : ℕ → ℕ → ℕ → ℕ
word_streams users t w = streams_by users t (word_station w) (word_nss w) (word_configuration w)

-- of the codes and the User words
unfoldable pub named_in : List ℕ → List ℕ → ℕ → Bool
named_in codes words x = not (word_none (at codes x / 256) (at words x))

unfoldable pub streams_in : List ℕ → List ℕ → ℕ → ℕ
streams_in codes words x = word_streams (at codes x / 256) (at codes x % 256) (at words x)

unfoldable pub all_named : List ℕ → List ℕ → Bool
all_named codes words = every (named_in codes words) (length words)

-- 21 and 23, with room for so many bytes
unfoldable pub outcome_in : List ℕ → List ℕ → ℕ → Outcome
outcome_in codes words room = refuse_if (not (all_named codes words)) NoSuchStreams or refuse_if (ltb room (length words)) (BufferTooShort (length words))

unfoldable pub answer_in : List ℕ → List ℕ → ℕ → Answer
answer_in codes words room = answer_at (outcome_in codes words room) (length words)

unfoldable pub after_in : List ℕ → List ℕ → List ℕ → List ℕ
after_in codes words d = after (outcome_in codes words (length d)) (filled (streams_in codes words) (length words) d) d

-- ---- of the words of a frame
-- the codes of a row's fields
unfoldable pub codes_of : List ℕ → List ℕ
codes_of row = filled (turn_code row) (fields_in 1 row + fields_in 2 row) (replicate 144 0)

-- the row that the words have
unfoldable pub row_of : ℕ → List ℕ → List ℕ
row_of bw words = build (value_of words) (positions bw)

-- they are those of an accepted frame
pub record Worded (bw : ℕ) (words : List ℕ) : Type 0 where
  pub ten : 10 ≤ length words
  pub most : length words ≤ 154
  pub signals : Signals (only_plan (at (row_of bw words))) (at (row_of bw words)) 0 (length (row_of bw words))
  pub coded : Coded (length (drop 10 words)) (codes_of (row_of bw words))

unfoldable pub words_answer : ℕ → List ℕ → ℕ → Answer
words_answer bw words room = answer_in (codes_of (row_of bw words)) (drop 10 words) room

unfoldable pub words_streams : ℕ → List ℕ → List ℕ → List ℕ
words_streams bw words d = after_in (codes_of (row_of bw words)) (drop 10 words) d
