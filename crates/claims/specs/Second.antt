-- The second demand.
--
-- "Reading is what IEEE 802.11be and the radiotap EHT page say, to the bit: checks, tails, layout, User fields, words. Writing those words
-- gives the same channels back, padding zero, up to the end of the longer channel's last block. Words that no accepted pair of channels reads
-- to are refused."
--
-- Calls of `reader::read` and `writer::write` are `Calls.antt`'s: all that their contracts allow.
use Rattle.std.specs.Prelude.{◌≡◌, true, cond, List, ℕ, ◌≤◌, length, take}
use Rattle.answer.specs.Answer.{no}
use Rattle.bits.specs.Bits.{Small}
use Rattle.block.specs.Remainder.{CheckIs}
use Rattle.channel.specs.Layout.{present, count}
use Rattle.frame_words.specs.Words.{SameFrame}
use Rattle.reader.specs.Result.{read_answer, words_after}
use Rattle.candidate.specs.Length.{bytes_for}
use Rattle.writer.specs.Inverse.{Accepts, GivenBack}
use Rattle.claims.specs.Formats.{UserWords}
use Rattle.claims.specs.Calls.{Call, WriteCall, Reads, Writes}

-- how many bytes each channel of a frame that was read is written in
abbrev pub bytes_of : Call → ℕ
bytes_of c = bytes_for c.bandwidth (count c.bandwidth 1 c.channel_1) (count c.bandwidth 2 c.channel_2)

-- the words of an accepted reading
abbrev pub words_read : Call → List ℕ
words_read c = take c.answer.place c.after

-- what a channel that was written holds of it: channel 1; and channel 2, none at 20 MHz
abbrev pub written_1 : WriteCall → List ℕ
written_1 d = take d.answer.place d.after_1

abbrev pub written_2 : WriteCall → List ℕ
written_2 d = take (cond (present d.bandwidth 2) d.answer.place 0) d.after_2

pub record Second : Type 1 where
  -- "Reading is what IEEE 802.11be and the radiotap EHT page say, to the bit": as 01's table and words, `reader`'s Table, Words and Result
  pub reading_is : (c : Call) → Reads c
      → (c.answer ≡ read_answer c.bandwidth c.channel_1 c.channel_2 (length c.lent))
      × (c.after ≡ words_after c.bandwidth c.channel_1 c.channel_2 c.lent)
  -- "checks": the check of any bits is made of their remainder by x^8+x^2+x+1, and of no other number
  pub checks_are : (s : List ℕ) (at n : ℕ) → CheckIs s at n
  -- "User fields, words.": each User word is that of its field, in the format of the resource that owns it in any plan of the row
  pub user_words_are : (c : Call) → Reads c → c.answer.number ≡ 0
      → UserWords c.bandwidth c.channel_1 c.channel_2 c.after
  -- and the words say all of the frame: equal words are of equal bandwidth, row, overflow and User fields
  pub words_say_all : (c c' : Call) → Reads c → Reads c' → c.answer.number ≡ 0 → c'.answer.number ≡ 0 → words_read c ≡ words_read c'
      → SameFrame c.bandwidth c.channel_1 c.channel_2 c'.bandwidth c'.channel_1 c'.channel_2
  -- "Writing those words gives the same channels back, padding zero, up to the end of the longer channel's last block."
  pub writing_gives_back : (c : Call) (d : WriteCall) → Reads c → Writes d → c.answer.number ≡ 0
      → d.bandwidth ≡ c.bandwidth → d.words ≡ words_read c
      → bytes_of c ≤ length d.lent_1 → (present c.bandwidth 2 ≡ true → bytes_of c ≤ length d.lent_2)
      → GivenBack c.bandwidth c.channel_1 c.channel_2 d.lent_1 d.lent_2 d.after_1 d.after_2 d.answer
  -- and what was written reads to the same words
  pub reading_gives_back : (d : WriteCall) (c : Call) → Writes d → Reads c → d.answer.number ≡ 0
      → c.bandwidth ≡ d.bandwidth → c.channel_1 ≡ written_1 d → c.channel_2 ≡ written_2 d
      → length d.words ≤ length c.lent
      → (c.answer ≡ no 0 0 (length d.words)) × (take (length d.words) c.after ≡ d.words)
  -- "Words that no accepted pair of channels reads to are refused.": with 13, exactly where there is no such pair, of bytes
  pub words_of_none_refused : (d : WriteCall) → Writes d → d.bandwidth ≤ 4
      → ((x y w : List ℕ) → Small x → Small y → Accepts d.bandwidth x y w d.words → ⊥) → d.answer.number ≡ 13
  pub only_words_of_none_refused : (d : WriteCall) → Writes d → d.answer.number ≡ 13
      → (x y w : List ℕ) → Accepts d.bandwidth x y w d.words → ⊥
