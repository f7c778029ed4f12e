-- The second demand holds.
use mathlib.Core.Path.{◌≡◌}
use mathlib.Core.Bool.{true}
use mathlib.Core.List.{List}
use Prim.Native.Nat.{ℕ, ◌≤◌}
use lib.ListN.{length, take}
use Rattle.answer.specs.Answer.{no}
use Rattle.bits.specs.Bits.{Small}
use Rattle.block.proofs.Remainder.{check_is}
use Rattle.channel.specs.Layout.{present}
use Rattle.frame_words.specs.Words.{SameFrame}
use Rattle.reader.specs.Result.{read_answer, words_after}
use Rattle.writer.specs.Inverse.{Accepts, GivenBack}
use Rattle.writer.proofs.Inverse.{write_after_read, read_after_write, thirteen_none, none_thirteen, equal_words}
use Rattle.claims.specs.Calls.{Call, WriteCall, Reads, reads, Writes, writes}
use Rattle.claims.specs.Formats.{UserWords}
use Rattle.claims.specs.Second.{bytes_of, words_read, written_1, written_2, Second}
use Rattle.claims.proofs.Formats.{user_words}

is : (c : Call) → Reads c
    → (c.answer ≡ read_answer c.bandwidth c.channel_1 c.channel_2 (length c.lent))
    × (c.after ≡ words_after c.bandwidth c.channel_1 c.channel_2 c.lent)
is c (reads κs a r s p) = (p.0, p.1)

formats : (c : Call) → Reads c → c.answer.number ≡ 0 → UserWords c.bandwidth c.channel_1 c.channel_2 c.after
formats c (reads κs a r s p) = user_words κs a r s p

all_said : (c c' : Call) → Reads c → Reads c' → c.answer.number ≡ 0 → c'.answer.number ≡ 0 → words_read c ≡ words_read c'
    → SameFrame c.bandwidth c.channel_1 c.channel_2 c'.bandwidth c'.channel_1 c'.channel_2
all_said c c' (reads κs a r s p) (reads κs' a' r' s' p') = equal_words κs a r s κs' a' r' s' p p'

written_back : (c : Call) (d : WriteCall) → Reads c → Writes d → c.answer.number ≡ 0
    → d.bandwidth ≡ c.bandwidth → d.words ≡ words_read c
    → bytes_of c ≤ length d.lent_1 → (present c.bandwidth 2 ≡ true → bytes_of c ≤ length d.lent_2)
    → GivenBack c.bandwidth c.channel_1 c.channel_2 d.lent_1 d.lent_2 d.after_1 d.after_2 d.answer
written_back c d (reads κs a r s p) (writes κs' a' r' s' q) = write_after_read κs a r s κs' a' r' s' p q

read_back : (d : WriteCall) (c : Call) → Writes d → Reads c → d.answer.number ≡ 0
    → c.bandwidth ≡ d.bandwidth → c.channel_1 ≡ written_1 d → c.channel_2 ≡ written_2 d
    → length d.words ≤ length c.lent
    → (c.answer ≡ no 0 0 (length d.words)) × (take (length d.words) c.after ≡ d.words)
read_back d c (writes κs a r s p) (reads κs' a' r' s' q) = read_after_write κs a r s κs' a' r' s' p q

none_read : (d : WriteCall) → Writes d → d.bandwidth ≤ 4
    → ((x y w : List ℕ) → Small x → Small y → Accepts d.bandwidth x y w d.words → ⊥) → d.answer.number ≡ 13
none_read d (writes κs a r s p) = none_thirteen κs a r s p

refused_none : (d : WriteCall) → Writes d → d.answer.number ≡ 13 → (x y w : List ℕ) → Accepts d.bandwidth x y w d.words → ⊥
refused_none d (writes κs a r s p) = thirteen_none κs a r s p

pub second_demand : Second
second_demand = record {
  reading_is = is;
  checks_are = check_is;
  user_words_are = formats;
  words_say_all = all_said;
  writing_gives_back = written_back;
  reading_gives_back = read_back;
  words_of_none_refused = none_read;
  only_words_of_none_refused = refused_none;
}
