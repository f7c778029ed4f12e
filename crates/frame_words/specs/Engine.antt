-- Engine: what the words of a frame are made from beside its bytes, its row and the formats of its positions. The contracts of the code cite
-- it; nobody has to believe it.
use Rattle.std.specs.Prelude.{◌≡◌, List, cond, ℕ, ◌-◌, ◌/◌, ◌%◌, ◌^◌, ◌<◌, eqb, ltb, length, get_or}
use Rattle.channel.specs.Layout.{subfields_in, value}
use Rattle.frame_words.specs.Words.{position_in, shared_at, user_word_at}

-- the row r has channel c's values, of bytes s, at the channel's positions
pub record Holds (bw c : ℕ) (s r : List ℕ) : Type 0 where
  pub inside : (k : ℕ) → k < subfields_in bw c → position_in c k < length r
  pub holds : (k : ℕ) → k < subfields_in bw c → get_or r (position_in c k) 0 ≡ value bw s k

-- bit p of x is set where the fields of position p share their resource
pub record Formats (r : List ℕ) (x : ℕ) : Type 0 where
  pub format : (p : ℕ) → p < length r → eqb (x / 2 ^ p % 2) 1 ≡ shared_at r p

-- the word of the j-th User field over both channels, n of which are channel 1's
unfoldable pub user_word_of : ℕ → List ℕ → List ℕ → List ℕ → ℕ → ℕ → ℕ
user_word_of bw r a b n j = cond (ltb j n) (user_word_at bw r 1 a j) (user_word_at bw r 2 b (j - n))
