-- The channels that words are written as, and whether there are any, as functions. An engine works them out, and nobody has to believe it: beside
-- them stands that they are any channels that read to the words (`Worked`), and `proofs/Worked.antt` shows it of all words (`worked`).
use Rattle.std.specs.Prelude.{◌≡◌, Bool, true, cond, List, ℕ, ◌≤◌, length}
use Rattle.std.specs.Prelude.{Ok}
use Rattle.bits.specs.Bits.{bit, Small, Same}
use Rattle.answer.specs.Decides.{Decides}
use Rattle.channel.specs.Layout.{present, count, end_of}
use Rattle.halves.specs.Table.{outcome11}
use Rattle.frame_words.specs.Words.{words_of}
use Rattle.candidate.specs.Length.{bytes_for}
use Rattle.candidate.specs.Engine.{needed, candidate}
use Rattle.judge.specs.Engine.{reads_to}

-- channels, of bytes a and b, that are accepted and read to exactly the words w
pub record ReadsTo (bw : ℕ) (a b w : List ℕ) : Type 0 where
  pub accepted : outcome11 bw a b ≡ Ok tt
  pub the_words : words_of bw a b ≡ w

-- there are such
abbrev pub SomeRead : ℕ → List ℕ → Type 0
SomeRead bw w = (a : List ℕ) × (b : List ℕ) × Small a × Small b × ReadsTo bw a b w

-- channel c of the words, and how many bytes a channel that is there has
abbrev pub the_channel : ℕ → List ℕ → ℕ → List ℕ
the_channel bw w c = candidate bw w c

abbrev pub the_bytes : ℕ → List ℕ → ℕ
the_bytes bw w = needed bw w

-- whether there are channels that read to the words
unfoldable pub some_read : ℕ → List ℕ → Bool
some_read bw w = reads_to bw (the_channel bw w 1) (the_channel bw w 2) w

-- s is "the same .., padding zero": t's bits up to t's own end as channel c, and zero from there on
pub record SameThenZero (bw c : ℕ) (t s : List ℕ) : Type 0 where
  pub same : Same t s (end_of bw (count bw c t))
  pub zero_past : (i : ℕ) → end_of bw (count bw c t) ≤ i → bit s i ≡ 0

pub record Worked (bw : ℕ) (w : List ℕ) : Type 0 where
  -- "no accepted channels read to exactly these words": the test is true exactly where some do
  pub some_read_fact : Decides (some_read bw w) (SomeRead bw w)
  -- where any do these do, and are the same channels, padding zero ..
  pub these : (a b : List ℕ) → ReadsTo bw a b w → ReadsTo bw (the_channel bw w 1) (the_channel bw w 2) w
  pub same_1 : (a b : List ℕ) → ReadsTo bw a b w → SameThenZero bw 1 a (the_channel bw w 1)
  pub same_2 : (a b : List ℕ) → ReadsTo bw a b w → present bw 2 ≡ true → SameThenZero bw 2 b (the_channel bw w 2)
  -- .. "both channels with the same number of bytes, just enough for the longer", and none of a channel that is not there
  pub the_bytes_fact : (a b : List ℕ) → ReadsTo bw a b w → the_bytes bw w ≡ bytes_for bw (count bw 1 a) (count bw 2 b)
  pub as_long : (c : ℕ) → length (the_channel bw w c) ≡ cond (present bw c) (the_bytes bw w) 0
