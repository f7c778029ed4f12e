-- How many bytes a written channel has. 01, "What comes back": "both channels with the same number of bytes, just enough for the longer".
use Rattle.std.specs.Prelude.{cond, ℕ, ◌+◌, ◌/◌, ltb}
use Rattle.channel.specs.Layout.{end_of}

-- ---- the channels

unfoldable pub longer : ℕ → ℕ → ℕ
longer x y = cond (ltb x y) y x

-- "both channels with the same number of bytes, just enough for the longer", of n and m fields
unfoldable pub bytes_for : ℕ → ℕ → ℕ → ℕ
bytes_for bw n m = (longer (end_of bw n) (end_of bw m) + 7) / 8
