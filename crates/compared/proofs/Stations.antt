-- The station that a line of a User field names is the field's (02, T-06: "sta= as the listing writes it"): the lowest 11 of its 22 bits.
use mathlib.Core.Path.{◌≡◌}
use mathlib.Core.Bool.{Bool, true, false, cond}
use mathlib.Core.List.{List}
use Prim.Native.Nat.{ℕ, ◌-◌, ◌%◌}
use native.Mathlib.Omega.{arith}
use lib.Dec.{ltb}
use Rattle.bits.specs.Bits.{field}
use Rattle.bits.proofs.Fields.{field_split, field_lt}
use Rattle.channel.specs.Layout.{user_at}
use Rattle.stations.specs.Stations.{station_at, station_of}
use Rattle.compared.specs.Reading.{user_bits}

lowest_11 : (s : List ℕ) (at : ℕ) → field s at 22 % 2048 ≡ field s at 11
lowest_11 s at = omega (arith, field_split s at 11 11, field_lt s at 11)

pub station_bits : (bw : ℕ) (a b : List ℕ) (m i : ℕ) → user_bits bw a b m i % 2048 ≡ station_of bw a b m i
unfolding user_bits
station_bits bw a b m i = go (ltb i m)
  where
    go : (t : Bool) → cond t (field a (user_at bw i) 22) (field b (user_at bw (i - m)) 22) % 2048 ≡ cond t (station_at bw a i) (station_at bw b (i - m))
    go true = lowest_11 a (user_at bw i)
    go false = lowest_11 b (user_at bw (i - m))
