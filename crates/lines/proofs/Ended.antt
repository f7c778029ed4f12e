-- The tables of short numbers with the ends of their lines: what each entry has is computed.
use mathlib.Core.Bool.{Bool, ◌&&◌}
use mathlib.Core.List.{◌++◌}
use Prim.Native.Nat.{ℕ, ◌+◌, ◌/◌}
use lib.Dec.{T, leb, leb→le}
use lib.ListN.{take}
use Rattle.resource.proofs.Test.{both_left, both_right}
use Rattle.text.specs.Text.{codes, dec}
use Rattle.stores.specs.Engine.{bytes_of}
use Rattle.stores.proofs.Laws.{same, same_equal}
use Rattle.lines.specs.Engine.{Ended, Tailed}

abbrev pub ended_test : ℕ → ℕ → Bool
ended_test n w = (leb 2 (w / 4294967296) && leb (w / 4294967296) 4) && same (bytes_of (w / 4294967296) w) (dec n ++ codes "\n")

pub ended : (n w : ℕ) → T (ended_test n w) → Ended n w
ended n w t =
    let few = leb 2 (w / 4294967296) in
    let most = leb (w / 4294967296) 4 in
    let said = same (bytes_of (w / 4294967296) w) (dec n ++ codes "\n") in
    let size = both_left (few && most) said t in
    record {
      text = same_equal _ _ (both_right (few && most) said t);
      least = leb→le _ _ (both_left few most size);
      most = leb→le _ _ (both_right few most size);
    }

abbrev pub tail_test : ℕ → ℕ → Bool
tail_test n w =
    (leb 1 (w / 72057594037927936) && leb (w / 72057594037927936) 3)
    && same (take (3 + w / 72057594037927936) (codes " resourc") ++ bytes_of 7 w) (codes " resource=" ++ dec n)

pub tailed : (n w : ℕ) → T (tail_test n w) → Tailed n w
tailed n w t =
    let some = leb 1 (w / 72057594037927936) in
    let most = leb (w / 72057594037927936) 3 in
    let said = same (take (3 + w / 72057594037927936) (codes " resourc") ++ bytes_of 7 w) (codes " resource=" ++ dec n) in
    let size = both_left (some && most) said t in
    record {
      text = same_equal _ _ (both_right (some && most) said t);
      least = leb→le _ _ (both_left some most size);
      most = leb→le _ _ (both_right some most size);
    }
