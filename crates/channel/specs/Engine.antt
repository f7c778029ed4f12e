-- Engine: how the code holds the common fields of a frame, each part with its check and tail in the lowest bits of one number, and takes the row
-- from these numbers. The contracts of the code cite it; nobody has to believe it: `proofs/Held.antt` shows that they are the channels' parts and
-- that their values are the row.
use Rattle.std.specs.Prelude.{◌≡◌, cond, List, ℕ, ◌+◌, ◌-◌, ◌*◌, ◌/◌, ◌%◌, ◌^◌, ◌≤◌, ◌<◌, eqb, ltb, length, get_or}
use Rattle.bits.specs.Bits.{field}
use Rattle.channel.specs.Layout.{present, firsts, second_at}
use Rattle.channel.specs.declared.Parts.{Parts}

-- ---- the parts

-- the bits that are held of a first part: whole bytes, which reach past its tail
unfoldable pub first_width : ℕ → ℕ
first_width bw = cond (ltb bw 2) 40 48

unfoldable pub first_part : ℕ → List ℕ → ℕ
first_part bw s = field s 0 (first_width bw)

-- of a second part, up to the end of a byte at 160 MHz and up to its own end at 320; none where there is none
unfoldable pub second_width : ℕ → ℕ
second_width bw = cond (eqb bw 3) 35 (cond (eqb bw 4) 64 0)

unfoldable pub second_part : ℕ → List ℕ → ℕ
second_part bw s = field s (second_at bw) (second_width bw)

-- of both channels; 0 where the bandwidth lacks the second
unfoldable pub parts_of : ℕ → List ℕ → List ℕ → Parts
parts_of bw a b =
    record {
      first1 = first_part bw a;
      first2 = cond (present bw 2) (first_part bw b) 0;
      second1 = second_part bw a;
      second2 = second_part bw b;
    }

-- ---- the row

-- value k of a channel whose parts are x and z
unfoldable pub value_in : ℕ → ℕ → ℕ → ℕ → ℕ
value_in bw x z k = cond (ltb k (firsts bw)) (x / 2 ^ 17 / 2 ^ (9 * k) % 512) (z / 2 ^ (9 * (k - firsts bw)) % 512)

-- the value at position q
unfoldable pub part_at : ℕ → Parts → ℕ → ℕ
part_at bw p q = cond (eqb (q % 2) 0) (value_in bw p.first1 p.second1 (q / 2)) (value_in bw p.first2 p.second2 (q / 2))

-- r is w with n values from x and n from y, taking turns from p on
pub record Turns (w : List ℕ) (p n x y : ℕ) (r : List ℕ) : Type 0 where
  pub same_size : length r ≡ length w
  pub from_x : (k : ℕ) → k < n → get_or r (p + 2 * k) 0 ≡ x / 2 ^ (9 * k) % 512
  pub from_y : (k : ℕ) → k < n → get_or r (p + 2 * k + 1) 0 ≡ y / 2 ^ (9 * k) % 512
  pub before : (i : ℕ) → i < p → get_or r i 0 ≡ get_or w i 0
  pub past : (i : ℕ) → p + 2 * n ≤ i → get_or r i 0 ≡ get_or w i 0
