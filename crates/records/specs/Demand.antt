-- What is said of a plan's resources in the third demand: "In the plan no two resources share a subcarrier, none has one in a punctured 20 MHz,
-- and each User field in either channel has exactly one resource."
use Rattle.std.specs.Prelude.{◌≡◌, ◌≢◌, List, ℕ, ◌*◌, ◌^◌, ◌<◌, ℤ, pos, length, get_or, ◌≤ℤ◌, ◌<ℤ◌}
use Rattle.resource.specs.Tones.{minus}
use Rattle.records.specs.declared.Record.{Record}
use Rattle.records.specs.Records.{blank, HasTone, Punctured, RightRecord}
use Rattle.records.specs.Owns.{fields_before, Owns, Counts, Channel, share_of, all_shares}

-- 01's numbers of positions
abbrev pub Width : ℕ → Type 0
Width n = (b : ℕ) × (b < 5) × (n ≡ 2 ^ b)

-- resource i of the list
abbrev pub resource_in : List Record → ℕ → Record
resource_in rs i = get_or rs i blank

-- ---- the subcarriers of the plan's resources
pub record Sound (n : ℕ) (row : ℕ → ℕ) (rs : List Record) : Type 0 where
  -- "no two resources share a subcarrier"
  pub apart : (i j : ℕ) (k : ℤ) → i < length rs → j < length rs → i ≢ j → HasTone n (resource_in rs i) k → HasTone n (resource_in rs j) k → ⊥
  -- "none has one in a punctured 20 MHz"
  pub unpunctured : (i q : ℕ) (k : ℤ) → i < length rs → q < n → row q ≡ 26 → Punctured n q k → HasTone n (resource_in rs i) k → ⊥
  -- each lies inside the channel, whose positions are 256 wide
  pub inside : (i : ℕ) (k : ℤ) → i < length rs → HasTone n (resource_in rs i) k → (minus (128 * n) ≤ℤ k) × (k <ℤ pos (128 * n))
  -- as many as the resource's name says, in rising maximal runs
  pub named : (i : ℕ) → i < length rs → RightRecord n (resource_in rs i)

-- ---- whose field is whose, in a row of any length
pub record Shared (o row : ℕ → ℕ) (n : ℕ) (rs : List Record) : Type 0 where
  -- "each User field in either channel has exactly one resource"
  pub owned : (c j : ℕ) → j < fields_before c row n → (i : ℕ) × (i < length rs) × Owns o row n i c j
  pub only : (i i' c j : ℕ) → Owns o row n i c j → Owns o row n i' c j → i ≡ i'
  -- a resource owns as many of each channel's as its share says ..
  pub shares : (i c : ℕ) → i < length rs → Channel c → Counts (Owns o row n i c) (fields_before c row n) (share_of c (resource_in rs i))
  -- .. and the shares are all that the row's values give
  pub complete : (c : ℕ) → Channel c → all_shares c rs ≡ fields_before c row n
