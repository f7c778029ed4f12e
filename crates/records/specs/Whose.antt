-- Whose subcarriers are whose, for any plan o: what a bench measures of each station. The user's slip was of this kind: "Station two was then
-- measured on subcarriers it never owned."
use Rattle.std.specs.Prelude.{◌≡◌, ℕ, ◌*◌, ◌/◌, ◌≤◌, ◌<◌, List, ℤ, pos, ◌+ℤ◌, length, ◌<ℤ◌}
use Rattle.resource.specs.Values.{pieces}
use Rattle.resource.specs.Tones.{tones_of, RightSpans}
use Rattle.kinds.specs.Signals.{Place}
use Rattle.records.specs.declared.Record.{Record}
use Rattle.records.specs.Records.{records_from, HasTone, the242, In242, Punctured}
use Rattle.records.specs.Owns.{ComesFrom, Owns}
use Rattle.records.specs.Demand.{resource_in}

-- subcarrier k, 0 at the channel's centre, lies in position q of n: each is 256 wide
abbrev pub LiesIn : ℕ → ℕ → ℤ → Type 0
LiesIn n q k = (u : ℕ) × (k +ℤ pos (128 * n) ≡ pos u) × (u / 256 ≡ q)

-- "A punctured position takes its 242's subcarriers": all 242 of them, and they lie in it
pub record Takes242 (n q : ℕ) : Type 0 where
  pub named : RightSpans (the242 q) (tones_of n (q / 4) (the242 q))
  pub there : (k : ℤ) → Punctured n q k → LiesIn n q k

-- every subcarrier of x lies in a place of the resource that position p is given to
abbrev pub InPlaces : (ℕ → ℕ) → ℕ → ℕ → Record → Type 0
InPlaces o n p x = (k : ℤ) → HasTone n x k → (q : ℕ) × Place (o p) p q × LiesIn n q k

-- and x has all that the 242s of these places have
abbrev pub HasPlaces : (ℕ → ℕ) → ℕ → ℕ → Record → Type 0
HasPlaces o n p x = (q : ℕ) (k : ℤ) → Place (o p) p q → In242 n q k → HasTone n x k

-- x lies below y
abbrev pub Below : ℕ → Record → Record → Type 0
Below n x y = (k l : ℤ) → HasTone n x k → HasTone n y l → k <ℤ l

-- k is a subcarrier of field j of channel c: of the resource that owns it
abbrev pub OwnsTone : (ℕ → ℕ) → (ℕ → ℕ) → ℕ → ℕ → ℕ → ℤ → Type 0
OwnsTone o row n c j k =
    (i : ℕ) × (i < length (records_from o row n)) × Owns o row n i c j × HasTone n (resource_in (records_from o row n) i) k

-- ---- of the fields of a row, by the position p that they come from, in a plan whose resources are rs
pub record Whose (o row : ℕ → ℕ) (n : ℕ) (rs : List Record) : Type 0 where
  -- a field belongs to a resource whose subcarriers all lie in the places of its position's resource
  pub in_places : (i c j p k : ℕ) → Owns o row n i c j → ComesFrom row n c j p k → InPlaces o n p (resource_in rs i)
  -- "Values 0 to 25, 48 and 50 give one field to each of their pieces, in rising frequency": of two fields of one position the earlier one's lie
  -- below the later one's
  pub rising : (i i' c j j' p k k' : ℕ) → Owns o row n i c j → Owns o row n i' c j' → ComesFrom row n c j p k → ComesFrom row n c j' p k'
      → 0 < length (pieces (row p)) → j < j' → Below n (resource_in rs i) (resource_in rs i')
  -- a field of a 242 or larger has the whole resource
  pub whole : (i c j p k : ℕ) → Owns o row n i c j → ComesFrom row n c j p k → length (pieces (row p)) ≡ 0 → HasPlaces o n p (resource_in rs i)

-- ---- "A plan lists resources by lowest position, then frequency"
pub record Ordered (o : ℕ → ℕ) (n : ℕ) (rs : List Record) : Type 0 where
  -- a resource lies in the places of the resource that its record's position is given to ..
  pub placed : (i : ℕ) → i < length rs → InPlaces o n (resource_in rs i).position (resource_in rs i)
  -- .. which is the lowest position in which it has a subcarrier
  pub lowest : (i : ℕ) → i < length rs → (k : ℤ) × HasTone n (resource_in rs i) k × LiesIn n (resource_in rs i).position k
  pub none_lower : (i q : ℕ) (k : ℤ) → i < length rs → HasTone n (resource_in rs i) k → LiesIn n q k → (resource_in rs i).position ≤ q
  pub by_position : (i j : ℕ) → i < j → j < length rs → (resource_in rs i).position ≤ (resource_in rs j).position
  pub then_frequency : (i j : ℕ) → i < j → j < length rs → (resource_in rs i).position ≡ (resource_in rs j).position
      → Below n (resource_in rs i) (resource_in rs j)
