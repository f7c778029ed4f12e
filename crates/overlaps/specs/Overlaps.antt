-- A list of entries of a Trigger frame, and which two of them overlap (02, T-02).
--
-- "Of a list of at most 32 such entries under one bandwidth, every pair that shares a subcarrier is reported once, earlier entry first, pairs
-- in rising order; entries of one and the same resource are a group and no overlap."
use Rattle.std.specs.Prelude.{◌≡◌, ◌≢◌, ◌⊎◌, List, ℕ, ◌+◌, ◌*◌, ◌/◌, ◌^◌, ◌<◌, ℤ, length, take, drop}
use Rattle.answer.specs.Lists.{at}
use Rattle.resource.specs.declared.Resource.{Resource}
use Rattle.resource.specs.Tones.{tones_of, Among}
use Rattle.trigger_values.specs.UserInfo.{info_of, value_in}
use Rattle.trigger_values.specs.Values.{resource_of}

-- how many entries a list of bytes has, and entry i of it, from 0
abbrev pub entries_in : List ℕ → ℕ
entries_in es = length es / 5

abbrev pub entry_at : List ℕ → ℕ → List ℕ
entry_at es i = take 5 (drop (5 * i) es)

unfoldable pub info_at : List ℕ → ℕ → ℕ
info_at es i = info_of (entry_at es i)

-- the resource of entry i
unfoldable pub entry_resource : List ℕ → ℕ → Resource
entry_resource es i = resource_of (value_in (info_at es i))

-- two resources of a bandwidth, which has one segment, share a subcarrier
abbrev pub Share : ℕ → Resource → Resource → Type 0
Share bw r s = (k : ℤ) × Among k (tones_of (2 ^ bw) 0 r) × Among k (tones_of (2 ^ bw) 0 s)

-- "entries of one and the same resource are a group and no overlap"
abbrev pub Overlap : ℕ → Resource → Resource → Type 0
Overlap bw r s = (r ≢ s) × Share bw r s

-- ---- what is reported: of n pairs, the bytes w
-- pair k, from 0: "earlier entry first", both from 1
abbrev pub earlier : List ℕ → ℕ → ℕ
earlier w k = at w (2 * k)

abbrev pub later : List ℕ → ℕ → ℕ
later w k = at w (2 * k + 1)

pub record Reported (bw : ℕ) (es : List ℕ) (n : ℕ) (w : List ℕ) : Type 0 where
  -- each pair is of two entries that overlap
  pub overlap : (k : ℕ) → k < n
      → (i : ℕ) × (j : ℕ) × (earlier w k ≡ i + 1) × (later w k ≡ j + 1) × (i < j) × (j < entries_in es) × Overlap bw (entry_resource es i) (entry_resource es j)
  -- "every pair"
  pub every : (i j : ℕ) → i < j → j < entries_in es → Overlap bw (entry_resource es i) (entry_resource es j)
      → (k : ℕ) × (k < n) × (earlier w k ≡ i + 1) × (later w k ≡ j + 1)
  -- "once", "pairs in rising order"
  pub rising : (k l : ℕ) → k < l → l < n → (earlier w k < earlier w l) ⊎ ((earlier w k ≡ earlier w l) × (later w k < later w l))
