-- Whose User field is whose (01, "Values of the RU Allocation subfield" and "What a plan is"), for any plan o.
use Rattle.std.specs.Prelude.{◌≡◌, cond, List, [], ◌∷◌, ℕ, suc, ◌+◌, ◌%◌, ◌<◌, eqb, length}
use Rattle.resource.specs.Values.{pieces, fields_of}
use Rattle.kinds.specs.Kinds.{itself, span}
use Rattle.kinds.specs.Signals.{Place}
use Rattle.kinds.specs.Fields.{fields_to}
use Rattle.records.specs.declared.Record.{Record}
use Rattle.records.specs.Records.{lead, records_from}

-- how many User fields channel c has from the first n positions: "the count is the sum over the row's values"
abbrev pub fields_before : ℕ → (ℕ → ℕ) → ℕ → ℕ
fields_before c row n = fields_to c row n

-- "A channel's User fields follow its values in rising position": field j of channel c comes from position p, of n, and is its k-th
pub record ComesFrom (row : ℕ → ℕ) (n c j p k : ℕ) : Type 0 where
  pub inside : p < n
  pub channel : p % 2 + 1 ≡ c
  pub kth : k < fields_of (row p)
  pub follows : j ≡ fields_before c row p + k

-- the number, from 0, of the m-th resource that is listed at position p
abbrev pub number : (ℕ → ℕ) → (ℕ → ℕ) → ℕ → ℕ → ℕ
number o row p m = length (records_from o row p) + m

-- Resource i of the plan owns field j of channel c: "Values 0 to 25, 48 and 50 give one field to each of their pieces, in rising
-- frequency", so the k-th field of such a position belongs to its k-th piece; any other field belongs to the resource that its
-- position is a place of, which is listed at its lowest place q.
pub data Owns (o : ℕ → ℕ) (row : ℕ → ℕ) (n i c j : ℕ) : Type 0 where
  of_piece : (p k : ℕ) → ComesFrom row n c j p k → o p ≡ itself → k < length (pieces (row p)) → i ≡ number o row p k → Owns o row n i c j
  of_place : (p k q : ℕ) → ComesFrom row n c j p k → length (pieces (row p)) ≡ 0 → Place (o p) p q → q % span (o p) ≡ lead (o p) → i ≡ number o row q 0
      → Owns o row n i c j

-- ---- how many
-- exactly m of the numbers below n are such
pub data Counts (P : ℕ → Type 0) : ℕ → ℕ → Type 0 where
  none : Counts P 0 0
  one_more : {n m : ℕ} → P n → Counts P n m → Counts P (suc n) (suc m)
  no_more : {n m : ℕ} → (P n → ⊥) → Counts P n m → Counts P (suc n) m

-- c is a channel's number
abbrev pub Channel : ℕ → Type 0
Channel c = (0 < c) × (c < 3)

-- a resource's share of channel c
abbrev pub share_of : ℕ → Record → ℕ
share_of c r = cond (eqb c 1) r.fields1 r.fields2

-- the shares of channel c of all the resources
abbrev pub all_shares : ℕ → List Record → ℕ
all_shares c [] = 0
all_shares c (r ∷ rs) = share_of c r + all_shares c rs
