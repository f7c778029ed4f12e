-- 01, "What a plan is": to what each position is given, and when that signals a row.
use Rattle.std.specs.Prelude.{◌≡◌, true, ℕ, ◌/◌, ◌%◌, ◌≤◌, ◌<◌}
use Rattle.resource.specs.Values.{smaller_at}
use Rattle.kinds.specs.Kinds.{itself, family, span, takes, blank_at, must_name}

-- "A plan gives each position either to itself .. or to one larger resource: a 484 on the lower or upper pair; a 996 on
-- all four; a 484+242 on three of four". A plan is a function from positions to kinds: lines of the table in `Kinds`.
-- Positions and places count from 0.

-- place j, of the positions that a resource of kind c lies among, is its own
abbrev pub Takes : ℕ → ℕ → Type 0
Takes c j = takes c j ≡ true

-- position q is a place of the resource of kind c that lies at position p
abbrev pub Place : ℕ → ℕ → ℕ → Type 0
Place c p q = (q / span c ≡ p / span c) × Takes c (q % span c)

-- the value at place j "with no field"
abbrev pub Blank : ℕ → ℕ → ℕ → Type 0
Blank c j v = v ≡ blank_at c j

-- "to itself (values 0 to 28, 48, 50, 64 to 71)": those below 28, which hold smaller pieces or none, with 48 and 50.
-- "48 isn't allowed in a fourth position nor 50 in a third", which only a segment of four has.
abbrev pub Smaller : ℕ → ℕ → ℕ → Type 0
Smaller c p v = (c ≡ itself) × (smaller_at (p % 4) v ≡ true)

-- the value v may stand at position p, which is given to c
pub data Fits (c p v : ℕ) : Type 0 where
  own : Takes c (p % span c) → v / 8 ≡ family c → Fits c p v
  blank : Takes c (p % span c) → Blank c (p % span c) v → Fits c p v
  smaller : Smaller c p v → Fits c p v

-- "with at least one place in its own family"
abbrev pub MustName : ℕ → Type 0
MustName c = must_name c ≡ true

-- The plan o signals the row at the positions from a up to b: each value may stand where it does; every place of a
-- resource is there, and given to it ("484 needs 40 MHz, 996 and 484+242 need 80": a narrower channel lacks places);
-- and a resource that must be named is.
pub record Signals (o : ℕ → ℕ) (row : ℕ → ℕ) (a b : ℕ) : Type 0 where
  pub fits : (p : ℕ) → a ≤ p → p < b → Fits (o p) p (row p)
  pub entire : (p q : ℕ) → a ≤ p → p < b → Place (o p) p q → (a ≤ q) × (q < b) × (o q ≡ o p)
  pub named : (p : ℕ) → a ≤ p → p < b → MustName (o p) → (q : ℕ) × Place (o p) p q × (row q / 8 ≡ family (o p))
