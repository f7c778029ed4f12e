-- Engine: a resource, and a User field with its resource, as one number. The contracts of the code cite it; nobody has to believe it:
-- `proofs/Codes.antt`, `proofs/Fields.antt`.
use Rattle.std.specs.Prelude.{cond, List, ℕ, ◌+◌, ◌*◌, ltb, eqb, length, get_or}
use Rattle.answer.specs.Lists.{at}
use Rattle.bits.specs.Bits.{field}
use Rattle.resource.specs.declared.Resource.{Resource}
use Rattle.resource.specs.Names.{name_of, number_of}
use Rattle.resource.specs.Engine.{piece_at}
use Rattle.kinds.specs.Kinds.{itself}
use Rattle.plan.specs.Engine.{only_plan}
use Rattle.records.specs.declared.Record.{Record}
use Rattle.records.specs.Records.{piece_record, larger_record, records_of, blank}
use Rattle.records.specs.Engine.{owner_of}
use Rattle.channel.specs.Layout.{user_at}

-- the size, the index and the segment
unfoldable pub resource_code : Resource → ℕ → ℕ
resource_code r g = name_of r + 4096 * (number_of r + 256 * g)

abbrev pub record_code : Record → ℕ
record_code x = resource_code x.resource x.segment

-- that of the k-th resource whose lowest position is p, which is given to c
unfoldable pub listed_code : ℕ → (ℕ → ℕ) → ℕ → ℕ → ℕ
listed_code c row p k = cond (eqb c itself) (record_code (piece_record row p (piece_at (row p) k))) (record_code (larger_record c row p))

-- that of the i-th resource of the row's plan
unfoldable pub resource_codes : List ℕ → ℕ → ℕ
resource_codes r i = record_code (get_or (records_of (only_plan (at r)) r) i blank)

-- 22 bits, and above them the code of a resource
unfoldable pub user_code : ℕ → ℕ → ℕ
user_code f x = f + 4194304 * x

-- the i-th of 144 codes; 0 past the last
unfoldable pub code_in : List ℕ → ℕ → ℕ
code_in codes i = cond (ltb i 144) (at codes i) 0

-- User field i of a channel, by the number of its owner
unfoldable pub field_code : ℕ → List ℕ → List ℕ → List ℕ → ℕ → ℕ
field_code bw s owners codes i = user_code (field s (user_at bw i) 22) (code_in codes (at owners i))

-- that of channel c
unfoldable pub owned_code : ℕ → List ℕ → List ℕ → List ℕ → ℕ → ℕ → ℕ
owned_code bw s r codes c i = user_code (field s (user_at bw i) 22) (code_in codes (owner_of (only_plan (at r)) (at r) c (length r) i))
