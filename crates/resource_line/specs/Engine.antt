-- Engine: the subcarriers that the code is handed with a resource, and the start of its line in numbers. The contracts of the code cite it;
-- nobody has to believe it:
-- `proofs/Held.antt`,
-- `proofs/Whole.antt`.
use Rattle.std.specs.Prelude.{List, [], ◌∷◌, ◌++◌, map, ℕ, ◌/◌, take, get_or}
use Rattle.text.specs.Text.{codes, dec}
use Rattle.stores.specs.Engine.{bytes_of}
use Rattle.resource.specs.declared.Size.{Size}
use Rattle.resource.specs.declared.Size.TheVariants.{S26, S52, S106, S242, S484, S996, S2x996}
use Rattle.resource.specs.declared.Pairing.{Pairing}
use Rattle.resource.specs.declared.Pairing.TheVariants.{P106And26, P484And242, P996And484, P3x996, P2x996And484, P3x996And484}
use Rattle.resource.specs.declared.Resource.{Resource}
use Rattle.resource.specs.declared.Resource.TheVariants.{Single, Joined}
use Rattle.resource.specs.declared.Tones.{Tones}
use Rattle.resource.specs.Tones.{Span}
use Rattle.resource.specs.Engine.{span_of}

-- the runs that are held, in a channel of n positions
unfoldable pub held_spans : ℕ → Tones → List Span
held_spans n t = map (span_of n) (take t.count t.runs)

-- ---- the names of resources in one list
unfoldable pub class_name : ℕ → List ℕ
class_name k =
    get_or
    (codes "26"
    ∷ codes "52"
    ∷ codes "106"
    ∷ codes "106+26"
    ∷ codes "242"
    ∷ codes "484"
    ∷ codes "996"
    ∷ codes "2x996"
    ∷ codes "3x996"
    ∷ codes "484+242"
    ∷ codes "996+484"
    ∷ codes "2x996+484"
    ∷ codes "3x996+484"
    ∷ [])
    k []

abbrev pub size_class : Size → ℕ
size_class S26 = 0
size_class S52 = 1
size_class S106 = 2
size_class S242 = 4
size_class S484 = 5
size_class S996 = 6
size_class S2x996 = 7

abbrev pub pairing_class : Pairing → ℕ
pairing_class P106And26 = 3
pairing_class P484And242 = 9
pairing_class P996And484 = 10
pairing_class P3x996 = 8
pairing_class P2x996And484 = 11
pairing_class P3x996And484 = 12

unfoldable pub class_of : Resource → ℕ
class_of (Single s i) = size_class s
class_of (Joined w i) = pairing_class w

-- a line up to its index
unfoldable pub key_of : ℕ → List ℕ
key_of k = codes "ru=" ++ (class_name k ++ codes " index=")

-- in eight bytes at its front, eight at its end, and the place of these; where that is not all, eight between
unfoldable pub first_of : ℕ → ℕ
first_of k =
    get_or
    (7955925633869903218 ∷ 7955925616740365682 ∷ 7575114153849615730 ∷ 3615042706507396466
    ∷ 7575109772999751026 ∷ 7575111989236430194 ∷ 7575114192638539122 ∷ 3907217340122363250
    ∷ 3907217340139140466 ∷ 3615040541894210930 ∷ 3759157933372175730 ∷ 3907217340122363250 ∷ 3907217340139140466 ∷ [])
    k 0

unfoldable pub last_of : ℕ → ℕ
last_of k =
    get_or
    (4429401715542401078 ∷ 4429401715542401074 ∷ 4429401715542401078 ∷ 4429401715542401078
    ∷ 4429401715542401074 ∷ 4429401715542401076 ∷ 4429401715542401078 ∷ 4429401715542401078
    ∷ 4429401715542401078 ∷ 4429401715542401074 ∷ 4429401715542401076 ∷ 4429401715542401076 ∷ 4429401715542401076 ∷ [])
    k 0

unfoldable pub last_place : ℕ → ℕ
last_place k = get_or (4 ∷ 4 ∷ 5 ∷ 8 ∷ 5 ∷ 5 ∷ 5 ∷ 7 ∷ 7 ∷ 9 ∷ 9 ∷ 11 ∷ 11 ∷ []) k 0

unfoldable pub middle_of : ℕ → ℕ
middle_of k =
    get_or
    (0 ∷ 0 ∷ 0 ∷ 0 ∷ 0 ∷ 0 ∷ 0 ∷ 0 ∷ 0
    ∷ 8675450682572026420 ∷ 8675450682572026936 ∷ 7236837238266934315 ∷ 7236837238266934315 ∷ [])
    k 0

-- from the segment up to the subcarriers
unfoldable pub counts_text : ℕ → ℕ → List ℕ
counts_text g u = codes "segment=" ++ (dec g ++ (codes " users=" ++ (dec u ++ codes " tones=")))

unfoldable pub start_text : ℕ → ℕ → ℕ → ℕ → List ℕ
start_text k i g u = key_of k ++ ((dec i ++ codes " ") ++ counts_text g u)

-- with a name and an index, a space after it, in numbers
unfoldable pub named_text : ℕ → ℕ → ℕ → ℕ → ℕ → List ℕ
named_text name len index g u =
    (codes "ru=" ++ (bytes_of len name ++ codes " index=")) ++ (bytes_of (index / 16777216) index ++ counts_text g u)
