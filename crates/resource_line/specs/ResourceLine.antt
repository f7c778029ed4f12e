-- The line of a resource (01, "Listing"), as bytes.
use Rattle.std.specs.Prelude.{cond, List, [], ◌++◌, ℕ, eqb, length, get_or}
use Rattle.text.specs.Text.{codes, signed, keyed, upto}
use Rattle.resource.specs.declared.Size.{Size}
use Rattle.resource.specs.declared.Size.TheVariants.{S26, S52, S106, S242, S484, S996, S2x996}
use Rattle.resource.specs.declared.Pairing.{Pairing}
use Rattle.resource.specs.declared.Pairing.TheVariants.{P106And26, P484And242, P996And484, P3x996, P2x996And484, P3x996And484}
use Rattle.resource.specs.declared.Resource.{Resource}
use Rattle.resource.specs.declared.Resource.TheVariants.{Single, Joined}
use Rattle.resource.specs.Names.{number_of}
use Rattle.resource.specs.Tones.{Span, no_span}

-- "Resources: 26, 52, 106, 242, 484 and 996 subcarriers, and the joined ones 106+26 and 484+242." 02, T-07: "2x996, .. 996+484 and the rest"
abbrev pub size_text : Size → List ℕ
size_text S26 = codes "26"
size_text S52 = codes "52"
size_text S106 = codes "106"
size_text S242 = codes "242"
size_text S484 = codes "484"
size_text S996 = codes "996"
size_text S2x996 = codes "2x996"

abbrev pub pairing_text : Pairing → List ℕ
pairing_text P106And26 = codes "106+26"
pairing_text P484And242 = codes "484+242"
pairing_text P996And484 = codes "996+484"
pairing_text P3x996 = codes "3x996"
pairing_text P2x996And484 = codes "2x996+484"
pairing_text P3x996And484 = codes "3x996+484"

unfoldable pub name_text : Resource → List ℕ
name_text (Single s i) = size_text s
name_text (Joined w i) = pairing_text w

-- between two runs
unfoldable pub comma : ℕ → List ℕ
comma i = cond (eqb i 0) [] (codes ",")

-- the i-th run, from 0: "tones=-136:-111,-109:-4"
abbrev pub span_text : ℕ → Span → List ℕ
span_text i s = comma i ++ signed s.lo ++ codes ":" ++ signed s.hi

-- "Tones are maximal runs, rising"
unfoldable pub tones_text : List Span → List ℕ
tones_text ss = upto (λ i. span_text i (get_or ss i no_span)) (length ss)

-- "ru=106+26 index=2 segment=0": resource r of segment g
unfoldable pub ru_name : ℕ → Resource → List ℕ
ru_name g r = codes "ru=" ++ name_text r ++ keyed (codes " index=") (number_of r) ++ keyed (codes " segment=") g

-- "users=1": with u User fields
unfoldable pub ru_head : ℕ → Resource → ℕ → List ℕ
ru_head g r u = ru_name g r ++ keyed (codes " users=") u

-- and its subcarriers
unfoldable pub ru_line : ℕ → Resource → ℕ → List Span → List ℕ
ru_line g r u ss = ru_head g r u ++ codes " tones=" ++ tones_text ss ++ codes "\n"
