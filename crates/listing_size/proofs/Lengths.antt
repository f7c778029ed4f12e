-- The most bytes of each line of a listing: of the six before the resources, and of a resource of whole positions; and the bytes of the
-- resources' lines, position by position.
use mathlib.Core.Path.{◌≡◌, refl, ◌∙◌}
use mathlib.Core.Bool.{Bool, true, false, cond}
use mathlib.Core.List.{List, [], ◌∷◌, ◌++◌}
use Prim.Native.Nat.{ℕ, zero, suc, ◌+◌, ◌/◌, ◌%◌, ◌^◌, ◌≤◌, ◌<◌}
use native.Mathlib.Omega.{arith}
use lib.Dec.{T, ltb, leb, leb→le}
use lib.ListN.{length, get_or, length-append}
use borrow.Author.Tests.{ltb-true}
use Rattle.resource.specs.declared.Size.TheVariants.{S26, S52, S106, S242, S484, S996, S2x996}
use Rattle.resource.specs.declared.Pairing.TheVariants.{P106And26, P484And242, P996And484, P3x996, P2x996And484, P3x996And484}
use Rattle.resource.specs.declared.Resource.{Resource}
use Rattle.resource.specs.declared.Resource.TheVariants.{Single, Joined}
use Rattle.resource.specs.Names.{number_of}
use Rattle.resource.specs.Places.{segments_of, places_of}
use Rattle.resource.specs.Index.{index_of, resource_at, position_of, place_of}
use Rattle.resource.specs.Tones.{Span, tones_at, tones_leaving_out, tones_joined, tones_of}
use Rattle.resource.proofs.Test.{below, every_below}
use Rattle.records.specs.declared.Record.{Record}
use Rattle.records.specs.Records.{resource_column, larger, list_at, records_from, blank}
use Rattle.records.proofs.Sums.{sum_to, sum_first}
use Rattle.text.specs.Text.{dec, signed, upto}
use Rattle.text.proofs.Laws.{dec_short, dec_fit}
use Rattle.resource_line.specs.ResourceLine.{name_text, comma, tones_text, ru_name, ru_head, ru_line}
use Rattle.lines.specs.Lines.{head_text}
use Rattle.listed.specs.Listing.{record_line, ru_lines}

-- ---- a text of n parts
pub upto_sum : (f : ℕ → List ℕ) (n : ℕ) → length (upto f n) ≡ sum_to (λ i. length (f i)) n
unfolding upto
upto_sum f zero = refl
upto_sum f (suc n) = length-append (upto f n) (f n) ∙ omega (arith, upto_sum f n)

-- ---- how many digits a number has
abbrev pub digits : ℕ → ℕ
digits n = cond (ltb n 10) 1 (cond (ltb n 100) 2 3)

pub dec_most : (m n : ℕ) → m ≤ n → n < 1000 → length (dec m) ≤ digits n
dec_most m n h l = go (ltb n 10) (ltb n 100) refl refl
  where
    go : (s t : Bool) → ltb n 10 ≡ s → ltb n 100 ≡ t → length (dec m) ≤ cond s 1 (cond t 2 3)
    go true t e f = dec_fit 0 m (omega (arith, ltb-true n 10 e))
    go false true e f = dec_fit 1 m (omega (arith, ltb-true n 100 f))
    go false false e f = dec_fit 2 m (omega arith)

-- ---- the lines before the resources
abbrev pub head_most : ℕ → ℕ → ℕ → ℕ
head_most n m k = 53 + digits n + digits m + digits k + digits (m + k)

pub head_most_lem : (bw r m k s r' m' k' : ℕ) → bw ≤ 4 → r ≤ r' → m ≤ m' → k ≤ k' → s ≤ m + k → r' < 1000 → m' < 500 → k' < 500
    → length (head_text bw r m k s) ≤ head_most r' m' k'
unfolding head_text
head_most_lem bw r m k s r' m' k' l a b c d x y z =
    simp length-append
    (omega (
      arith,
      dec_fit 0 0 (omega arith),
      dec_fit 0 bw (omega arith),
      dec_most r r' a x,
      dec_most m m' b (omega arith),
      dec_most k k' c (omega arith),
      dec_most s (m' + k') (omega arith) (omega arith),
    ))

-- ---- the line of a resource of whole positions
name_short : (r : Resource) → length (name_text r) ≤ 9
unfolding name_text
name_short (Single S26 i) = omega arith
name_short (Single S52 i) = omega arith
name_short (Single S106 i) = omega arith
name_short (Single S242 i) = omega arith
name_short (Single S484 i) = omega arith
name_short (Single S996 i) = omega arith
name_short (Single S2x996 i) = omega arith
name_short (Joined P106And26 i) = omega arith
name_short (Joined P484And242 i) = omega arith
name_short (Joined P996And484 i) = omega arith
name_short (Joined P3x996 i) = omega arith
name_short (Joined P2x996And484 i) = omega arith
name_short (Joined P3x996And484 i) = omega arith

ru_short : (g u : ℕ) (r : Resource) (ss : List Span) → length (tones_text ss) ≤ 96 → length (ru_line g r u ss) ≤ 200
unfolding ru_line ru_head ru_name
ru_short g u r ss l = simp length-append (omega (arith, name_short r, dec_short (number_of r), dec_short g, dec_short u))

-- eight runs at most, "-2036:-1540" with a comma each
abbrev tones_test : ℕ → ℕ → ℕ → Bool
tones_test n p c = leb (length (tones_text (tones_of n (p / 4) (larger c (p % 4))))) 96

tones_tested : T (below (λ b. below (λ p. below (tones_test (2 ^ b) p) 36) (2 ^ b)) 5)
unfolding dec signed upto comma tones_text larger resource_column resource_at index_of position_of place_of segments_of places_of tones_at
    tones_leaving_out tones_joined tones_of
tones_tested = tt

-- the one of kind c at position p, with u User fields
pub whole_short : (b p c u : ℕ) → b < 5 → p < 2 ^ b → c < 36
    → length (ru_line (p / 4) (larger c (p % 4)) u (tones_of (2 ^ b) (p / 4) (larger c (p % 4)))) ≤ 200
whole_short b p c u h l i =
    let t = every_below (λ b. below (λ p. below (tones_test (2 ^ b) p) 36) (2 ^ b)) 5 tones_tested b h in
    ru_short (p / 4) u (larger c (p % 4)) (tones_of (2 ^ b) (p / 4) (larger c (p % 4)))
    (leb→le _ 96 (every_below (tones_test (2 ^ b) p) 36 (every_below (λ p. below (tones_test (2 ^ b) p) 36) (2 ^ b) t p l) c i))

-- ---- the lines of the resources, by position
abbrev pub sizes : ℕ → List Record → ℕ
sizes n [] = 0
sizes n (x ∷ xs) = length (record_line n x) + sizes n xs

pub lines_sizes : (n : ℕ) (rs : List Record) → length (ru_lines n rs) ≡ sizes n rs
unfolding ru_lines
lines_sizes n rs = upto_sum (λ i. record_line n (get_or rs i blank)) (length rs) ∙ go rs
  where
    go : (rs : List Record) → sum_to (λ i. length (record_line n (get_or rs i blank))) (length rs) ≡ sizes n rs
    go [] = refl
    go (x ∷ xs) = sum_first (λ i. length (record_line n (get_or (x ∷ xs) i blank))) (length xs) ∙ omega (arith, go xs)

sizes_append : (n : ℕ) (rs ss : List Record) → sizes n (rs ++ ss) ≡ sizes n rs + sizes n ss
sizes_append n [] ss = omega arith
sizes_append n (x ∷ rs) ss = omega (arith, sizes_append n rs ss)

module _ (o row : ℕ → ℕ) where
  pub sizes_positions : (n m : ℕ) → sizes n (records_from o row m) ≡ sum_to (λ p. sizes n (list_at (o p) row p)) m
  sizes_positions n zero = refl
  sizes_positions n (suc m) = sizes_append n (records_from o row m) (list_at (o m) row m) ∙ omega (arith, sizes_positions n m)
