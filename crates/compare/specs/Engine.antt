-- Engine: the text of a comparison as the code makes it, group by group. The contracts of the code cite it; nobody has to believe it:
-- `proofs/Groups.antt`.
use Rattle.std.specs.Prelude.{Bool, false, cond, not, ◌&&◌, List, [], ◌++◌, ℕ, ◌+◌, ◌-◌, ltb, leb, eqb, length, replicate, Option, Some, None}
use Rattle.answer.specs.Least.{least}
use Rattle.answer.specs.Lists.{at, filled}
use Rattle.answer.specs.declared.Answer.{Answer}
use Rattle.answer.specs.Answer.{Outcome}
use Rattle.answer.specs.Answer.{answer_of}
use Rattle.std.specs.Prelude.{Ok, Err}
use Rattle.bits.specs.Bits.{field}
use Rattle.bits.specs.Pack.{unpack}
use Rattle.channel.specs.Fields.{overflow_widths}
use Rattle.channel.specs.Layout.{user_at}
use Rattle.plan.specs.Engine.{only_plan}
use Rattle.records.specs.Records.{records_from}
use Rattle.text.specs.Text.{upto}
use Rattle.user_codes.specs.Engine.{resource_codes, owned_code}
use Rattle.compared.specs.Reading.{refused_with, bandwidth_is, overflow_is, value_is}
use Rattle.compared.specs.Differences.{by, longer}
use Rattle.compared.specs.Text.{difference_line}
use Rattle.difference_lines.specs.Engine.{code_line}
use Rattle.only_in.specs.Engine.{only_lines}

-- both frames' lines, or none where they say the same
unfoldable pub overflow_pair : ℕ → ℕ → ℕ → List ℕ
overflow_pair k x y = cond (eqb x y) [] (difference_line 0 (by 1 (overflow_is k x)) ++ difference_line 0 (by 2 (overflow_is k y)))

-- of the overflows v and w
unfoldable pub overflow_turn : ℕ → ℕ → ℕ → List ℕ
overflow_turn v w k = overflow_pair k (at (unpack overflow_widths v) k) (at (unpack overflow_widths w) k)

unfoldable pub value_turn : ℕ → ℕ → ℕ → List ℕ
value_turn p x y = cond (eqb x y) [] (difference_line 0 (by 1 (value_is p x)) ++ difference_line 0 (by 2 (value_is p y)))

unfoldable pub common_text : ℕ → ℕ → List ℕ → List ℕ → List ℕ
common_text v w r t =
    upto (overflow_turn v w) 7 ++ (upto (λ p. value_turn p (at r p) (at t p)) (length r) ++ (only_lines 1 r t ++ only_lines 2 t r))

-- ---- User fields by their numbers: x and y are the i-th of m and of n
unfoldable pub same_code : ℕ → ℕ → ℕ → ℕ → ℕ → Bool
same_code i m x n y = (ltb i m && ltb i n) && eqb x y

unfoldable pub code_if : ℕ → ℕ → ℕ → ℕ → List ℕ
code_if s i n x = cond (ltb i n) (code_line s i x) []

unfoldable pub code_turn : ℕ → ℕ → ℕ → ℕ → ℕ → List ℕ
code_turn i m x n y = cond (same_code i m x n y) [] (code_if 1 i m x ++ code_if 2 i n y)

-- the i-th of a channel's 72; 0 past the last
unfoldable pub code_in72 : List ℕ → ℕ → ℕ
code_in72 codes i = cond (ltb i 72) (at codes i) 0

-- the i-th over both channels, m of which are channel 1's
unfoldable pub code_at : List ℕ → List ℕ → ℕ → ℕ → ℕ
code_at x₁ x₂ m i = cond (ltb i m) (code_in72 x₁ i) (code_in72 x₂ (i - m))

-- the same as an Option: none from the n-th on
unfoldable pub code_get : List ℕ → List ℕ → ℕ → ℕ → ℕ → Option ℕ
code_get x₁ x₂ m n i = cond (ltb i n) (Some (code_at x₁ x₂ m i)) None

abbrev pub code_part : ℕ → ℕ → Option ℕ → List ℕ
code_part s i (Some x) = code_line s i x
code_part s i None = []

unfoldable pub code_turns : (ℕ → ℕ) → ℕ → (ℕ → ℕ) → ℕ → List ℕ
code_turns x m y n = upto (λ i. code_turn i m (x i) n (y i)) (longer m n)

-- those of a frame, m of which are channel 1's and k channel 2's
unfoldable pub channel_codes : ℕ → List ℕ → List ℕ → ℕ → ℕ → List ℕ
channel_codes bw s r c n =
    filled
    (owned_code bw s r (filled (resource_codes r) (length (records_from (only_plan (at r)) (at r) (length r))) (replicate 144 0)) c) n (replicate 72 0)

unfoldable pub frame_code : ℕ → List ℕ → List ℕ → List ℕ → ℕ → ℕ → ℕ → ℕ
frame_code bw a b r m k = code_at (channel_codes bw a r 1 m) (channel_codes bw b r 2 k) m

unfoldable pub fields_text : ℕ → List ℕ → List ℕ → List ℕ → ℕ → ℕ → List ℕ → List ℕ → List ℕ → ℕ → ℕ → List ℕ
fields_text bw a b r m k c d t m' k' = code_turns (frame_code bw a b r m k) (m + k) (frame_code bw c d t m' k') (m' + k')

-- ---- frames that read the same
unfoldable pub first_other : List ℕ → List ℕ → ℕ
first_other r t = least (λ p. not (eqb (at r p) (at t p))) (length r)

unfoldable pub first_changed : ℕ → List ℕ → List ℕ → ℕ → ℕ
first_changed bw s t n = least (λ i. not (eqb (field s (user_at bw i) 22) (field t (user_at bw i) 22))) n

unfoldable pub all_same : ℕ → ℕ → ℕ → List ℕ → List ℕ → List ℕ → List ℕ → ℕ → ℕ → List ℕ → List ℕ → Bool
all_same bw v w r t a b m k c d =
    cond (eqb v w)
    (cond (ltb (first_other r t) (length r)) false (cond (ltb (first_changed bw a c m) m) false (leb k (first_changed bw b d k)))) false

-- ---- what is said instead
unfoldable pub bandwidth_text : ℕ → ℕ → List ℕ
bandwidth_text bw bw' = difference_line 0 (by 1 (bandwidth_is bw)) ++ difference_line 0 (by 2 (bandwidth_is bw'))

abbrev pub refused_text : ℕ → Outcome → List ℕ
refused_text s (Ok u) = []
refused_text s (Err x) = difference_line 0 (by s (refused_with (answer_of x)))

unfoldable pub refusals_text : Answer → Outcome → List ℕ
refusals_text x o = difference_line 0 (by 1 (refused_with x)) ++ refused_text 2 o
