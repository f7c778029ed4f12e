-- Where the bits of a channel ran out.
--
-- 02, T-03: "3 and 9 now give as place the first bit of the field that didn't fit, meaning the smallest named in document 01's layout, a User field
-- being one." The named fields are `channel/specs/Fields.antt`'s; what a field lacks is `lacks`, by which the field readers answer (`position`).
use Rattle.std.specs.Prelude.{◌≡◌, cond, List, [], ◌∷◌, ℕ, ◌*◌, ◌≤◌, ◌<◌, ltb, length}
use Rattle.bits.specs.Bits.{lacks}
use Rattle.channel.specs.Fields.{Named, nth_field, Has}

-- how many bits of a field lie past the end of the bytes lent
abbrev pub lacks_of : List ℕ → Named → ℕ
lacks_of s f = lacks s f.first f.width

-- the first bit of the first field that lacks any; 0 where none does
unfoldable pub ran_out_at : List ℕ → List Named → ℕ
ran_out_at s [] = 0
ran_out_at s (f ∷ fs) = cond (ltb 0 (lacks_of s f)) f.first (ran_out_at s fs)

-- field k of the list "didn't fit": the first bit that is not lent is one of its bits, it lacks at least that one and at most all, and no field
-- before it lacks any
pub record DidNotFit (s : List ℕ) (fs : List Named) (k : ℕ) : Type 0 where
  pub has_first_missing : Has (nth_field fs k) (8 * length s)
  pub lacks_one : 1 ≤ lacks_of s (nth_field fs k)
  pub lacks_no_more : lacks_of s (nth_field fs k) ≤ (nth_field fs k).width
  pub whole_before : (j : ℕ) → j < k → lacks_of s (nth_field fs j) ≡ 0
