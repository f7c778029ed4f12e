-- Which of two differences comes first (02, T-06): "in that order, and inside each in listing order, first frame's side first".
use Rattle.std.specs.Prelude.{◌≡◌, List, ℕ, ◌<◌, length, get_or}
use Rattle.records.specs.Records.{blank}
use Rattle.compared.specs.Reading.{Item, refused_with, bandwidth_is, overflow_is, value_is, resource_is, user_is, Reading}
use Rattle.compared.specs.Differences.{Difference, by}
use Rattle.compared.specs.Exact.{whose}

-- the groups: "a differing bandwidth ..; else overflow fields .., RU Allocation values .., resources only in one, User fields"
abbrev pub group_of : Item → ℕ
group_of (refused_with z) = 0
group_of (bandwidth_is b) = 1
group_of (overflow_is k v) = 2
group_of (value_is p v) = 3
group_of (resource_is z) = 4
group_of (user_is i f z) = 5

-- the item: the field's number in sending order, the position, the place among the User words
abbrev pub number_in : Item → ℕ
number_in (refused_with z) = 0
number_in (bandwidth_is b) = 0
number_in (overflow_is k v) = k
number_in (value_is p v) = p
number_in (resource_is z) = 0
number_in (user_is i f z) = i

pub data Earlier (x y : Reading) (d e : Difference) : Type 0 where
  by_group : group_of d.what < group_of e.what → Earlier x y d e
  by_item : group_of d.what ≡ group_of e.what → number_in d.what < number_in e.what → Earlier x y d e
  by_side : group_of d.what ≡ group_of e.what → number_in d.what ≡ number_in e.what → d.frame ≡ 1 → e.frame ≡ 2 → Earlier x y d e
  -- two resources of one frame, as its listing has them
  by_listing : (s i j : ℕ) → i < j → j < length (whose s x y).plan
      → d ≡ by s (resource_is (get_or (whose s x y).plan i blank)) → e ≡ by s (resource_is (get_or (whose s x y).plan j blank)) → Earlier x y d e

pub record InOrder (x y : Reading) (ds : List Difference) : Type 0 where
  pub rising : (i j : ℕ) (d : Difference) → i < j → j < length ds → Earlier x y (get_or ds i d) (get_or ds j d)
