-- What is compared of an accepted frame (02, T-06): "overflow fields by name, RU Allocation values by position, resources .., User fields ..
-- matched by their place among the User words".
--
-- a and b are the bytes of channel 1 and channel 2.
use Rattle.std.specs.Prelude.{Bool, false, cond, ◌&&◌, ◌||◌, List, [], ◌∷◌, ℕ, ◌+◌, ◌-◌, ltb, eqb, length, get_or}
use Rattle.answer.specs.declared.Answer.{Answer}
use Rattle.answer.specs.Lists.{at}
use Rattle.bits.specs.Bits.{field}
use Rattle.bits.specs.Pack.{unpack}
use Rattle.resource.specs.Names.{name_of, number_of}
use Rattle.records.specs.declared.Record.{Record}
use Rattle.records.specs.Records.{blank}
use Rattle.channel.specs.Layout.{overflow, row, count, user_at}
use Rattle.channel.specs.Fields.{overflow_widths}
use Rattle.listed.specs.Listing.{resources, owner_in}

-- ---- what a frame says, one thing at a time
pub data Item : Type 0 where
  refused_with : Answer → Item
  bandwidth_is : ℕ → Item
  -- the k-th field of the overflow, from 0, is v
  overflow_is : ℕ → ℕ → Item
  -- position p has the RU Allocation value v
  value_is : ℕ → ℕ → Item
  -- the plan has this resource
  resource_is : Record → Item
  -- the i-th User field, from 0, has these bits and this resource
  user_is : ℕ → ℕ → Record → Item

-- ---- a reading: what an accepted frame says
pub record Reading : Type 0 where
  pub bandwidth : ℕ
  pub overflows : List ℕ
  pub values : List ℕ
  pub plan : List Record
  -- how many User fields there are over both channels, the bits of each, and its resource
  pub fields : ℕ
  pub bits : ℕ → ℕ
  pub owner : ℕ → Record

-- the i-th User field over both channels, m of which are channel 1's: "a number" of 22 bits, the first sent lowest
unfoldable pub user_bits : ℕ → List ℕ → List ℕ → ℕ → ℕ → ℕ
user_bits bw a b m i = cond (ltb i m) (field a (user_at bw i) 22) (field b (user_at bw (i - m)) 22)

-- "overflow values are the raw bits as decimal numbers", "names in sending order"; channel 2's overflow is channel 1's (5)
unfoldable pub reading_of : ℕ → List ℕ → List ℕ → Reading
reading_of bw a b = record {
  bandwidth = bw;
  overflows = unpack overflow_widths (overflow a);
  values = row bw a b;
  plan = resources (row bw a b);
  fields = count bw 1 a + count bw 2 b;
  bits = user_bits bw a b (count bw 1 a);
  owner = λ i. get_or (resources (row bw a b)) (owner_in (row bw a b) (count bw 1 a) i) blank;
}

-- ---- whether a frame says a thing

-- "The same resource is one of the same size, index and segment (so of the same subcarriers), however many fields it has"
unfoldable pub same_resource : Record → Record → Bool
same_resource x y =
    eqb (name_of x.resource) (name_of y.resource) && (eqb (number_of x.resource) (number_of y.resource) && eqb x.segment y.segment)

unfoldable pub has_same : Record → List Record → Bool
has_same x [] = false
has_same x (y ∷ ys) = same_resource x y || has_same x ys

-- "compared are the bits and the resource" of a User field
unfoldable pub tells : Reading → Item → Bool
tells x (refused_with z) = false
tells x (bandwidth_is b) = eqb x.bandwidth b
tells x (overflow_is k v) = ltb k (length x.overflows) && eqb (at x.overflows k) v
tells x (value_is p v) = ltb p (length x.values) && eqb (at x.values p) v
tells x (resource_is z) = has_same z x.plan
tells x (user_is i f z) = ltb i x.fields && (eqb (x.bits i) f && same_resource (x.owner i) z)
