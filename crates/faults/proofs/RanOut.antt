-- Where the bits of a channel ran out: the turns of the search, and that what it finds is the field that did not fit.
use mathlib.Core.Path.{◌≡◌, refl}
use mathlib.Core.List.{List, [], ◌∷◌}
use Prim.Native.Nat.{ℕ, zero, suc, ◌+◌, ◌-◌, ◌*◌, ◌≤◌, ◌<◌}
use native.Mathlib.Decide.{dec_lt}
use native.Mathlib.Numerals.{add-one}
use native.Mathlib.Omega.{arith}
use lib.ListN.{length, drop, drop_of_length-le}
use lib.Seq.{drop-cons}
use borrow.Author.Tests.{lt-ltb, le-ltb}
use Rattle.answer.specs.Lists.{at}
use Rattle.bits.specs.Bits.{lacks}
use Rattle.channel.specs.Layout.{end_of}
use Rattle.channel.specs.Fields.{Named, named_at, fields_from, widths, named_fields, nth_field}
use Rattle.channel.proofs.Fields.{bits_in, bits_widths, tiles}
use Rattle.faults.specs.RanOut.{lacks_of, ran_out_at, DidNotFit}

-- ---- the search, field by field

-- from field k on, which starts at bit `from` and has w bits
module _ (s : List ℕ) (from : ℕ) (ws : List ℕ) (k w : ℕ) where
  next : k < length ws → w ≡ at ws k → fields_from from (drop k ws) ≡ named_at from w ∷ fields_from (from + w) (drop (k + 1) ws)
  next l e = rw (drop-cons ws k 0 l, add-one k, e) refl

  pub search_stop : k < length ws → w ≡ at ws k → 0 < lacks s from w → ran_out_at s (fields_from from (drop k ws)) ≡ from
  unfolding ran_out_at
  search_stop l e m = rw (next l e, lt-ltb 0 (lacks s from w) m) refl

  pub search_on : k < length ws → w ≡ at ws k → lacks s from w ≤ 0
      → ran_out_at s (fields_from (from + w) (drop (k + 1) ws)) ≡ ran_out_at s (fields_from from (drop k ws))
  unfolding ran_out_at
  search_on l e m = rw (next l e, le-ltb 0 (lacks s from w) m) refl

pub search_end : (s : List ℕ) (from : ℕ) (ws : List ℕ) (k : ℕ) → length ws ≤ k → ran_out_at s (fields_from from (drop k ws)) ≡ 0
unfolding ran_out_at
search_end s from ws k l = rw (drop_of_length-le ws l) refl

-- ---- what it finds

abbrev Found : List ℕ → List Named → Type 0
Found s fs = (k : ℕ) × (k < length fs) × DidNotFit s fs k × (ran_out_at s fs ≡ (nth_field fs k).first)

here : (s : List ℕ) (from w : ℕ) (ws : List ℕ) → from ≤ 8 * length s → 8 * length s < from + w → Found s (fields_from from (w ∷ ws))
unfolding ran_out_at lacks
here s from w ws l m = (
  0,
  omega arith,
  record {
    has_first_missing = record { from = l; below = m };
    lacks_one = omega arith;
    lacks_no_more = omega arith;
    whole_before = λ j n. absurd (omega arith);
  },
  rw (lt-ltb 0 (w - (8 * length s - from)) (omega arith)) refl,
)

later : (s : List ℕ) (from w : ℕ) (ws : List ℕ) → from + w ≤ 8 * length s → Found s (fields_from (from + w) ws) → Found s (fields_from from (w ∷ ws))
unfolding ran_out_at lacks
later s from w ws l (k, m, d, e) = (
  suc k,
  omega arith,
  record {
    has_first_missing = d.has_first_missing;
    lacks_one = d.lacks_one;
    lacks_no_more = d.lacks_no_more;
    whole_before = before;
  },
  rw (le-ltb 0 (w - (8 * length s - from)) (omega arith)) e,
)
  where
    before : (j : ℕ) → j < suc k → lacks_of s (nth_field (fields_from from (w ∷ ws)) j) ≡ 0
    before zero n = omega arith
    before (suc j) n = d.whole_before j (omega arith)

found : (s : List ℕ) (from : ℕ) (ws : List ℕ) → from ≤ 8 * length s → 8 * length s < from + bits_in ws → Found s (fields_from from ws)
found s from [] l m = absurd (omega arith)
found s from (w ∷ ws) l m = go (found s (from + w) ws) (dec_lt (8 * length s) (from + w))
  where
    go : (from + w ≤ 8 * length s → 8 * length s < from + w + bits_in ws → Found s (fields_from (from + w) ws)) → Dec (8 * length s < from + w)
        → Found s (fields_from from (w ∷ ws))
    go ih (yes n) = here s from w ws l n
    go ih (no n) = later s from w ws (omega arith) (ih (omega arith) (omega arith))

-- a channel that ends before its last block does: some field did not fit, and the place is its first bit
pub did_not_fit : (bw n : ℕ) (s : List ℕ) → 8 * length s < end_of bw n → Found s (named_fields bw n)
unfolding named_fields
did_not_fit bw n s l = found s 0 (widths bw n) (omega arith) (omega (arith, bits_widths bw n))

-- and no other field did
pub one_did_not_fit : (bw n : ℕ) (s : List ℕ) (j k : ℕ) → DidNotFit s (named_fields bw n) j → DidNotFit s (named_fields bw n) k → j ≡ k
one_did_not_fit bw n s j k p q = (tiles bw n).in_no_other (8 * length s) j k p.has_first_missing q.has_first_missing
