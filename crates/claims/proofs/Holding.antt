-- Every resource that a value of an entry names is held by some plan: a row for each value, its plan worked out.
use mathlib.Core.Path.{◌≡◌, refl}
use mathlib.Core.Bool.{Bool, true, false, cond, ◌&&◌, ◌||◌}
use mathlib.Core.List.{List, [], ◌∷◌}
use Prim.Native.Nat.{ℕ, suc, ◌+◌, ◌-◌, ◌*◌, ◌/◌, ◌%◌, ◌^◌, ◌≤◌, ◌<◌}
use native.Mathlib.Omega.{arith}
use lib.Dec.{T, leb, eqb, eqb→eq}
use lib.ListN.{length, get_or}
use Rattle.answer.specs.Least.{least}
use Rattle.answer.specs.Lists.{at, build}
use Rattle.answer.proofs.Lists.{length_build}
use Rattle.resource.specs.declared.Resource.{Resource}
use Rattle.resource.specs.Names.{name_of, number_of}
use Rattle.resource.specs.Values.{carried, pieces, fields_of, divides, piece_fields, own_pieces, smaller_at}
use Rattle.resource.specs.Index.{index_of, position_of, from_positions, resource_at}
use Rattle.resource.proofs.Test.{both_left, both_right, wherever, met, below, every_below}
use Rattle.kinds.specs.Kinds.{kinds, kind_at as line_of, family, span, mask, takes, takes_block, blank_at, must_name}
use Rattle.kinds.specs.Fields.{gives, share, fields_in}
use Rattle.segments.specs.Engine.{fitting}
use Rattle.plan.specs.Engine.{given, entirely}
use Rattle.plan.proofs.Demand.{one_plan}
use Rattle.bench_checks.proofs.ByList.{signals, at_most, list_signals, list_of_eight}
use Rattle.records.specs.declared.Record.{Record}
use Rattle.records.specs.Records.{lead, resource_column, larger, list_at, records_of, blank}
use Rattle.records.proofs.Listing.{same_records}
use Rattle.trigger_values.specs.Values.{named, resource_of, reaches, taken}
use Rattle.trigger_values.proofs.Back.{named_low, taken_named}
use Rattle.resource.proofs.Names.{same_named}
use Rattle.trigger_values.proofs.OneToOne.{same}
use Rattle.claims.specs.Trigger.{HeldBySome}

-- the value at position p of a row whose plan holds the resource of value v: all positions alike, but for a 106+26 and a 484+242
abbrev value_at : ℕ → ℕ → ℕ
value_at v p =
    cond (leb v 36) 0
    (cond (leb v 52) 15
    (cond (leb v 60) 25
    (cond (leb v 64) 64
    (cond (leb v 66) 72
    (cond (leb v 67) 80
    (cond (leb v 89) (cond (eqb p ((v - 82) / 2)) (48 + 2 * ((v - 82) % 2)) 0)
    (cond (eqb p (v - 90)) 64 (96 + 8 * (v - 90)))))))))

abbrev row_of : ℕ → ℕ → List ℕ
row_of bw v = build (value_at v) (2 ^ bw)

-- and the kind that its plan gives each position to
abbrev kind_at : ℕ → ℕ → ℕ
kind_at v p =
    cond (leb v 64) 0
    (cond (leb v 66) 1
    (cond (leb v 67) 2
    (cond (leb v 89) 0
    (cond (eqb p (v - 90)) 0 (3 + (v - 90))))))

abbrev kinds_of : ℕ → ℕ → List ℕ
kinds_of bw v = build (kind_at v) (2 ^ bw)

-- one of the records has the resource
abbrev has : Resource → List Record → Bool
has r [] = false
has r (x ∷ xs) = same x.resource r || has r xs

same_is : (r s : Resource) → T (same r s) → r ≡ s
same_is r s t =
    same_named r s (eqb→eq (name_of r) (name_of s) (both_left (eqb (name_of r) (name_of s)) (eqb (number_of r) (number_of s)) t))
    (eqb→eq (number_of r) (number_of s) (both_right (eqb (name_of r) (name_of s)) (eqb (number_of r) (number_of s)) t))

abbrev HasAt : Resource → List Record → Type 0
HasAt r xs = (i : ℕ) × (i < length xs) × ((get_or xs i blank).resource ≡ r)

has_at : (r : Resource) (xs : List Record) → T (has r xs) → HasAt r xs
has_at r [] t = absurd t
has_at r (x ∷ xs) t = go (same x.resource r) refl t (has_at r xs)
  where
    go : (b : Bool) → same x.resource r ≡ b → T (b || has r xs) → (T (has r xs) → HasAt r xs) → HasAt r (x ∷ xs)
    go true e u f = (0, omega arith, same_is x.resource r (rw e tt))
    go false e u f = let w = f u in let l = w.1 in (suc w.0, omega arith, w.2)

abbrev held_test : ℕ → ℕ → Bool
held_test bw v =
    wherever (taken bw v)
    (signals (row_of bw v) (kinds_of bw v) (length (row_of bw v))
    && (below (at_most (row_of bw v) (kinds_of bw v)) (length (row_of bw v)) && has (resource_of v) (records_of (at (kinds_of bw v)) (row_of bw v))))

all_held : T (below (λ bw. below (held_test bw) 94) 3)
unfolding entirely given fitting least must_name blank_at takes_block takes mask span family line_of kinds gives share fields_in list_at lead resource_column
    larger piece_fields divides pieces fields_of own_pieces smaller_at index_of position_of from_positions resource_at carried build named resource_of reaches
    taken
all_held = tt

pub held_by_some : (bw : ℕ) → bw ≤ 2 → (v : ℕ) → T (taken bw v) → HeldBySome bw (resource_of v)
held_by_some bw h v t =
    let row = row_of bw v in
    let ks = kinds_of bw v in
    let rs = records_of (at ks) row in
    let u = met (taken bw v) _ (every_below (held_test bw) 94 (every_below (λ bw. below (held_test bw) 94) 3 all_held bw (omega arith)) v
    (named_low v (taken_named bw v t))) t in
    let e = both_left (signals row ks (length row)) _ u in
    let s = list_signals row ks (length row) e in
    let r = both_right (signals row ks (length row)) _ u in
    let w = has_at (resource_of v) rs (both_right (below (at_most row ks) (length row)) (has (resource_of v) rs) r) in
    record {
      row = row;
      as_many = length_build (value_at v) (2 ^ bw);
      plan = list_of_eight row ks (length row) e (both_left (below (at_most row ks) (length row)) _ r);
      held = λ o z. rw (same_records o (at ks) (at row) (length row) (λ p l. one_plan row o (at ks) z s p l)) w;
    }
