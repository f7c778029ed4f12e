-- 02's T-14 holds.
use mathlib.Core.Path.{◌≡◌, sym, ap, subst, ◌∙◌}
use mathlib.Core.Logic.{◌≢◌, ◌⊎◌, inl, inr, ⊎_elim}
use mathlib.Core.List.{List, map}
use Prim.Native.Nat.{ℕ, ◌+◌, ◌%◌, ◌<◌}
use native.Mathlib.Omega.{arith}
use lib.ListN.{length, set, length-set}
use lib.Seq.{get_or-set_same, get_or-set_other}
use Rattle.answer.specs.Lists.{at}
use Rattle.kinds.specs.Signals.{Fits, Signals}
use Rattle.kinds.specs.Fields.{fields_to}
use Rattle.kinds.proofs.Tests.{equal_or}
use Rattle.plan.specs.Answers.{SomePlanOfEight}
use Rattle.plan.proofs.Demand.{one_plan}
use Rattle.resource.proofs.Test.{below_or}
use Rattle.channel.specs.Layout.{row}
use Rattle.records.specs.declared.Record.{Record}
use Rattle.records.specs.Records.{records_from, records_of}
use Rattle.records.specs.Owns.{ComesFrom}
use Rattle.records.specs.Engine.{owner_of}
use Rattle.records.proofs.Owners.{comes_below, owner_owns}
use Rattle.records.specs.Demand.{resource_in}
use Rattle.records.specs.FieldsOf.{fields_on}
use Rattle.records.proofs.Listing.{same_records}
use Rattle.records.proofs.Worked.{same_owner}
use Rattle.listed.specs.Listing.{record_line}
use Rattle.claims.specs.Calls.{Call, Reads}
use Rattle.claims.specs.Formats.{WordOn, OwnsIn, UserWords}
use Rattle.claims.specs.Sweep.{Sweeps, PlanOf, elsewhere, tones_in, Keeps, SameField, FieldShifted, SameOwner, Carries, bits_in, word_in, Swept, Sweep}
use Rattle.claims.proofs.Answers.{all_channels}
use Rattle.claims.proofs.Second.{second_demand}
use Rattle.claims.proofs.Swept as Kept
use Rattle.claims.proofs.Swept.{Own, swept_own, allowed_own, allowed_fits}
use Rattle.claims.proofs.SweptRows.{not_28, left_out_pair}
use Rattle.claims.proofs.SweptOwners.{comes_too, field_shifted, OneResource, one_resource}

-- ---- the word of a User field that is read is of the format of the resource that owns it
abbrev row_of : Call → List ℕ
row_of c = row c.bandwidth c.channel_1 c.channel_2

abbrev ByOwner : Call → (ℕ → ℕ) → ℕ → ℕ → ℕ → List ℕ → Type 0
ByOwner c o i x j r = PlanOf r o → OwnsIn o r i x j → WordOn (resource_in (records_of o r) i) (bits_in c x j) (word_in c x j)

by_owner : (c : Call) → UserWords c.bandwidth c.channel_1 c.channel_2 c.after → (o : ℕ → ℕ) (i x j : ℕ) → (x ≡ 1) ⊎ (x ≡ 2)
    → ByOwner c o i x j (row_of c)
by_owner c u o i x j (inl e) s = rw e ((u.each_plan o s).word_1 i j)
by_owner c u o i x j (inr e) s = rw e ((u.each_plan o s).word_2 i j)

either_channel : (q x : ℕ) → q % 2 + 1 ≡ x → (x ≡ 1) ⊎ (x ≡ 2)
either_channel q x e = ⊎_elim (λ (f : x ≡ 1). inl f) (λ (f : x ≢ 1). inr (omega arith)) (equal_or x 1)

word_on : (c : Call) → Reads c → c.answer.number ≡ 0 → (r : List ℕ) → Carries c r → (o : ℕ → ℕ) → PlanOf r o → (i x j q k : ℕ)
    → ComesFrom (at r) (length r) x j q k → OwnsIn o r i x j → WordOn (resource_in (records_of o r) i) (bits_in c x j) (word_in c x j)
word_on c g z r h o s i x j q k w =
    subst (ByOwner c o i x j) h.the_row (by_owner c (second_demand.user_words_are c g z) o i x j (either_channel q x w.channel)) s

-- one resource, one content, one word
one_word : (x : Record) (f v v' : ℕ) → WordOn x f v → WordOn x f v' → v ≡ v'
one_word x f v v' w w' =
    ⊎_elim (λ l. w.alone l ∙ sym (w'.alone l)) (λ l. w.shared l ∙ sym (w'.shared l)) (below_or (fields_on x) 2)

-- ---- the sweep
module _ (row : List ℕ) (p v : ℕ) (w : Sweeps row p v) where
  abbrev row' : List ℕ
  row' = set row p v

  same_length : length row' ≡ length row
  same_length = length-set row p v

  there : at row' p ≡ v
  there = get_or-set_same row p v 0 w.inside

  other : (q : ℕ) → q ≢ p → at row' q ≡ at row q
  other q d = get_or-set_other row p q v 0 d

  old : Own (at row p)
  old = swept_own (at row p) w.old

  new : Own (at row' p)
  new = rw there (allowed_own p v w.new)

  fits_new : Fits 0 p (at row' p)
  fits_new = rw there (allowed_fits p v w.new)

  module _ (o : ℕ → ℕ) (s : PlanOf row o) where
    own_position : o p ≡ 0
    own_position = Kept.its_own (at row) (at row') p other old new o 0 (length row) (omega arith) w.inside s

    -- the plan before is a plan after
    plan_kept : Signals o (at row') 0 (length row)
    plan_kept = Kept.signals_kept (at row) (at row') p other old new o 0 (length row) (omega arith) w.inside s fits_new

    plan_after : PlanOf row' o
    plan_after = rw same_length plan_kept

  stays : SomePlanOfEight row' 0 (length row')
  stays =
      let o = w.accepted.0 in
      let s = w.accepted.1 in
      (o, plan_after o s, rw same_length (Kept.eight_kept (at row) (at row') p other old new o 0 (length row) (omega arith) w.inside s w.accepted.2))

  -- ---- any plan before, and any plan after
  module _ (o o' : ℕ → ℕ) (s : PlanOf row o) (s' : PlanOf row' o') where
    agree : (q : ℕ) → q < length row' → o q ≡ o' q
    agree = one_plan row' o o' (plan_after o s) s'

    records_after : records_of o' row' ≡ records_from o (at row') (length row)
    records_after = sym (same_records o o' (at row') (length row') agree) ∙ ap (records_from o (at row')) same_length

    resources_kept : elsewhere p (records_of o row) ≡ elsewhere p (records_of o' row')
    resources_kept = Kept.records_kept (at row) (at row') p other old new o (own_position o s) (length row) ∙ ap (elsewhere p) (sym records_after)

    keeps : Keeps row row' p o o'
    keeps = record {
      same_plan = λ q l. agree q (omega (arith, same_length));
      its_own = own_position o s;
      same_resources = resources_kept;
      same_tones = ap (map (tones_in (length row))) resources_kept ∙ ap (λ (n : ℕ). map (tones_in n) (elsewhere p (records_of o' row'))) (sym same_length);
    }

    one_of : (c j j' q k i i' : ℕ) → SameField row row' p c j j' q k → OwnsIn o row i c j → OwnsIn o' row' i' c j'
        → OneResource (at row) (at row') p other old new o (length row) i i'
    one_of c j j' q k i i' f y y' =
        one_resource (at row) (at row') p other old new o (length row) s (plan_kept o s) (own_position o s) c j j' q k i i' f.other f.was
        (rw (← same_length) f.is) y (rw (← same_length) (same_owner o' o (at row') (length row') s' (λ q l. sym (agree q l)) i' c j' y'))

    owner_kept : (c j j' q k i i' : ℕ) → SameField row row' p c j j' q k → OwnsIn o row i c j → OwnsIn o' row' i' c j' → SameOwner row row' p v o o' i i'
    owner_kept c j j' q k i i' f y y' =
        let one = one_of c j j' q k i i' f y y' in
        let e : resource_in (records_of o row) i ≡ resource_in (records_of o' row') i' =
        one.same ∙ ap (λ (rs : List Record). resource_in rs i') (sym records_after) in
        record {
          same_resource = e;
          same_tones = ap (tones_in (length row)) e ∙ ap (λ (n : ℕ). tones_in n (resource_in (records_of o' row') i')) (sym same_length);
          same_line = ap (record_line (length row)) e ∙ ap (λ (n : ℕ). record_line n (resource_in (records_of o' row') i')) (sym same_length);
          at_another = one.another;
          shifted = rw there at one.moved;
        }

  -- ---- the fields of other positions
  shift : (c q k : ℕ) → FieldShifted row p v c q (fields_to c (at row) q + k) (fields_to c (at row') q + k)
  shift c q k = rw there at (field_shifted (at row) (at row') p other old new c q k)

  field_kept : (c j q k : ℕ) → q ≢ p → ComesFrom (at row) (length row) c j q k
      → (j' : ℕ) × SameField row row' p c j j' q k × FieldShifted row p v c q j j'
  field_kept c j q k d f = (
    fields_to c (at row') q + k,
    record { other = d; was = f; is = comes_too (at row) (at row') (length row) (length row') c j q k (sym same_length) (other q d) f },
    rw f.follows (shift c q k),
  )

  field_back : (c j' q k : ℕ) → q ≢ p → ComesFrom (at row') (length row') c j' q k
      → (j : ℕ) × SameField row row' p c j j' q k × FieldShifted row p v c q j j'
  field_back c j' q k d f = (
    fields_to c (at row) q + k,
    record { other = d; was = comes_too (at row') (at row) (length row') (length row) c j' q k same_length (sym (other q d)) f; is = f },
    rw f.follows (shift c q k),
  )

  word_kept : (c c' : Call) → Reads c → Reads c' → Carries c row → Carries c' row' → c.answer.number ≡ 0 → c'.answer.number ≡ 0
      → (x j j' q k : ℕ) → SameField row row' p x j j' q k → bits_in c x j ≡ bits_in c' x j' → word_in c x j ≡ word_in c' x j'
  word_kept c c' g g' h h' z z' x j j' q k f e =
      let o = w.accepted.0 in
      let s = w.accepted.1 in
      let s' = plan_after o s in
      let i = owner_of o (at row) x (length row) j in
      let i' = owner_of o (at row') x (length row') j' in
      let y = owner_owns o (at row) (length row) s x j (comes_below (at row) (length row) x j q k f.was) in
      let y' = owner_owns o (at row') (length row') s' x j' (comes_below (at row') (length row') x j' q k f.is) in
      one_word (resource_in (records_of o row) i) (bits_in c x j) (word_in c x j) (word_in c' x j')
      (word_on c g z row h o s i x j q k f.was y)
      (rw ((owner_kept o o s s' x j j' q k i i' f y y').same_resource, e) (word_on c' g' z' row' h' o s' i' x j' q k f.is y'))

  swept_row : Swept row row' p v
  swept_row = record {
    stays_accepted = stays;
    keeps = keeps;
    field_stays = field_kept;
    field_was = field_back;
    same_owner = owner_kept;
    neither_7_nor_8 = λ c g h. (all_channels row' c g h).signalled stays;
    same_word = word_kept;
  }

pub sweep : Sweep
sweep = record { each = swept_row; not_28 = not_28; left_out_pair = left_out_pair }
