-- A resource's fields over both channels: those of all its places.
use mathlib.Core.Path.{◌≡◌, sym, ◌∙◌, ap, subst}
use mathlib.Core.Logic.{⊎_elim}
use mathlib.Core.Bool.{true, false}
use Prim.Native.Nat.{ℕ, ◌+◌, ◌/◌, ◌%◌, ◌<◌}
use native.Mathlib.Decide.{ℕ_discrete}
use native.Mathlib.Omega.{arith}
use borrow.Author.Tests.{eq-eqb, ne_eqb}
use Rattle.resource.specs.Values.{divides, piece_fields}
use Rattle.kinds.specs.Kinds.{span}
use Rattle.kinds.specs.Signals.{Place, Fits, Signals}
use Rattle.kinds.specs.Fields.{share, fields_in, together}
use Rattle.kinds.proofs.Tests.{equal_or}
use Rattle.records.specs.Records.{in_channel}
use Rattle.records.specs.FieldsOf.{fields_on}
use Rattle.records.proofs.Lead.{itself_place}
use Rattle.records.proofs.Listing.{record_at, own_record, larger_record_lem}
use Rattle.records.proofs.Gives.{share_fields}
use Rattle.records.proofs.Spans.{own_fields_in}

-- a position is one channel's
pub one_channel : (p f : ℕ) → in_channel 1 p f + in_channel 2 p f ≡ f
one_channel p f = go (ℕ_discrete (p % 2 + 1) 1)
  where
    go : Dec (p % 2 + 1 ≡ 1) → in_channel 1 p f + in_channel 2 p f ≡ f
    go (yes e) = rw (eq-eqb (p % 2 + 1) 1 e, ne_eqb (p % 2 + 1) 2 (λ z. omega arith)) (omega arith)
    go (no d) = rw (ne_eqb (p % 2 + 1) 1 d, eq-eqb (p % 2 + 1) 2 (omega arith)) (omega arith)

pub own_total : (row : ℕ → ℕ) (p : ℕ) → together 0 row p ≡ share 0 p (row p)
own_total row p = rw (own_fields_in 1 row p, own_fields_in 2 row p) (one_channel p (share 0 p (row p)))

-- the resource at a place has the same fields seen from any of its places
pub total_place : (x : ℕ) (row : ℕ → ℕ) (p q : ℕ) → q / span x ≡ p / span x → together x row q ≡ together x row p
unfolding fields_in
total_place x row p q e = rw e

module _ (o row : ℕ → ℕ) (n : ℕ) (s : Signals o row 0 n) where
  -- a piece has one field
  pub piece_one : (p k : ℕ) → divides (row p) ≡ true → o p ≡ 0 → fields_on (record_at (o p) row p k) ≡ 1
  unfolding piece_fields
  piece_one p k d e = ap fields_on (own_record (o p) row p k e) ∙ one_channel p (piece_fields (row p)) ∙ rw d

  -- any other resource has all the fields of its places
  own_places : (p k : ℕ) → p < n → divides (row p) ≡ false → o p ≡ 0 → fields_on (record_at (o p) row p k) ≡ together (o p) row p
  unfolding piece_fields
  own_places p k l d e =
      ap fields_on (own_record (o p) row p k e)
      ∙ one_channel p (piece_fields (row p))
      ∙ rw d (sym (rw e (own_total row p ∙ share_fields 0 p (row p) (subst (λ (x : ℕ). Fits x p (row p)) e (s.fits p (omega arith) l)) d)))

  pub all_places : (p q k : ℕ) → p < n → divides (row p) ≡ false → Place (o p) p q → fields_on (record_at (o p) row q k) ≡ together (o p) row p
  all_places p q k l d m =
      ⊎_elim
      (λ e.
      let z : q ≡ p = itself_place p q (subst (λ (x : ℕ). Place x p q) e m) in
      rw z (own_places p k l d e))
      (λ e. ap fields_on (larger_record_lem (o p) row q k e) ∙ total_place (o p) row p q m.0)
      (equal_or (o p) 0)
