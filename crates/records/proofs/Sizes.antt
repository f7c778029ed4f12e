-- The runs that the program finds for a resource of a plan are its subcarriers, as many as its name says, in rising maximal runs: for every
-- bandwidth and every plan that signals the row.
use mathlib.Core.Path.{◌≡◌}
use mathlib.Core.Logic.{⊎_elim}
use Prim.Native.Nat.{ℕ, ◌^◌, ◌<◌}
use native.Mathlib.Omega.{arith}
use lib.ListN.{length, get_or}
use Rattle.resource.specs.Engine.{piece_at}
use Rattle.resource.proofs.Pieces.{own_piece}
use Rattle.resource.proofs.Agree.{AgreesAt}
use Rattle.kinds.specs.Signals.{Signals}
use Rattle.kinds.proofs.Tests.{equal_or}
use Rattle.kinds.proofs.Fitting.{known}
use Rattle.records.specs.declared.Record.{Record}
use Rattle.records.specs.Records.{list_at, records_from, blank}
use Rattle.records.proofs.Larger.{piece_there, larger_agrees}
use Rattle.records.proofs.Listing.{record_at, Somewhere, located, located_record, own_length, own_record, larger_record_lem}
use Rattle.records.proofs.Subcarriers.{whole_span}

abbrev pub AgreesRecord : ℕ → Record → Type 0
AgreesRecord n r = AgreesAt n r.segment r.resource

module _ (o row : ℕ → ℕ) (b : ℕ) (h : b < 5) (s : Signals o row 0 (2 ^ b)) where
  own_agrees : (p m : ℕ) → p < 2 ^ b → o p ≡ 0 → m < length (list_at (o p) row p) → AgreesRecord (2 ^ b) (record_at (o p) row p m)
  own_agrees p m l e k =
      let w = own_piece (row p) m (omega (arith, own_length (o p) row p e)) in
      rw (own_record (o p) row p m e) (piece_there b h p (piece_at (row p) m) l (omega (arith, w.1)) w.0)

  agrees_at : (p m : ℕ) → p < 2 ^ b → m < length (list_at (o p) row p) → AgreesRecord (2 ^ b) (record_at (o p) row p m)
  agrees_at p m l k =
      ⊎_elim
      (λ e. own_agrees p m l e k)
      (λ n. rw (larger_record_lem (o p) row p m n) (larger_agrees b h (o p) p (known (o p) p (row p) (s.fits p (omega arith) l)) l
      (whole_span o row b h s p l)))
      (equal_or (o p) 0)

  -- of each resource of the plan
  pub record_agrees : (i : ℕ) → i < length (records_from o row (2 ^ b)) → AgreesRecord (2 ^ b) (get_or (records_from o row (2 ^ b)) i blank)
  record_agrees i k = go (located o row (2 ^ b) i k)
    where
      go : Somewhere o row (2 ^ b) i → AgreesRecord (2 ^ b) (get_or (records_from o row (2 ^ b)) i blank)
      go (p, m, w) = rw (located_record o row (2 ^ b) i p m w) (agrees_at p m w.inside w.place)
