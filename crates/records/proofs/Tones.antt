-- No two resources of a plan share a subcarrier, none has one in a punctured position, each lies inside the channel, and has as many as its
-- name says, in rising maximal runs: 01's spans, for every bandwidth and every plan that signals the row.
use mathlib.Core.Path.{◌≡◌, subst}
use mathlib.Core.Logic.{◌≢◌}
use mathlib.Core.List.{map}
use Prim.Native.Nat.{ℕ, ◌*◌, ◌^◌, ◌<◌}
use native.Mathlib.Omega.{arith}
use lib.IntN.{ℤ, pos}
use lib.ListN.{length}
use lib.Signed.{◌≤ℤ◌, ◌<ℤ◌}
use Rattle.resource.specs.declared.Size.TheVariants.{S242}
use Rattle.resource.specs.declared.Piece.TheVariants.{Part}
use Rattle.resource.specs.declared.Resource.{Resource}
use Rattle.resource.specs.Index.{is_piece, from_positions}
use Rattle.resource.specs.Tones.{minus, tones_of, Among}
use Rattle.resource.specs.Engine.{signed, span_of, runs_of}
use Rattle.resource.proofs.Edge.{In, among_in, among_counted, inside_edges}
use Rattle.resource.proofs.Agree.{AgreesAt}
use Rattle.kinds.specs.Signals.{Signals}
use Rattle.records.specs.Records.{records_from, HasTone, Punctured, RightRecord}
use Rattle.records.specs.Demand.{resource_in}
use Rattle.records.proofs.Larger.{piece_there}
use Rattle.records.proofs.Subcarriers.{runs_apart, runs_inside, runs_unpunctured}
use Rattle.records.proofs.Sizes.{record_agrees}

-- ---- a subcarrier of a resource, counted from the channel's lower edge
pub from_edge : (n g : ℕ) (r : Resource) (k : ℤ) → AgreesAt n g r → Among k (tones_of n g r) → (u : ℕ) × (k ≡ signed n u)
from_edge n g r k w t = among_counted n k (runs_of n g r) (rw w.tones at t)

pub in_runs : (n g : ℕ) (r : Resource) (k : ℤ) (u : ℕ) → AgreesAt n g r → k ≡ signed n u → Among k (tones_of n g r) → In u (runs_of n g r)
in_runs n g r k u w e t = among_in n u (runs_of n g r) (subst (λ (z : ℤ). Among z (map (span_of n) (runs_of n g r))) e (rw w.tones at t))

module _ (o row : ℕ → ℕ) (b : ℕ) (h : b < 5) (s : Signals o row 0 (2 ^ b)) where
  pub no_shared : (i j : ℕ) (k : ℤ) → i < length (records_from o row (2 ^ b)) → j < length (records_from o row (2 ^ b)) → i ≢ j
      → HasTone (2 ^ b) (resource_in (records_from o row (2 ^ b)) i) k → HasTone (2 ^ b) (resource_in (records_from o row (2 ^ b)) j) k → ⊥
  no_shared i j k l m d t z =
      let x = record_agrees o row b h s i l in
      let u = from_edge _ _ _ k x t in
      runs_apart o row b h s i j u.0 l m d (in_runs _ _ _ k u.0 x u.1 t) (in_runs _ _ _ k u.0 (record_agrees o row b h s j m) u.1 z)

  pub none_punctured : (i q : ℕ) (k : ℤ) → i < length (records_from o row (2 ^ b)) → q < 2 ^ b → row q ≡ 26
      → Punctured (2 ^ b) q k → HasTone (2 ^ b) (resource_in (records_from o row (2 ^ b)) i) k → ⊥
  unfolding is_piece from_positions
  none_punctured i q k l m e t z =
      let x = record_agrees o row b h s i l in
      let u = from_edge _ _ _ k x z in
      runs_unpunctured o row b h s i q u.0 l m e
      (in_runs _ _ _ k u.0 (piece_there b h q (Part S242 1) m (omega arith) tt) u.1 t) (in_runs _ _ _ k u.0 x u.1 z)

  pub inside_channel : (i : ℕ) (k : ℤ) → i < length (records_from o row (2 ^ b)) → HasTone (2 ^ b) (resource_in (records_from o row (2 ^ b)) i) k
      → (minus (128 * 2 ^ b) ≤ℤ k) × (k <ℤ pos (128 * 2 ^ b))
  inside_channel i k l t =
      let x = record_agrees o row b h s i l in
      let u = from_edge _ _ _ k x t in
      rw u.1 (inside_edges (2 ^ b) u.0 (runs_inside o row b h s i u.0 l (in_runs _ _ _ k u.0 x u.1 t)))

  pub record_right : (i : ℕ) → i < length (records_from o row (2 ^ b)) → RightRecord (2 ^ b) (resource_in (records_from o row (2 ^ b)) i)
  record_right i l = (record_agrees o row b h s i l).right
