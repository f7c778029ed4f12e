-- The runs that the program finds, counted from the channel's lower edge: no two resources of a plan share a number, none has one in a
-- punctured position, and each lies inside the channel, for every bandwidth and every plan that signals the row. `Tones.antt` says it of
-- 01's subcarriers.
use mathlib.Core.Path.{◌≡◌, refl, sym, ◌∙◌, ap, subst}
use mathlib.Core.Logic.{⊎_elim, ◌≢◌}
use mathlib.Core.Bool.{false}
use Prim.Native.Nat.{ℕ, ◌+◌, ◌*◌, ◌/◌, ◌%◌, ◌^◌, ◌≤◌, ◌<◌}
use native.Mathlib.Omega.{arith}
use native.Mathlib.Nat.{div-add-mod, eq-or-lt_of_le}
use lib.ListN.{length, get_or}
use Rattle.kinds.specs.Kinds.{span}
use Rattle.kinds.specs.Signals.{Place, Fits, own, blank, smaller, Signals}
use Rattle.kinds.proofs.Tests.{equal_or}
use Rattle.kinds.proofs.Fitting.{known, blank_least}
use Rattle.kinds.proofs.Table.{takes_known, family_low, full}
use Rattle.kinds.proofs.Places.{place_mod}
use Rattle.resource.specs.declared.Size.TheVariants.{S242}
use Rattle.resource.specs.declared.Piece.TheVariants.{Part}
use Rattle.resource.specs.Values.{pieces, own_pieces, divides}
use Rattle.resource.specs.Index.{resource_at}
use Rattle.resource.specs.Engine.{no_piece, runs_of}
use Rattle.resource.proofs.Edge.{In}
use Rattle.resource.proofs.Apart.{piece_inside, pieces_rise}
use Rattle.resource.proofs.Test.{below_or}
use Rattle.records.specs.declared.Record.{Record}
use Rattle.records.specs.Records.{lead, list_at, records_from, blank as no_record}
use Rattle.records.proofs.Lead.{itself_place, span_within}
use Rattle.records.proofs.Larger.{larger_inside, larger_cover, larger_span, runs_242}
use Rattle.records.proofs.Gives.{whole_piece}
use Rattle.records.proofs.Listing.{record_at, Located, Somewhere, located, located_record, own_length, own_record, larger_record_lem, larger_most, once_lead}

-- u is one of the resource's
abbrev pub HasRun : ℕ → Record → ℕ → Type 0
HasRun n r u = In u (runs_of n r.segment r.resource)

-- u is one of the 242's at position q
abbrev pub In242 : ℕ → ℕ → ℕ → Type 0
In242 n q u = In u (runs_of n (q / 4) (resource_at (q % 4) (Part S242 1)))

-- which lies in that position
pub here_242 : (b q u : ℕ) → b < 5 → q < 2 ^ b → In242 (2 ^ b) q u → u / 256 ≡ q
unfolding own_pieces pieces
here_242 b q u h l t = let f = piece_inside b (q / 4) (q % 4) 28 h (omega arith) (omega arith) no_piece 0 u (omega arith) t in omega arith

-- a punctured position is given to itself
alone_26 : (c q v : ℕ) → v ≡ 26 → Fits c q v → c ≡ 0
alone_26 c q v e (own t f) = absurd (omega (arith, family_low c (takes_known c _ t)))
alone_26 c q v e (blank t f) = absurd (omega (arith, blank_least c (q % span c)))
alone_26 c q v e (smaller f) = f.0

module _ (o row : ℕ → ℕ) (b : ℕ) (h : b < 5) (s : Signals o row 0 (2 ^ b)) where
  entire_at : (p q : ℕ) → p < 2 ^ b → Place (o p) p q → (q < 2 ^ b) × (o q ≡ o p)
  entire_at p q l w = let e = s.entire p q (omega arith) l w in (e.1, e.2)

  kind : (p : ℕ) → p < 2 ^ b → o p < 36
  kind p l = known (o p) p (row p) (s.fits p (omega arith) l)

  -- the span of a resource lies in the channel
  pub whole_span : (p : ℕ) → p < 2 ^ b → span (o p) * (p / span (o p)) + span (o p) ≤ 2 ^ b
  whole_span p l = span_within (o p) p b (kind p l) h (λ q w. (entire_at p q l w).0)

  -- the subcarriers of a resource that is listed at p lie in its places
  own_cells : (p m u : ℕ) → p < 2 ^ b → o p ≡ 0 → m < length (list_at (o p) row p) → HasRun (2 ^ b) (record_at (o p) row p m) u → Place (o p) p (u / 256)
  own_cells p m u l e k t =
      let k : m < length (own_pieces (row p)) = omega (arith, own_length (o p) row p e) in
      let f = piece_inside b (p / 4) (p % 4) (row p) h (omega arith) (omega arith) no_piece m u k (rw (own_record (o p) row p m e) at t) in
      let g : u / 256 ≡ p = omega arith in
      rw (g, e) (refl, full 0 (omega arith) (p % span 0) (place_mod 0 p (omega arith)))

  cells : (p m u : ℕ) → p < 2 ^ b → m < length (list_at (o p) row p) → HasRun (2 ^ b) (record_at (o p) row p m) u → Place (o p) p (u / 256)
  cells p m u l k t =
      ⊎_elim
      (λ e. own_cells p m u l e k t)
      (λ n. larger_inside (o p) (2 ^ b) p u (kind p l) n (rw (larger_record_lem (o p) row p m n) at t))
      (equal_or (o p) 0)

  -- of resource i
  pub placed : (i p m u : ℕ) → Located o row (2 ^ b) i p m → HasRun (2 ^ b) (get_or (records_from o row (2 ^ b)) i no_record) u → Place (o p) p (u / 256)
  placed i p m u w t = cells p m u w.inside w.place (rw (located_record o row (2 ^ b) i p m w) at t)

  -- and a resource that is no piece has all of the 242s of its places
  own_covers : (p m q u : ℕ) → o p ≡ 0 → m < length (list_at (o p) row p) → divides (row p) ≡ false → Place (o p) p q → In242 (2 ^ b) q u
      → HasRun (2 ^ b) (record_at (o p) row p m) u
  own_covers p m q u e k d w t =
      let f : q ≡ p = itself_place p q (subst (λ (x : ℕ). Place x p q) e w) in
      let g = whole_piece (row p) m d (omega (arith, own_length (o p) row p e)) in
      rw (own_record (o p) row p m e, g) (rw f at t)

  covers : (p m q u : ℕ) → p < 2 ^ b → m < length (list_at (o p) row p) → divides (row p) ≡ false → Place (o p) p q → In242 (2 ^ b) q u
      → HasRun (2 ^ b) (record_at (o p) row p m) u
  covers p m q u l k d w t =
      ⊎_elim
      (λ e. own_covers p m q u e k d w t)
      (λ n.
      let two : 1 < 2 ^ b = omega (arith, whole_span p l, larger_span (o p) (kind p l) n) in
      rw (larger_record_lem (o p) row p m n) (larger_cover (o p) (2 ^ b) p q u (kind p l) n w (rw (runs_242 (2 ^ b) q two) at t)))
      (equal_or (o p) 0)

  pub covered : (i p m q u : ℕ) → Located o row (2 ^ b) i p m → divides (row p) ≡ false → Place (o p) p q → In242 (2 ^ b) q u
      → HasRun (2 ^ b) (get_or (records_from o row (2 ^ b)) i no_record) u
  covered i p m q u w d f t = rw (located_record o row (2 ^ b) i p m w) (covers p m q u w.inside w.place d f t)

  -- those that are listed at one position rise
  rise_at : (p m l u v : ℕ) → p < 2 ^ b → m < l → l < length (list_at (o p) row p) → HasRun (2 ^ b) (record_at (o p) row p m) u
      → HasRun (2 ^ b) (record_at (o p) row p l) v → u < v
  rise_at p m l u v i j k t z =
      ⊎_elim
      (λ e.
      pieces_rise b (p / 4) (p % 4) (row p) h (omega arith) (omega arith) no_piece m l u v j (omega (arith, own_length (o p) row p e))
      (rw (own_record (o p) row p m e) at t) (rw (own_record (o p) row p l e) at z))
      (λ d. absurd (omega (arith, larger_most (o p) row p d)))
      (equal_or (o p) 0)

  pub runs_rise : (i j p m l u v : ℕ) → Located o row (2 ^ b) i p m → Located o row (2 ^ b) j p l → i < j
      → HasRun (2 ^ b) (get_or (records_from o row (2 ^ b)) i no_record) u → HasRun (2 ^ b) (get_or (records_from o row (2 ^ b)) j no_record) v → u < v
  runs_rise i j p m l u v a c e t z =
      rise_at p m l u v a.inside (omega (arith, a.numbered, c.numbered)) c.place
      (rw (located_record o row (2 ^ b) i p m a) at t) (rw (located_record o row (2 ^ b) j p l c) at z)

  -- a resource has one lowest place
  lead_same : (x p q v : ℕ) → Place x p v → Place x q v → p % span x ≡ lead x → q % span x ≡ lead x → p ≡ q
  lead_same x p q v a c d e = sym (div-add-mod p (span x)) ∙ rw (sym a.0 ∙ c.0, d ∙ sym e) (div-add-mod q (span x))

  -- two resources with a subcarrier in common are listed at one position
  one_position : (i j p m q l u : ℕ) → Located o row (2 ^ b) i p m → Located o row (2 ^ b) j q l
      → HasRun (2 ^ b) (get_or (records_from o row (2 ^ b)) i no_record) u → HasRun (2 ^ b) (get_or (records_from o row (2 ^ b)) j no_record) u → p ≡ q
  one_position i j p m q l u v w t z =
      let a = placed i p m u v t in
      let c = placed j q l u w z in
      let f = entire_at p (u / 256) v.inside a in
      let g = entire_at q (u / 256) w.inside c in
      let e : o q ≡ o p = sym g.1 ∙ f.1 in
      lead_same (o p) p q (u / 256) a (subst (λ (x : ℕ). Place x q (u / 256)) e c) (once_lead (o p) row p m v.place)
      (subst (λ (x : ℕ). q % span x ≡ lead x) e (once_lead (o q) row q l w.place))

  -- .. where they rise
  apart_at : (i j p m l u : ℕ) → Located o row (2 ^ b) i p m → Located o row (2 ^ b) j p l → i ≢ j
      → HasRun (2 ^ b) (get_or (records_from o row (2 ^ b)) i no_record) u → HasRun (2 ^ b) (get_or (records_from o row (2 ^ b)) j no_record) u → ⊥
  apart_at i j p m l u a c n t z =
      ⊎_elim
      (λ e. omega (arith, runs_rise i j p m l u u a c e t z))
      (λ e. ⊎_elim (λ f. n (sym f)) (λ f. omega (arith, runs_rise j i p l m u u c a f z t)) (eq-or-lt_of_le e))
      (below_or i j)

  -- no two resources share one
  pub runs_apart : (i j u : ℕ) → i < length (records_from o row (2 ^ b)) → j < length (records_from o row (2 ^ b)) → i ≢ j
      → HasRun (2 ^ b) (get_or (records_from o row (2 ^ b)) i no_record) u → HasRun (2 ^ b) (get_or (records_from o row (2 ^ b)) j no_record) u → ⊥
  runs_apart i j u k l n t z = go (located o row (2 ^ b) i k) (located o row (2 ^ b) j l)
    where
      go : Somewhere o row (2 ^ b) i → Somewhere o row (2 ^ b) j → ⊥
      go (p, m, v) (q, d, w) =
          let e = one_position i j p m q d u v w t z in
          let y : Located o row (2 ^ b) j p d = subst (λ (x : ℕ). Located o row (2 ^ b) j x d) (sym e) w in
          apart_at i j p m d u v y n t z

  -- each lies inside the channel
  pub runs_inside : (i u : ℕ) → i < length (records_from o row (2 ^ b)) → HasRun (2 ^ b) (get_or (records_from o row (2 ^ b)) i no_record) u → u < 256 * 2 ^ b
  runs_inside i u k t = go (located o row (2 ^ b) i k)
    where
      go : Somewhere o row (2 ^ b) i → u < 256 * 2 ^ b
      go (p, m, w) = let f = entire_at p (u / 256) w.inside (placed i p m u w t) in omega (arith, f.0)

  -- none has one in a punctured position
  pub runs_unpunctured : (i q u : ℕ) → i < length (records_from o row (2 ^ b)) → q < 2 ^ b → row q ≡ 26
      → In242 (2 ^ b) q u → HasRun (2 ^ b) (get_or (records_from o row (2 ^ b)) i no_record) u → ⊥
  unfolding own_pieces pieces
  runs_unpunctured i q u k l e t z = go (located o row (2 ^ b) i k)
    where
      here : u / 256 ≡ q
      here = here_242 b q u h l t

      go : Somewhere o row (2 ^ b) i → ⊥
      go (p, m, w) =
          let c = placed i p m u w z in
          let f = entire_at p (u / 256) w.inside c in
          let g : o q ≡ o p = rw (← here) f.1 in
          let a : o p ≡ 0 = sym g ∙ alone_26 (o q) q (row q) e (s.fits q (omega arith) l) in
          let y : p ≡ q = sym (itself_place p (u / 256) (subst (λ (x : ℕ). Place x p (u / 256)) a c)) ∙ here in
          let r : row p ≡ 26 = ap row y ∙ e in
          let x : length (list_at (o p) row p) ≡ 0 = own_length (o p) row p a ∙ rw r in
          omega (arith, w.place)
