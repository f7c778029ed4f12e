-- Whose subcarriers are whose, and that a plan's list is by position and frequency: 01's spans, for every bandwidth and every plan that signals
-- the row.
use mathlib.Core.Path.{◌≡◌, refl, sym, ◌∙◌, ap, subst}
use mathlib.Core.Logic.{⊎_elim, ◌≢◌}
use mathlib.Core.Bool.{true, false}
use mathlib.Core.List.{List}
use Prim.Native.Nat.{ℕ, ◌*◌, ◌/◌, ◌^◌, ◌≤◌, ◌<◌}
use native.Mathlib.Omega.{arith}
use lib.IntN.{ℤ, pos, nat_abs, -ℤ-+ℤ_cancel}
use lib.ListN.{length}
use Rattle.resource.specs.declared.Size.TheVariants.{S242}
use Rattle.resource.specs.declared.Piece.TheVariants.{Part}
use Rattle.resource.specs.Values.{divides}
use Rattle.resource.specs.Index.{is_piece, from_positions}
use Rattle.resource.specs.Engine.{signed, runs_of}
use Rattle.resource.proofs.Test.{below_or}
use Rattle.resource.proofs.Edge.{In, in_among, signed_lt}
use Rattle.resource.proofs.Pieces.{some_pieces, no_pieces_left}
use Rattle.resource.proofs.Agree.{AgreesAt, some_tone}
use Rattle.kinds.specs.Signals.{Place, Signals}
use Rattle.kinds.proofs.Tests.{equal_or, by_test}
use Rattle.records.specs.declared.Record.{Record}
use Rattle.records.specs.Records.{list_at, records_from, the242, HasTone, In242}
use Rattle.records.specs.Owns.{ComesFrom, Owns}
use Rattle.records.specs.Demand.{resource_in}
use Rattle.records.specs.Whose.{LiesIn, Takes242, InPlaces, HasPlaces, Below, Whose, Ordered}
use Rattle.records.specs.Engine.{lowest}
use Rattle.records.proofs.Lead.{lead_takes, lowest_place, lowest_only, lowest_below, itself_place, itself_lowest}
use Rattle.records.proofs.Larger.{piece_there}
use Rattle.records.proofs.Listing.{Located, located, located_record, record_position, once_lead, records_rise}
use Rattle.records.proofs.Owners.{owner_only, divided_itself}
use Rattle.records.proofs.Homes.{located_below, fit, kind, home, nth, owner_home, home_entire}
use Rattle.records.proofs.Sizes.{record_agrees}
use Rattle.records.proofs.Tones.{from_edge, in_runs}
use Rattle.records.proofs.Subcarriers.{HasRun, placed, covered, here_242, runs_rise}

-- ---- a subcarrier's position
lies : (n u : ℕ) → LiesIn n (u / 256) (signed n u)
lies n u = (u, -ℤ-+ℤ_cancel (pos u) (pos (128 * n)), refl)

lies_once : (n p q : ℕ) (k : ℤ) → LiesIn n p k → LiesIn n q k → p ≡ q
lies_once n p q k a c =
    let e : a.0 ≡ c.0 = ap nat_abs (sym a.1 ∙ c.1) in
    sym a.2 ∙ ap (λ (u : ℕ). u / 256) e ∙ c.2

-- ---- the 242 of a position
module _ (b : ℕ) (h : b < 5) (q : ℕ) (l : q < 2 ^ b) where
  agrees_242 : AgreesAt (2 ^ b) (q / 4) (the242 q)
  unfolding is_piece from_positions
  agrees_242 = piece_there b h q (Part S242 1) l (omega arith) tt

  run_242 : (k : ℤ) → In242 (2 ^ b) q k → (u : ℕ) × (k ≡ signed (2 ^ b) u) × In u (runs_of (2 ^ b) (q / 4) (the242 q))
  run_242 k t = let u = from_edge _ _ _ k agrees_242 t in (u.0, u.1, in_runs _ _ _ k u.0 agrees_242 u.1 t)

  in_242 : (k : ℤ) → In242 (2 ^ b) q k → LiesIn (2 ^ b) q k
  in_242 k t =
      let u = run_242 k t in
      rw u.1 (subst (λ (p : ℕ). LiesIn (2 ^ b) p (signed (2 ^ b) u.0)) (here_242 b q u.0 h l u.2) (lies (2 ^ b) u.0))

  pub takes_242 : Takes242 (2 ^ b) q
  takes_242 = record { named = agrees_242.right; there = in_242 }

module _ (o row : ℕ → ℕ) (b : ℕ) (h : b < 5) (s : Signals o row 0 (2 ^ b)) where
  abbrev n : ℕ
  n = 2 ^ b

  abbrev rs : List Record
  rs = records_from o row n

  -- ---- resource i, which is listed at p
  -- its subcarriers are those that the program counts
  tone_run : (i : ℕ) (k : ℤ) → i < length rs → HasTone n (resource_in rs i) k → (u : ℕ) × (k ≡ signed n u) × HasRun n (resource_in rs i) u
  tone_run i k l t =
      let x = record_agrees o row b h s i l in
      let u = from_edge _ _ _ k x t in
      (u.0, u.1, in_runs _ _ _ k u.0 x u.1 t)

  run_tone : (i u : ℕ) → i < length rs → HasRun n (resource_in rs i) u → HasTone n (resource_in rs i) (signed n u)
  run_tone i u l t = rw (record_agrees o row b h s i l).tones (in_among n u (runs_of n (resource_in rs i).segment (resource_in rs i).resource) t)

  lie : (i p m : ℕ) → Located o row n i p m → InPlaces o n p (resource_in rs i)
  lie i p m w k t =
      let u = tone_run i k (located_below o row n i p m w) t in
      (u.0 / 256, placed o row b h s i p m u.0 w u.2, subst (LiesIn n (u.0 / 256)) (sym u.1) (lies n u.0))

  below : (i j p m l : ℕ) → Located o row n i p m → Located o row n j p l → i < j → Below n (resource_in rs i) (resource_in rs j)
  below i j p m l a c e x y t z =
      let u = tone_run i x (located_below o row n i p m a) t in
      let v = tone_run j y (located_below o row n j p l c) z in
      rw (u.1, v.1) (signed_lt n u.0 v.0 (runs_rise o row b h s i j p m l u.0 v.0 a c e u.2 v.2))

  has : (i p m : ℕ) → Located o row n i p m → divides (row p) ≡ false → HasPlaces o n p (resource_in rs i)
  has i p m w d q k f t =
      let u = run_242 b h q (s.entire p q (omega arith) w.inside f).1 k t in
      rw u.1 (run_tone i u.0 (located_below o row n i p m w) (covered o row b h s i p m q u.0 w d f u.2))

  -- ---- "A plan lists resources by lowest position, then frequency"
  position_is : (i p m : ℕ) → Located o row n i p m → (resource_in rs i).position ≡ p
  position_is i p m w = ap (λ (x : Record). x.position) (located_record o row n i p m w) ∙ record_position (o p) row p m

  -- the position at which a resource is listed is its lowest place
  own_place : (i p m : ℕ) → Located o row n i p m → Place (o p) p p
  own_place i p m w = (refl, rw (once_lead (o p) row p m w.place) (lead_takes (o p) (kind o row n s p w.inside)))

  lowest_here : (p m q : ℕ) → m < length (list_at (o p) row p) → p < n → Place (o p) p q → p ≤ q
  lowest_here p m q l i f =
      let e = once_lead (o p) row p m l in
      let x : p ≡ lowest (o p) q = lowest_only (o p) q p (sym f.0, rw e (lead_takes (o p) (kind o row n s p i))) e in
      omega (arith, lowest_below (o p) q f.1)

  -- a larger resource is not divided
  larger_whole : (p : ℕ) → p < n → o p ≢ 0 → divides (row p) ≡ false
  larger_whole p l d = by_test (divides (row p)) (λ e. absurd (d (divided_itself (o p) p (row p) e (fit o row n s p l)))) (λ e. e)

  has_some : (i : ℕ) → i < length rs → (k : ℤ) × HasTone n (resource_in rs i) k
  has_some i l = some_tone _ _ (record_agrees o row b h s i l).right

  first_own : (i p m : ℕ) → Located o row n i p m → o p ≡ 0 → (k : ℤ) × HasTone n (resource_in rs i) k × LiesIn n p k
  first_own i p m w e =
      let t = has_some i (located_below o row n i p m w) in
      let f = lie i p m w t.0 t.1 in
      let g : f.0 ≡ p = itself_place p f.0 (subst (λ (x : ℕ). Place x p f.0) e f.1) in
      (t.0, t.1, subst (λ (q : ℕ). LiesIn n q t.0) g f.2)

  first_larger : (i p m : ℕ) → Located o row n i p m → o p ≢ 0 → (k : ℤ) × HasTone n (resource_in rs i) k × LiesIn n p k
  first_larger i p m w d =
      let t = some_tone _ _ (agrees_242 b h p w.inside).right in
      (t.0, has i p m w (larger_whole p w.inside d) p t.0 (own_place i p m w) t.1, in_242 b h p w.inside t.0 t.1)

  first_tone : (i p m : ℕ) → Located o row n i p m → (k : ℤ) × HasTone n (resource_in rs i) k × LiesIn n p k
  first_tone i p m w = ⊎_elim (first_own i p m w) (first_larger i p m w) (equal_or (o p) 0)

  no_earlier : (i j p m q l : ℕ) → Located o row n i p m → Located o row n j q l → i < j → p ≤ q
  no_earlier i j p m q l a c e =
      ⊎_elim
      (λ (g : q < p). absurd (omega (arith, a.numbered, c.numbered, c.place, records_rise o row q p g)))
      (λ (g : p ≤ q). g)
      (below_or q p)

  pub ordered : Ordered o n rs
  ordered = record {
    placed = λ i l. let w = located o row n i l in rw (position_is i w.0 w.1 w.2) (lie i w.0 w.1 w.2);
    lowest = λ i l. let w = located o row n i l in rw (position_is i w.0 w.1 w.2) (first_tone i w.0 w.1 w.2);
    none_lower = λ i q k l t z.
        let w = located o row n i l in
        let f = lie i w.0 w.1 w.2 k t in
        rw (position_is i w.0 w.1 w.2, lies_once n q f.0 k z f.2) (lowest_here w.0 w.1 f.0 w.2.place w.2.inside f.1);
    by_position = λ i j e l.
        let v = located o row n i (omega arith) in
        let w = located o row n j l in
        rw (position_is i v.0 v.1 v.2, position_is j w.0 w.1 w.2) (no_earlier i j v.0 v.1 w.0 w.1 v.2 w.2 e);
    then_frequency = λ i j e l f.
        let v = located o row n i (omega arith) in
        let w = located o row n j l in
        let g : w.0 ≡ v.0 = sym (position_is j w.0 w.1 w.2) ∙ sym f ∙ position_is i v.0 v.1 v.2 in
        below i j v.0 v.1 w.1 v.2 (subst (λ (p : ℕ). Located o row n j p w.1) g w.2) e;
  }

  -- ---- whose field is whose
  -- where the owner of a field of position p is listed
  at_home : (i c j p k : ℕ) → Owns o row n i c j → ComesFrom row n c j p k → Located o row n i (home o p (divides (row p))) (nth k (divides (row p)))
  at_home i c j p k w f = rw (owner_only o row n i c j w) (owner_home o row n s c j p k f)

  at_piece : (i c j p k : ℕ) → Owns o row n i c j → ComesFrom row n c j p k → divides (row p) ≡ true → Located o row n i p k
  at_piece i c j p k w f e = rw e at (at_home i c j p k w f)

  at_lowest : (i c j p k : ℕ) → Owns o row n i c j → ComesFrom row n c j p k → divides (row p) ≡ false → Located o row n i (lowest (o p) p) 0
  at_lowest i c j p k w f e = rw e at (at_home i c j p k w f)

  -- seen from p its places are those that are seen from its lowest one
  same_places : (p q : ℕ) → p < n → Place (o (lowest (o p) p)) (lowest (o p) p) q → Place (o p) p q
  same_places p q l f =
      let g = home_entire o row n s p l in
      let w = rw g.1 at f in
      (w.0 ∙ (lowest_place (o p) p (kind o row n s p l)).0.0, w.1)

  places_same : (p q : ℕ) → p < n → Place (o p) p q → Place (o (lowest (o p) p)) (lowest (o p) p) q
  places_same p q l f =
      let g = home_entire o row n s p l in
      rw g.1 (f.0 ∙ sym (lowest_place (o p) p (kind o row n s p l)).0.0, f.1)

  not_divided : (p : ℕ) → p < n → divides (row p) ≡ false → divides (row (lowest (o p) p)) ≡ false
  not_divided p l d =
      ⊎_elim
      (λ e. let f : lowest (o p) p ≡ p = ap (λ (x : ℕ). lowest x p) e ∙ itself_lowest p in rw f d)
      (λ e.
      let g = home_entire o row n s p l in
      larger_whole (lowest (o p) p) g.0 (λ z. e (sym g.1 ∙ z)))
      (equal_or (o p) 0)

  pub whose : Whose o row n rs
  whose = record {
    in_places = λ i c j p k w f. by_test (divides (row p))
        (λ e. lie i p k (at_piece i c j p k w f e))
        (λ e t x.
        let y = lie i (lowest (o p) p) 0 (at_lowest i c j p k w f e) t x in
        (y.0, same_places p y.0 f.inside y.1, y.2));
    rising = λ i i' c j j' p k k' w w' f f' d e.
        let t = some_pieces (row p) 0 d in
        let a = at_piece i c j p k w f t in
        let z = at_piece i' c j' p k' w' f' t in
        below i i' p k k' a z (omega (arith, a.numbered, z.numbered, f.follows, f'.follows));
    whole = λ i c j p k w f e q t g.
        let d = no_pieces_left (row p) e in
        has i (lowest (o p) p) 0 (at_lowest i c j p k w f d) (not_divided p f.inside d) q t (places_same p q f.inside g);
  }
