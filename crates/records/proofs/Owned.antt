-- A resource that a plan lists owns as many fields of each channel as its record says: position by position, for every plan that
-- signals the row.
use mathlib.Core.Path.{◌≡◌, refl, sym, ◌∙◌, ap, subst}
use mathlib.Core.Logic.{◌⊎◌, inl, inr, ⊎_elim, ◌≢◌}
use mathlib.Core.Bool.{Bool, true, false, cond}
use Prim.Native.Nat.{ℕ, zero, suc, ◌+◌, ◌*◌, ◌/◌, ◌%◌, ◌≤◌, ◌<◌}
use native.Mathlib.Omega.{arith}
use borrow.Author.Tests.{eq-eqb, ne_eqb, eqb-true}
use lib.Dec.{eqb}
use lib.ListN.{get_or}
use Rattle.answer.specs.Tally.{tally}
use Rattle.answer.proofs.Tally.{tally_cong, tally_split, tally_none, tally_all, tally_once}
use Rattle.kinds.specs.Kinds.{span}
use Rattle.kinds.specs.Signals.{Takes, Place, Fits, Signals}
use Rattle.kinds.specs.Fields.{share, channel_share, fields_in}
use Rattle.kinds.proofs.Tests.{equal_or}
use Rattle.kinds.proofs.Fitting.{fits_takes}
use Rattle.resource.specs.Values.{fields_of, divides, piece_fields}
use Rattle.resource.proofs.Test.{below_or}
use Rattle.records.specs.Records.{in_channel, records_from, blank as no_record}
use Rattle.records.specs.Owns.{fields_before, number, Channel, share_of}
use Rattle.records.specs.Engine.{lowest, owner_at, owner_of}
use Rattle.records.proofs.Sums.{sum_to, sum_cong, sum_one, sum_past, sum_window, from_cong}
use Rattle.records.proofs.Lead.{lowest_place, lowest_only, itself_place, itself_lowest}
use Rattle.records.proofs.Listing.{Located, located_record, located_once, record_at, own_length, own_record, larger_record_lem, larger_one, once_lead}
use Rattle.records.proofs.Owners.{found_left, divided_itself}
use Rattle.records.proofs.Gives.{no_share, share_fields, whole_one, divided_own}
use Rattle.records.proofs.Spans.{window_in, window_below, window_above, window_room, from_shares, none_in, takes_cases, own_fields_in}
use Rattle.records.proofs.Homes.{fit, kind, home_piece, home_entire, home_whole}

-- ---- the fields that come from one position
module _ (o row : ℕ → ℕ) (i : ℕ) where
  abbrev pub cnt : ℕ → ℕ
  cnt p = tally (λ k. eqb (owner_at o row p k) i) (fields_of (row p))

  by_position : (n c m : ℕ) → m ≤ n → tally (λ j. eqb (owner_of o row c n j) i) (fields_before c row m) ≡ sum_to (λ p. in_channel c p (cnt p)) m
  by_position n c zero h = refl
  by_position n c (suc m) h =
      tally_split (λ j. eqb (owner_of o row c n j) i) (fields_before c row m) (in_channel c m (fields_of (row m)))
      ∙ omega (arith, by_position n c m (omega arith), last (eqb (m % 2 + 1) c) refl)
    where
      last : (t : Bool) → eqb (m % 2 + 1) c ≡ t
          → tally (λ k. eqb (owner_of o row c n (fields_before c row m + k)) i) (in_channel c m (fields_of (row m))) ≡ in_channel c m (cnt m)
      last true e =
          rw e
          (tally_cong (λ k. eqb (owner_of o row c n (fields_before c row m + k)) i) (λ k. eqb (owner_at o row m k) i) (fields_of (row m))
          (λ k l. ap (λ (x : ℕ). eqb x i) (found_left o row c m n (fields_before c row m + k) k (omega arith) refl (rw e l))))
      last false e = rw e

-- ---- of a plan that signals the row: resource i, listed at q as its m-th
module _ (o row : ℕ → ℕ) (n : ℕ) (s : Signals o row 0 n) (i q m : ℕ) (w : Located o row n i q m) where
  abbrev G : ℕ → ℕ
  G = cnt o row i

  same_number : (p k : ℕ) → p ≡ q → k ≡ m → number o row p k ≡ i
  same_number p k e f = rw (e, f) (sym w.numbered)

  -- a divided position gives its owner i one field, and only where i is listed
  one_here : divides (row q) ≡ true → G q ≡ 1
  unfolding owner_at
  one_here e =
      let f = divided_itself (o q) q (row q) e (fit o row n s q w.inside) in
      let l : m < fields_of (row q) = omega (arith, w.place, own_length (o q) row q f, divided_own (row q) e) in
      tally_once (λ k. eqb (owner_at o row q k) i) (fields_of (row q)) m l
      (rw e (eq-eqb (number o row q m) i (same_number q m refl refl)))
      (λ k h d. rw e (ne_eqb (number o row q k) i (λ g. d (omega (arith, g, w.numbered)))))

  none_there : (p : ℕ) → p < n → divides (row p) ≡ true → p ≢ q → G p ≡ 0
  unfolding owner_at
  none_there p h e d =
      tally_none (λ k. eqb (owner_at o row p k) i) (fields_of (row p))
      (λ k l. rw e (ne_eqb (number o row p k) i
      (λ g. d (located_once o row n i p k q m (subst (λ (x : ℕ). Located o row n x p k) g (home_piece o row n s p k h l e)) w).0)))

  -- any other gives all or none
  abbrev All : ℕ → Type 0
  All p = (G p ≡ fields_of (row p)) × (lowest (o p) p ≡ q) × (m ≡ 0)

  all_or_none : (p : ℕ) → p < n → divides (row p) ≡ false → (G p ≡ 0) ⊎ All p
  unfolding owner_at
  all_or_none p h e = go (eqb (number o row (lowest (o p) p) 0) i) refl (below_or 0 (fields_of (row p)))
    where
      go : (t : Bool) → eqb (number o row (lowest (o p) p) 0) i ≡ t → (0 < fields_of (row p)) ⊎ (fields_of (row p) ≤ 0) → (G p ≡ 0) ⊎ All p
      go t f (inr z) = inl (tally_none (λ k. eqb (owner_at o row p k) i) (fields_of (row p)) (λ k l. absurd (omega arith)))
      go false f (inl l) = inl (tally_none (λ k. eqb (owner_at o row p k) i) (fields_of (row p)) (λ k j. rw e f))
      go true f (inl l) =
          let g = eqb-true (number o row (lowest (o p) p) 0) i f in
          let y = located_once o row n i (lowest (o p) p) 0 q m (subst (λ (x : ℕ). Located o row n x (lowest (o p) p) 0) g (home_whole o row n s p h l e)) w in
          inr (tally_all (λ k. eqb (owner_at o row p k) i) (fields_of (row p)) (λ k j. rw e f), y.0, sym y.1)

  elsewhere : divides (row q) ≡ true → (p : ℕ) → p < n → p ≢ q → G p ≡ 0
  elsewhere e p h d = go (divides (row p)) refl
    where
      go : (t : Bool) → divides (row p) ≡ t → G p ≡ 0
      go true f = none_there p h f d
      go false f = ⊎_elim (λ z. z) (λ a. absurd (d (sym (there a)))) (all_or_none p h f)
        where
          there : All p → q ≡ p
          there a =
              let g : o p ≡ 0 = sym (home_entire o row n s p h).1 ∙ ap o a.1 ∙ divided_itself (o q) q (row q) e (fit o row n s q w.inside) in
              sym a.1 ∙ ap (λ (x : ℕ). lowest x p) g ∙ itself_lowest p

  divided_sum : (c : ℕ) → divides (row q) ≡ true → sum_to (λ p. in_channel c p (G p)) n ≡ in_channel c q 1
  divided_sum c e =
      sum_one (λ p. in_channel c p (G p)) n q w.inside (λ p l d. rw (elsewhere e p l d) (none_in c p))
      ∙ rw (one_here e)

  -- ---- where i's lowest position is not divided
  module _ (e : divides (row q) ≡ false) where
    only_one : m ≡ 0
    only_one =
        ⊎_elim
        (λ (g : o q ≡ 0). omega (arith, w.place, own_length (o q) row q g, whole_one (row q) e))
        (λ g. omega (arith, w.place, larger_one (o q) row q g (once_lead (o q) row q m w.place)))
        (equal_or (o q) 0)

    place_all : (p : ℕ) → p < n → Place (o q) q p → (G p ≡ fields_of (row p)) × (o p ≡ o q) × (divides (row p) ≡ false)
    unfolding owner_at
    place_all p h l = (
      tally_all (λ k. eqb (owner_at o row p k) i) (fields_of (row p))
          (λ k j. rw (whole_there) (eq-eqb (number o row (lowest (o p) p) 0) i (same_number (lowest (o p) p) 0 lowest_there (sym only_one)))),
      owner_there,
      whole_there,
    )
      where
        owner_there : o p ≡ o q
        owner_there = (s.entire q p (omega arith) w.inside l).2

        whole_there : divides (row p) ≡ false
        whole_there = go (divides (row p)) refl
          where
            go : (t : Bool) → divides (row p) ≡ t → t ≡ false
            go false f = refl
            go true f =
                let g : o q ≡ 0 = sym owner_there ∙ divided_itself (o p) p (row p) f (fit o row n s p h) in
                let z : p ≡ q = itself_place q p (subst (λ (x : ℕ). Place x q p) g l) in
                sym f ∙ ap (λ (x : ℕ). divides (row x)) z ∙ e

        lowest_there : lowest (o p) p ≡ q
        lowest_there =
            rw owner_there
            (sym (lowest_only (o q) p q (sym l.0, fits_takes (o q) q (row q) (fit o row n s q w.inside)) (once_lead (o q) row q m w.place)))

    no_place : (p : ℕ) → p < n → (Place (o q) q p → ⊥) → G p ≡ 0
    no_place p h d = go (divides (row p)) refl
      where
        go : (t : Bool) → divides (row p) ≡ t → G p ≡ 0
        go true f = none_there p h f (λ g. d (rw g (refl, fits_takes (o q) q (row q) (fit o row n s q w.inside))))
        go false f = ⊎_elim (λ z. z) (λ a. absurd (d (there a))) (all_or_none p h f)
          where
            there : All p → Place (o q) q p
            there a =
                let g : o q ≡ o p = ap o (sym a.1) ∙ (home_entire o row n s p h).1 in
                let y = (lowest_place (o p) p (kind o row n s p h)).0 in
                rw g (sym (rw a.1 at y.0), fits_takes (o p) p (row p) (fit o row n s p h))

    H : ℕ → ℕ → ℕ
    H c p = cond (eqb (p / span (o q)) (q / span (o q))) (channel_share c (o q) p (row p)) 0

    in_window : (c p : ℕ) → p / span (o q) ≡ q / span (o q) → H c p ≡ channel_share c (o q) p (row p)
    unfolding H
    in_window c p f = rw (eq-eqb (p / span (o q)) (q / span (o q)) f)

    off_window : (c p : ℕ) → p / span (o q) ≢ q / span (o q) → H c p ≡ 0
    unfolding H
    off_window c p f = rw (ne_eqb (p / span (o q)) (q / span (o q)) f)

    not_taken : (c p : ℕ) → (Takes (o q) (p % span (o q)) → ⊥) → channel_share c (o q) p (row p) ≡ 0
    not_taken c p f = rw (no_share (o q) p (row p) f) (none_in c p)

    share_here : (c p : ℕ) → p < n → in_channel c p (G p) ≡ H c p
    share_here c p h = by (equal_or (p / span (o q)) (q / span (o q))) (takes_cases (o q) (p % span (o q)))
      where
        by : (p / span (o q) ≡ q / span (o q)) ⊎ (p / span (o q) ≢ q / span (o q)) → Takes (o q) (p % span (o q)) ⊎ (Takes (o q) (p % span (o q)) → ⊥)
            → in_channel c p (G p) ≡ H c p
        by (inl f) (inl t) =
            let a = place_all p h (f, t) in
            let b = subst (λ (x : ℕ). Fits x p (row p)) a.1 (fit o row n s p h) in
            let g : share (o q) p (row p) ≡ fields_of (row p) = share_fields (o q) p (row p) b a.2 in
            ap (in_channel c p) (a.0 ∙ sym g) ∙ sym (in_window c p f)
        by (inl f) (inr t) = rw (no_place p h (λ l. t l.1)) (none_in c p) ∙ sym (in_window c p f ∙ not_taken c p t)
        by (inr f) t = rw (no_place p h (λ l. f l.0)) (none_in c p) ∙ sym (off_window c p f)

    past_end : (c p : ℕ) → n ≤ p → H c p ≡ 0
    past_end c p h = by (equal_or (p / span (o q)) (q / span (o q))) (takes_cases (o q) (p % span (o q)))
      where
        by : (p / span (o q) ≡ q / span (o q)) ⊎ (p / span (o q) ≢ q / span (o q)) → Takes (o q) (p % span (o q)) ⊎ (Takes (o q) (p % span (o q)) → ⊥)
            → H c p ≡ 0
        by (inl f) (inl t) = absurd (omega (arith, (s.entire q p (omega arith) w.inside (f, t)).1))
        by (inl f) (inr t) = in_window c p f ∙ not_taken c p t
        by (inr f) t = off_window c p f

    whole_sum : (c : ℕ) → sum_to (λ p. in_channel c p (G p)) n ≡ fields_in c (o q) row q
    unfolding fields_in
    whole_sum c =
        let a = span (o q) * (q / span (o q)) in
        let k = kind o row n s q w.inside in
        sum_cong (λ p. in_channel c p (G p)) (H c) n (share_here c)
        ∙ sym (sum_past (H c) n (n + 16) (omega arith) (past_end c))
        ∙ sum_window (H c) a (span (o q)) (n + 16) (window_room (o q) q k n w.inside)
        (λ p l. off_window c p (window_below (o q) q k p l)) (λ p l. off_window c p (window_above (o q) q k p l))
        ∙ from_cong (H c) (λ p. channel_share c (o q) p (row p)) a (span (o q)) (λ j l. in_window c (a + j) (window_in (o q) q k j l))
        ∙ from_shares c (o q) row a (span (o q))

  -- ---- the share that the resource's record says
  alone_share : (c : ℕ) → o q ≡ 0 → sum_to (λ p. in_channel c p (G p)) n ≡ in_channel c q (piece_fields (row q))
  unfolding piece_fields
  alone_share c g = go (divides (row q)) refl
    where
      go : (t : Bool) → divides (row q) ≡ t → sum_to (λ p. in_channel c p (G p)) n ≡ in_channel c q (cond t 1 (fields_of (row q)))
      go true f = divided_sum c f
      go false f =
          whole_sum f c ∙ rw g (own_fields_in c row q)
          ∙ ap (in_channel c q) (share_fields 0 q (row q) (subst (λ (x : ℕ). Fits x q (row q)) g (fit o row n s q w.inside)) f)

  larger_share : (c : ℕ) → o q ≢ 0 → sum_to (λ p. in_channel c p (G p)) n ≡ fields_in c (o q) row q
  larger_share c g = whole_sum (go (divides (row q)) refl) c
    where
      go : (t : Bool) → divides (row q) ≡ t → t ≡ false
      go true f = absurd (g (divided_itself (o q) q (row q) f (fit o row n s q w.inside)))
      go false f = refl

  own_case : (c : ℕ) → Channel c → o q ≡ 0 → sum_to (λ p. in_channel c p (G p)) n ≡ share_of c (record_at (o q) row q m)
  own_case zero h g = absurd (omega (arith, h.0))
  own_case (suc zero) h g = rw (own_record (o q) row q m g) (alone_share 1 g)
  own_case (suc (suc zero)) h g = rw (own_record (o q) row q m g) (alone_share 2 g)
  own_case (suc (suc (suc c))) h g = absurd (omega (arith, h.1))

  larger_case : (c : ℕ) → Channel c → o q ≢ 0 → sum_to (λ p. in_channel c p (G p)) n ≡ share_of c (record_at (o q) row q m)
  larger_case zero h g = absurd (omega (arith, h.0))
  larger_case (suc zero) h g = rw (larger_record_lem (o q) row q m g) (larger_share 1 g)
  larger_case (suc (suc zero)) h g = rw (larger_record_lem (o q) row q m g) (larger_share 2 g)
  larger_case (suc (suc (suc c))) h g = absurd (omega (arith, h.1))

  record_share : (c : ℕ) → Channel c → sum_to (λ p. in_channel c p (G p)) n ≡ share_of c (record_at (o q) row q m)
  record_share c h = ⊎_elim (own_case c h) (larger_case c h) (equal_or (o q) 0)

  pub owned_at : (c : ℕ) → Channel c → tally (λ j. eqb (owner_of o row c n j) i) (fields_before c row n) ≡ share_of c
      (get_or (records_from o row n) i no_record)
  owned_at c h =
      by_position o row i n c n (omega arith) ∙ record_share c h ∙ ap (share_of c) (sym (located_record o row n i q m w))
