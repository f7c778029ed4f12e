-- The codes of a plan's resources: each part has its room, and those of a position follow those of the positions before it.
use mathlib.Core.Path.{◌≡◌, refl, sym, ◌∙◌, ap}
use mathlib.Core.Bool.{Bool, true, false, cond}
use mathlib.Core.List.{List}
use Prim.Native.Nat.{ℕ, ◌+◌, ◌*◌, ◌/◌, ◌%◌, ◌≤◌, ◌<◌}
use native.Mathlib.Omega.{arith}
use borrow.Author.Tests.{eq-eqb, ne_eqb}
use lib.Dec.{T, ltb, leb, eqb, leb→le}
use lib.ListN.{length, get_or, set, replicate}
use Rattle.answer.specs.Lists.{build, filled, at}
use Rattle.answer.proofs.Lists.{filled_step, filled_cong, get_d_build}
use Rattle.resource.specs.declared.Size.TheVariants.{S26, S52, S106, S242, S484, S996, S2x996}
use Rattle.resource.specs.declared.Piece.{Piece}
use Rattle.resource.specs.declared.Piece.TheVariants.{Part, With26}
use Rattle.resource.specs.declared.Pairing.TheVariants.{P106And26, P484And242, P996And484, P3x996, P2x996And484, P3x996And484}
use Rattle.resource.specs.declared.Resource.{Resource}
use Rattle.resource.specs.declared.Resource.TheVariants.{Single, Joined}
use Rattle.resource.specs.Names.{name_of, number_of}
use Rattle.resource.specs.Index.{index_of, resource_at}
use Rattle.resource.specs.Engine.{piece_at, numbered_of}
use Rattle.resource.proofs.Starts.{place_most}
use Rattle.resource.proofs.Test.{below, every_below}
use Rattle.plan.specs.Engine.{only_plan}
use Rattle.plan.proofs.Only.{only_known}
use Rattle.records.specs.declared.Record.{Record}
use Rattle.records.specs.Records.{piece_record, resource_column, larger, larger_record, list_at, records_from, blank}
use Rattle.records.proofs.Listing.{record_at, list_at_lem, nth_record, records_most, records_rise, located, located_record}
use Rattle.records.specs.Engine.{owner_of}
use Rattle.bits.specs.Bits.{field}
use Rattle.channel.specs.Layout.{user_at}
use Rattle.user_codes.specs.Engine.{record_code, listed_code, resource_codes, user_code, code_in, field_code, owned_code}

-- ---- a size is at most 3472, that of a 3x996+484: 12 bits are enough
pub name_most : (r : Resource) → name_of r < 4096
name_most (Single S26 i) = omega arith
name_most (Single S52 i) = omega arith
name_most (Single S106 i) = omega arith
name_most (Single S242 i) = omega arith
name_most (Single S484 i) = omega arith
name_most (Single S996 i) = omega arith
name_most (Single S2x996 i) = omega arith
name_most (Joined P106And26 i) = omega arith
name_most (Joined P484And242 i) = omega arith
name_most (Joined P996And484 i) = omega arith
name_most (Joined P3x996 i) = omega arith
name_most (Joined P2x996And484 i) = omega arith
name_most (Joined P3x996And484 i) = omega arith

-- ---- an index is at most 37, the last 26's: 8 bits are enough
pub piece_index : (q : ℕ) (x : Piece) → q < 4 → numbered_of x ≤ 9 → number_of (resource_at q x) ≤ 255
unfolding resource_at index_of
piece_index q (Part S26 i) h l = go (ltb q 2)
  where
    go : (t : Bool) → cond t (9 * q + i) (9 * q + i + 1) ≤ 255
    go true = omega arith
    go false = omega arith
piece_index q (Part S52 i) h l = omega arith
piece_index q (Part S106 i) h l = omega arith
piece_index q (Part S242 i) h l = omega arith
piece_index q (Part S484 i) h l = omega arith
piece_index q (Part S996 i) h l = omega arith
piece_index q (Part S2x996 i) h l = omega arith
piece_index q (With26 i) h l = omega arith

abbrev index_test : ℕ → ℕ → Bool
index_test q c = leb (number_of (larger c q)) 255

indices_tested : T (below (λ q. below (index_test q) 36) 4)
unfolding larger resource_column resource_at index_of
indices_tested = tt

pub larger_index : (c q : ℕ) → c < 36 → q < 4 → number_of (larger c q) ≤ 255
larger_index c q h l =
    leb→le (number_of (larger c q)) 255 (every_below (index_test q) 36 (every_below (λ q. below (index_test q) 36) 4 indices_tested q l) c h)

-- ---- that of the k-th resource that is listed at p, which is given to c
module _ (c : ℕ) (row : ℕ → ℕ) (p k : ℕ) where
  pub own_code : c ≡ 0 → record_code (piece_record row p (piece_at (row p) k)) ≡ listed_code c row p k
  unfolding listed_code
  own_code e = rw (eq-eqb c 0 e)

  pub larger_code : (c ≡ 0 → ⊥) → record_code (larger_record c row p) ≡ listed_code c row p k
  unfolding listed_code
  larger_code n = rw (ne_eqb c 0 n)

  pub listed_code_lem : listed_code c row p k ≡ record_code (record_at c row p k)
  unfolding listed_code record_at
  listed_code_lem = go (eqb c 0)
    where
      go : (t : Bool) → cond t (record_code (piece_record row p (piece_at (row p) k))) (record_code (larger_record c row p))
          ≡ record_code (cond t (piece_record row p (piece_at (row p) k)) (larger_record c row p))
      go true = refl
      go false = refl

  pub listed_index : c < 36 → number_of (record_at c row p k).resource ≤ 255
  unfolding record_at
  listed_index h = go (eqb c 0)
    where
      go : (t : Bool) → number_of (cond t (piece_record row p (piece_at (row p) k)) (larger_record c row p)).resource ≤ 255
      go true = piece_index (p % 4) (piece_at (row p) k) (omega arith) (place_most (row p) k)
      go false = larger_index c (p % 4) h (omega arith)

  pub listed_segment : (record_at c row p k).segment ≡ p / 4
  unfolding record_at
  listed_segment = go (eqb c 0)
    where
      go : (t : Bool) → (cond t (piece_record row p (piece_at (row p) k)) (larger_record c row p)).segment ≡ p / 4
      go true = refl
      go false = refl

-- ---- of the row's own plan
module _ (r : List ℕ) where
  abbrev o : ℕ → ℕ
  o = only_plan (at r)

  pub nth_code : (p k : ℕ) → p < length r → k < length (list_at (o p) (at r) p)
      → listed_code (o p) (at r) p k ≡ resource_codes r (length (records_from o (at r) p) + k)
  unfolding resource_codes
  nth_code p k h l =
      listed_code_lem (o p) (at r) p k
      ∙ ap record_code (sym (nth_record o (at r) p (length r) k h l ∙ list_at_lem (o p) (at r) p k l))

  -- the resources of 16 positions are at most 144
  pub room : (p : ℕ) → p < length r → length r ≤ 16 → length (records_from o (at r) p) + length (list_at (o p) (at r) p) ≤ 144
  room p h l = omega (arith, records_rise o (at r) p (length r) h, records_most o (at r) (length r))

  -- one code more: of the k-th resource of position p, which is the plan's resource i + k
  pub enter : (p i k x : ℕ) (w : List ℕ) → p < length r → length r ≤ 16 → i ≡ length (records_from o (at r) p)
      → k < length (list_at (o p) (at r) p) → x ≡ listed_code (o p) (at r) p k
      → w ≡ filled (resource_codes r) (i + k) (replicate 144 0) → set w (i + k) x ≡ filled (resource_codes r) (i + (k + 1)) (replicate 144 0)
  enter p i k x w h l e m f g =
      let s : i + k + 1 ≡ i + (k + 1) = omega arith in
      ap (λ (v : List ℕ). set v (i + k) x) g
      ∙ filled_step (resource_codes r) (i + k) x (replicate 144 0) (omega (arith, room p h l))
      (f ∙ nth_code p k h m ∙ ap (λ (j : ℕ). resource_codes r (j + k)) (sym e))
      ∙ ap (λ (j : ℕ). filled (resource_codes r) j (replicate 144 0)) s

  -- ---- every one of them has an index below 256, and a segment
  abbrev nth : ℕ → Record
  nth i = get_or (records_from o (at r) (length r)) i blank

  pub nth_index : (i : ℕ) → i < length (records_from o (at r) (length r)) → number_of (nth i).resource ≤ 255
  nth_index i h =
      let w = located o (at r) (length r) i h in
      rw (located_record o (at r) (length r) i w.0 w.1 w.2) (listed_index (o w.0) (at r) w.0 w.1 (only_known (at r) w.0))

  pub nth_segment : (i : ℕ) → i < length (records_from o (at r) (length r)) → length r ≤ 16 → (nth i).segment ≤ 255
  nth_segment i h l =
      let w = located o (at r) (length r) i h in
      rw (located_record o (at r) (length r) i w.0 w.1 w.2, listed_segment (o w.0) (at r) w.0 w.1) (omega (arith, w.2.inside))

-- ---- the fields of a channel, with the numbers of their owners at hand
pub owned_codes : (bw : ℕ) (s r w codes x : List ℕ) (c n : ℕ) → n ≤ 72 → w ≡ build (owner_of (only_plan (at r)) (at r) c (length r)) 72
    → x ≡ filled (field_code bw s w codes) n (replicate 72 0) → x ≡ filled (owned_code bw s r codes c) n (replicate 72 0)
unfolding field_code owned_code
owned_codes bw s r w codes x c n h e f =
    f
    ∙ filled_cong (field_code bw s w codes) (owned_code bw s r codes c) n (replicate 72 0)
    (λ i l. ap (λ (y : ℕ). user_code (field s (user_at bw i) 22) (code_in codes y))
    (ap (λ (v : List ℕ). at v i) e ∙ get_d_build (owner_of (only_plan (at r)) (at r) c (length r)) 72 i 0 (omega arith)))
