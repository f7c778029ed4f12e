-- The program's lines for the resources that only one of two plans has are those of the differences (02, T-06: "resources only in one").
use mathlib.Core.Path.{◌≡◌, refl, sym, ap, ◌∙◌}
use mathlib.Core.Logic.{◌≢◌, ⊎_elim}
use mathlib.Core.Bool.{Bool, true, false, cond}
use mathlib.Core.List.{List, [], ◌++◌}
use Prim.Native.Nat.{ℕ, ◌+◌, ◌%◌, ◌<◌}
use native.Mathlib.Omega.{arith}
use borrow.Author.Tests.{eq-eqb, ne_eqb}
use lib.Dec.{eqb}
use lib.ListN.{length, get_or}
use Rattle.answer.specs.Lists.{at}
use Rattle.std.specs.Prelude.{Ok}
use Rattle.text.proofs.Laws.{upto_cong}
use Rattle.resource.specs.Values.{own_pieces}
use Rattle.resource.specs.Engine.{piece_at}
use Rattle.kinds.specs.Kinds.{span}
use Rattle.plan.specs.Engine.{only_plan}
use Rattle.plan.proofs.Only.{only_known}
use Rattle.kinds.proofs.Tests.{equal_or}
use Rattle.records.specs.declared.Record.{Record}
use Rattle.records.specs.Records.{lead, piece_record, larger_record, list_at, blank}
use Rattle.records.proofs.Listing.{list_at_lem, own_length, own_record}
use Rattle.resource_line.specs.ResourceLine.{ru_line}
use Rattle.position_lines.specs.Engine.{runs_line}
use Rattle.position_lines.proofs.Lines.{not_lowest, at_lowest}
use Rattle.channel.specs.Layout.{row}
use Rattle.channel.proofs.Laws.{row_length}
use Rattle.halves.specs.Table.{outcome11}
use Rattle.listed.specs.Listing.{resources, record_line}
use Rattle.listed.proofs.Agreed.{agreed}
use Rattle.compared.specs.Reading.{Reading, reading_of, has_same}
use Rattle.compared.specs.Differences.{resource_items, differs, keep}
use Rattle.compared.specs.Text.{side_text, difference_lines}
use Rattle.only_in.specs.Engine.{shape_in, only_piece, sided_lines, only_larger, only_at, only_lines}
use Rattle.only_in.proofs.Here.{home, own_here, listed_home, has_here}
use Rattle.only_in.proofs.There.{piece_there, larger_there}
use Rattle.only_in.proofs.Lines.{lines_by, by_none, by_one, by_position, by_cong, only_line, no_sided, one_sided, kept_lines}

-- ---- at position p of the row r, which is given to c; in the row t it is given to d
module _ (s : ℕ) (r t : List ℕ) (p c d : ℕ) (h : c < 36) (i : d < 36) where
  abbrev line : Record → List ℕ
  line z = only_line s (runs_line (length r)) (list_at d (at t) p) z

  own_lines : c ≡ 0 → lines_by line (list_at c (at r) p) ≡ only_at s r c p d (at t p)
  unfolding lines_by only_at only_piece
  own_lines e =
      rw (eq-eqb c 0 e, own_length c (at r) p e)
      (upto_cong _ (only_piece s (length r) (at r p) p (shape_in d (at t p))) (length (own_pieces (at r p)))
      (λ k l.
      let x = piece_at (at r p) k in
      let f = list_at_lem c (at r) p k (omega (arith, own_length c (at r) p e)) ∙ own_record c (at r) p k e in
      ap line f ∙ ap (λ (b : Bool). cond b [] (side_text s ++ runs_line (length r) (piece_record (at r) p x)))
      (piece_there (at r) (at t) p x (own_here (at r p) k l) d i)))

  larger_lines : c ≢ 0 → lines_by line (list_at c (at r) p) ≡ only_at s r c p d (at t p)
  unfolding only_at only_larger
  larger_lines n = rw (ne_eqb c 0 n) (⊎_elim one none (equal_or (p % span c) (lead c)))
    where
      none : p % span c ≢ lead c → lines_by line (list_at c (at r) p) ≡ cond (eqb c d) [] (sided_lines s (length r) (list_at c (at r) p))
      none e = rw (not_lowest c (at r) p n (ne_eqb (p % span c) (lead c) e), no_sided s (length r)) (by_none line ∙ sym (either (eqb c d)))
        where
          either : (b : Bool) → ◌≡◌ {A = List ℕ} (cond b [] []) []
          either true = refl
          either false = refl

      one : p % span c ≡ lead c → lines_by line (list_at c (at r) p) ≡ cond (eqb c d) [] (sided_lines s (length r) (list_at c (at r) p))
      one f =
          let g = at_lowest c (at r) p n f in
          rw (g, one_sided s (length r))
          (by_one line (larger_record c (at r) p)
          ∙ ap (λ (b : Bool). cond b [] (side_text s ++ runs_line (length r) (larger_record c (at r) p))) (larger_there c (at r) (at t) p h n f d i))

  pub position_lines : lines_by line (list_at c (at r) p) ≡ only_at s r c p d (at t p)
  position_lines = ⊎_elim own_lines larger_lines (equal_or c 0)

-- ---- of two rows of one length
module _ (s : ℕ) (r t : List ℕ) (e : length t ≡ length r) where
  -- the other plan's resources may as well be those whose lowest position is p
  same_line : (p k : ℕ) → p < length r → k < length (list_at (only_plan (at r) p) (at r) p)
      → let z = get_or (list_at (only_plan (at r) p) (at r) p) k blank in
      only_line s (runs_line (length r)) (resources t) z ≡ only_line s (runs_line (length r)) (list_at (only_plan (at t) p) (at t) p) z
  same_line p k l m =
      let o = only_plan (at t) in
      let z = get_or (list_at (only_plan (at r) p) (at r) p) k blank in
      let f : home z ≡ p = listed_home (only_plan (at r) p) (at r) p k (only_known (at r) p) m in
      ap (λ (b : Bool). cond b [] (side_text s ++ runs_line (length r) z))
      (has_here o (at t) (only_known (at t)) z (length t) (omega arith) ∙ ap (λ (q : ℕ). has_same z (list_at (o q) (at t) q)) f)

  pub row_lines : lines_by (only_line s (runs_line (length r)) (resources t)) (resources r) ≡ only_lines s r t
  unfolding only_lines
  row_lines =
      let o = only_plan (at r) in
      let f = only_line s (runs_line (length r)) (resources t) in
      by_position f o (at r) (length r)
      ∙ upto_cong (λ p. lines_by f (list_at (o p) (at r) p)) _ (length r)
      (λ p l.
      by_cong f (only_line s (runs_line (length r)) (list_at (only_plan (at t) p) (at t) p)) (list_at (o p) (at r) p) (λ k m. same_line p k l m)
      ∙ position_lines s r t p (o p) (only_plan (at t) p) (only_known (at r) p) (only_known (at t) p))

-- ---- the subcarriers of an accepted frame's lines are 01's
found_lines : (bw : ℕ) (a b : List ℕ) (s : ℕ) (ws : List Record) → outcome11 bw a b ≡ Ok tt
    → lines_by (only_line s (record_line (length (row bw a b))) ws) (resources (row bw a b))
    ≡ lines_by (only_line s (runs_line (length (row bw a b))) ws) (resources (row bw a b))
found_lines bw a b s ws e =
    let n = length (row bw a b) in
    by_cong (only_line s (record_line n) ws) (only_line s (runs_line n) ws) (resources (row bw a b))
    (λ i l.
    let z = get_or (resources (row bw a b)) i blank in
    ap (λ (u : List ℕ). cond (has_same z ws) [] (side_text s ++ u))
    (ap (ru_line z.segment z.resource (z.fields1 + z.fields2)) (agreed bw a b e i l).tones))

-- ---- of two frames of one bandwidth: those of the first, where it is accepted, and of the second
module _ (bw : ℕ) (a b c d : List ℕ) where
  abbrev x : Reading
  x = reading_of bw a b

  abbrev y : Reading
  y = reading_of bw c d

  one_length : length (row bw c d) ≡ length (row bw a b)
  one_length = row_length bw c d ∙ sym (row_length bw a b)

  pub only_first : outcome11 bw a b ≡ Ok tt
      → only_lines 1 (row bw a b) (row bw c d) ≡ difference_lines (length (row bw a b)) (keep (differs x y) (resource_items 1 x))
  unfolding resource_items reading_of
  only_first e =
      sym
      (kept_lines (length (row bw a b)) 1 x y (resources (row bw a b))
      ∙ found_lines bw a b 1 (resources (row bw c d)) e
      ∙ row_lines 1 (row bw a b) (row bw c d) one_length)

  pub only_second : outcome11 bw c d ≡ Ok tt
      → only_lines 2 (row bw c d) (row bw a b) ≡ difference_lines (length (row bw a b)) (keep (differs x y) (resource_items 2 y))
  unfolding resource_items reading_of
  only_second e =
      sym
      (ap (λ (n : ℕ). difference_lines n (keep (differs x y) (resource_items 2 y))) (sym one_length)
      ∙ kept_lines (length (row bw c d)) 2 x y (resources (row bw c d))
      ∙ found_lines bw c d 2 (resources (row bw a b)) e
      ∙ row_lines 2 (row bw c d) (row bw a b) (sym one_length))
