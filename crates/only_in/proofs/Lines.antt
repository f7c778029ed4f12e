-- The lines of a list of resources, each by a rule: in a text of differences, and of a plan, position by position.
use mathlib.Core.Path.{◌≡◌, refl, sym, ap, ap₂, ◌∙◌}
use mathlib.Core.Bool.{Bool, true, false, cond, not}
use mathlib.Core.List.{List, [], ◌∷◌, ◌++◌, map}
use Prim.Native.Nat.{ℕ, zero, suc, ◌+◌, ◌<◌}
use lib.ListN.{length, get_or, length-append, get_or-append}
use lib.Seq.{get_or-append-add}
use Rattle.text.specs.Text.{upto}
use Rattle.text.proofs.Laws.{upto_cong, upto_append}
use Rattle.records.specs.declared.Record.{Record}
use Rattle.records.specs.Records.{list_at, records_from, blank}
use Rattle.position_lines.specs.Engine.{runs_line}
use Rattle.listed.specs.Listing.{record_line}
use Rattle.compared.specs.Reading.{Reading, has_same, tells}
use Rattle.compared.specs.Differences.{Difference, resource_item, other_than, differs, keep}
use Rattle.compared.specs.Text.{item_line, side_text, difference_line, difference_lines}
use Rattle.only_in.specs.Engine.{sided_lines}

-- the line of each, one after the other
unfoldable pub lines_by : (Record → List ℕ) → List Record → List ℕ
lines_by f zs = upto (λ i. f (get_or zs i blank)) (length zs)

module _ (f : Record → List ℕ) where
  pub by_none : lines_by f [] ≡ []
  unfolding lines_by upto
  by_none = refl

  pub by_one : (z : Record) → lines_by f (z ∷ []) ≡ f z
  unfolding lines_by upto
  by_one z = refl

  pub by_append : (xs ys : List Record) → lines_by f (xs ++ ys) ≡ lines_by f xs ++ lines_by f ys
  unfolding lines_by
  by_append xs ys =
      let g : ℕ → List ℕ = λ i. f (get_or (xs ++ ys) i blank) in
      rw (length-append xs ys)
      (upto_append g (length xs) (length ys)
      ∙ ap₂ ◌++◌
      (upto_cong g (λ i. f (get_or xs i blank)) (length xs) (λ i l. ap f (get_or-append xs ys blank i l)))
      (upto_cong (λ i. g (length xs + i)) (λ i. f (get_or ys i blank)) (length ys) (λ i l. ap f (get_or-append-add xs ys i blank))))

  by_cons : (z : Record) (zs : List Record) → lines_by f (z ∷ zs) ≡ f z ++ lines_by f zs
  by_cons z zs = by_append (z ∷ []) zs ∙ ap (λ (t : List ℕ). t ++ lines_by f zs) (by_one z)

  -- of a plan
  pub by_position : (o row : ℕ → ℕ) (n : ℕ) → lines_by f (records_from o row n) ≡ upto (λ p. lines_by f (list_at (o p) row p)) n
  unfolding upto
  by_position o row zero = by_none
  by_position o row (suc n) =
      by_append (records_from o row n) (list_at (o n) row n)
      ∙ ap (λ (t : List ℕ). t ++ lines_by f (list_at (o n) row n)) (by_position o row n)

pub by_cong : (f g : Record → List ℕ) (zs : List Record) → ((i : ℕ) → i < length zs → f (get_or zs i blank) ≡ g (get_or zs i blank)) → lines_by f zs ≡ lines_by
    g zs
unfolding lines_by
by_cong f g zs h = upto_cong (λ i. f (get_or zs i blank)) (λ i. g (get_or zs i blank)) (length zs) h

-- the line of frame s for a resource that is none of ws, f being the listing's
abbrev pub only_line : ℕ → (Record → List ℕ) → List Record → Record → List ℕ
only_line s f ws z = cond (has_same z ws) [] (side_text s ++ f z)

pub no_sided : (s n : ℕ) → sided_lines s n [] ≡ []
unfolding sided_lines upto
no_sided s n = refl

pub one_sided : (s n : ℕ) (z : Record) → sided_lines s n (z ∷ []) ≡ side_text s ++ runs_line n z
unfolding sided_lines upto
one_sided s n z = refl

-- ---- the resources' lines in the text of the differences
module _ (n s : ℕ) (x y : Reading) where
  abbrev ws : List Record
  ws = (other_than s x y).plan

  one_more : (z : Record) (ds : List Difference) (t : Bool)
      → difference_lines n (cond (not t) (resource_item s z ∷ ds) ds) ≡ cond t [] (side_text s ++ record_line n z) ++ difference_lines n ds
  unfolding difference_lines difference_line item_line
  one_more z ds true = refl
  one_more z ds false = refl

  pub kept_lines : (zs : List Record) → difference_lines n (keep (differs x y) (map (resource_item s) zs)) ≡ lines_by (only_line s (record_line n) ws) zs
  unfolding keep differs tells difference_lines
  kept_lines [] = sym (by_none (only_line s (record_line n) ws))
  kept_lines (z ∷ zs) =
      one_more z (keep (differs x y) (map (resource_item s) zs)) (has_same z ws)
      ∙ ap (λ (t : List ℕ). only_line s (record_line n) ws z ++ t) (kept_lines zs)
      ∙ sym (by_cons (only_line s (record_line n) ws) z zs)
