-- The lines of a list of resources, and of the larger resource of a position.
use mathlib.Core.Path.{◌≡◌, refl, ap, ◌∙◌}
use mathlib.Core.Logic.{◌≢◌}
use mathlib.Core.Bool.{false}
use mathlib.Core.List.{List, [], ◌∷◌, ◌++◌}
use Prim.Native.Nat.{ℕ, ◌+◌, ◌%◌}
use borrow.Author.Tests.{eq-eqb, ne_eqb}
use lib.Dec.{eqb}
use lib.ListN.{length, get_or, length-append, get_or-append}
use lib.Seq.{get_or-append-add}
use Rattle.text.specs.Text.{upto, Wrote}
use Rattle.text.proofs.Laws.{no_item, upto_cong, upto_append}
use Rattle.kinds.specs.Kinds.{span}
use Rattle.records.specs.declared.Record.{Record}
use Rattle.records.specs.Records.{lead, larger_record, list_at, blank}
use Rattle.position_lines.specs.Engine.{runs_line, runs_lines}

-- the lines of two lists of resources, one after the other
pub lines_append : (n : ℕ) (xs ys : List Record) → runs_lines n (xs ++ ys) ≡ runs_lines n xs ++ runs_lines n ys
unfolding runs_lines
lines_append n xs ys =
    let f : ℕ → List ℕ = λ i. runs_line n (get_or (xs ++ ys) i blank) in
    rw (length-append xs ys)
    (upto_append f (length xs) (length ys)
    ∙ rw (upto_cong f (λ i. runs_line n (get_or xs i blank)) (length xs) (λ i l. ap (runs_line n) (get_or-append xs ys blank i l)))
    (ap (λ (t : List ℕ). upto (λ i. runs_line n (get_or xs i blank)) (length xs) ++ t)
    (upto_cong (λ i. f (length xs + i)) (λ i. runs_line n (get_or ys i blank)) (length ys) (λ i l. ap (runs_line n) (get_or-append-add xs ys i blank)))))

-- ---- a larger resource has a line at its lowest place alone
module _ (c : ℕ) (row : ℕ → ℕ) (p : ℕ) (n : c ≢ 0) where
  pub not_lowest : eqb (p % span c) (lead c) ≡ false → list_at c row p ≡ []
  unfolding list_at
  not_lowest e = rw (ne_eqb c 0 n, e)

  pub at_lowest : p % span c ≡ lead c → list_at c row p ≡ larger_record c row p ∷ []
  unfolding list_at
  at_lowest e = rw (ne_eqb c 0 n, eq-eqb (p % span c) (lead c) e)

pub no_lines : (n : ℕ) (d : List ℕ) (at : ℕ) → Wrote d at (runs_lines n []) d at
unfolding runs_lines
no_lines n d at = no_item _ d at

pub one_line : (n : ℕ) (r : Record) → runs_lines n (r ∷ []) ≡ runs_line n r
unfolding runs_lines upto
one_line n r = refl
