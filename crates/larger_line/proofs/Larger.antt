-- The line of a larger resource as it is written is the resource's.
use mathlib.Core.Path.{◌≡◌, refl, sym, ap, ◌∙◌}
use mathlib.Core.Bool.{Bool, cond, ◌&&◌}
use mathlib.Core.List.{List, [], ◌∷◌, ◌++◌, map, append_assoc, append-nil}
use Prim.Native.Nat.{ℕ, zero, suc, ◌+◌, ◌-◌, ◌/◌, ◌%◌, ◌≤◌, ◌<◌}
use native.Mathlib.Omega.{arith}
use lib.Dec.{T, ltb, leb, eqb, leb→le, le→leb, eqb→eq}
use borrow.Author.Tests.{ne_eqb}
use lib.ListN.{length, get_or, length-append, length-map}
use lib.Seq.{take-append_seam}
use Rattle.text.specs.Text.{codes, signed, upto, Wrote}
use Rattle.text.proofs.Laws.{upto_cong, upto_append}
use Rattle.stores.proofs.Laws.{over}
use Rattle.resource.specs.declared.Run.{Run}
use Rattle.resource.specs.Tones.{Span, no_span}
use Rattle.resource.specs.Engine.{span_of, spread_runs, places_runs}
use Rattle.resource.specs.Index.{resource_at, index_of}
use Rattle.resource.specs.Names.{number_of}
use Rattle.resource.proofs.Test.{both_left, both_right, wherever, met, below, every_below}
use Rattle.kinds.specs.Kinds.{kinds, kind_at, span, mask}
use Rattle.records.specs.Records.{resource_column, larger}
use Rattle.records.specs.Engine.{larger_runs, places_of}
use Rattle.resource_line.specs.ResourceLine.{comma, span_text, tones_text}
use Rattle.resource_line.specs.Engine.{class_of}
use Rattle.larger_line.specs.Engine.{class_kind, index_kind, index_in, comma_text}

-- ---- runs
pub comma_none : (n : ℕ) → comma_text n [] ≡ []
unfolding comma_text
comma_none n = refl

pub comma_one : (n : ℕ) (r : Run) → comma_text n (r ∷ []) ≡ (signed (span_of n r).lo ++ codes ":") ++ (signed (span_of n r).hi ++ codes ",")
unfolding comma_text
comma_one n r = append-nil _

pub comma_append : (n : ℕ) (a b : List Run) → comma_text n (a ++ b) ≡ comma_text n a ++ comma_text n b
unfolding comma_text
comma_append n [] b = refl
comma_append n (r ∷ a) b =
    let x = (signed (span_of n r).lo ++ codes ":") ++ (signed (span_of n r).hi ++ codes ",") in
    ap (λ (t : List ℕ). x ++ t) (comma_append n a b) ∙ sym (append_assoc x (comma_text n a) (comma_text n b))

four : (a b c d : List Run) → a ++ (b ++ (c ++ (d ++ []))) ≡ (a ++ (b ++ [])) ++ (c ++ (d ++ []))
four a b c d = simp append_assoc refl

pub four_segments : (b m : ℕ) → spread_runs b m 4 ≡ spread_runs b m 2 ++ spread_runs (b + 8) (m / 256) 2
unfolding spread_runs
four_segments b m =
    let e : b + 4 + 4 ≡ b + 8 = omega arith in
    let h : m / 16 / 16 ≡ m / 256 = omega arith in
    rw (e, h) (four (places_runs b (m % 16)) (places_runs (b + 4) (m / 16 % 16)) (places_runs (b + 8) (m / 256 % 16))
    (places_runs (b + 8 + 4) (m / 256 / 16 % 16)))

pub two_segments : (b m : ℕ) → spread_runs b m 2 ≡ places_runs b (m % 16) ++ places_runs (b + 4) (m / 16 % 16)
unfolding spread_runs
two_segments b m = ap (λ (l : List Run). places_runs b (m % 16) ++ l) (append-nil _)

-- ---- the commas are those between the runs, and one after the last
item : Span → List ℕ
item s = (signed s.lo ++ codes ":") ++ (signed s.hi ++ codes ",")

comma_upto : (n : ℕ) (rs : List Run) → comma_text n rs ≡ upto (λ i. item (get_or (map (span_of n) rs) i no_span)) (length rs)
unfolding comma_text upto item
comma_upto n [] = refl
comma_upto n (r ∷ rs) =
    let f : ℕ → List ℕ = λ i. item (get_or (map (span_of n) (r ∷ rs)) i no_span) in
    let e : suc (length rs) ≡ 1 + length rs = omega arith in
    ap (λ (t : List ℕ). item (span_of n r) ++ t)
    (comma_upto n rs ∙ upto_cong (λ i. item (get_or (map (span_of n) rs) i no_span)) (λ i. f (1 + i)) (length rs)
    (λ i l. let g : 1 + i ≡ suc i = omega arith in ap f (sym g)))
    ∙ sym (upto_append f 1 (length rs)) ∙ ap (upto f) (sym e)

ends : (f : ℕ → Span) (m : ℕ) → upto (λ i. item (f i)) (suc m) ≡ upto (λ i. span_text i (f i)) (suc m) ++ codes ","
unfolding upto item comma
ends f zero = sym (append_assoc (signed (f 0).lo ++ codes ":") (signed (f 0).hi) (codes ","))
ends f (suc m) =
    let s = f (suc m) in
    rw (ends f m, ne_eqb (suc m) 0 (λ (e : suc m ≡ 0). omega (arith, e)))
    (nested (upto (λ i. span_text i (f i)) (suc m)) (codes ",") (signed s.lo ++ codes ":") (signed s.hi))
  where
    nested : (a m b c : List ℕ) → (a ++ m) ++ (b ++ (c ++ m)) ≡ (a ++ (m ++ (b ++ c))) ++ m
    nested a m b c = simp append_assoc refl

pub comma_tones : (n : ℕ) (rs : List Run) → 1 ≤ length rs → comma_text n rs ≡ tones_text (map (span_of n) rs) ++ codes ","
unfolding tones_text
comma_tones n [] l = absurd (omega (arith, l))
comma_tones n (r ∷ rs) l =
    comma_upto n (r ∷ rs) ∙ ends (λ i. get_or (map (span_of n) (r ∷ rs)) i no_span) (length rs)
    ∙ rw (length-map rs (span_of n)) refl

-- the last comma is written over
pub closed : {d e f : List ℕ} {at r o : ℕ} (t : List ℕ) → Wrote d at (t ++ codes ",") e r → Wrote e (r - 1) (codes "\n") f o
    → Wrote d at (t ++ codes "\n") f o
closed {d} {e} {f} {at} {r} {o} t p q =
    let n = length-append t (codes ",") in
    let g : r - 1 ≡ at + length t = omega (arith, p.next, n) in
    rw (take-append_seam t (codes ",")) at (over (t ++ codes ",") (codes "\n") (length t) (omega (arith, n)) (omega (arith, n)) p (rw g at q))

-- ---- by kind
kind_test : ℕ → ℕ → Bool
kind_test c q =
    wherever (leb 1 c) (eqb (class_of (larger c q)) (class_kind c) && eqb (number_of (larger c q)) (index_in c q))

kind_pass : (c q : ℕ) → c < 36 → q < 4 → T (kind_test c q)
unfolding kind_test larger resource_column resource_at index_of class_of class_kind index_in index_kind
kind_pass c q l h = every_below (kind_test c) 4 (every_below (λ d. below (kind_test d) 4) 36 tt c l) q h

kind_both : (c q : ℕ) → c < 36 → 1 ≤ c → q < 4 → T (eqb (class_of (larger c q)) (class_kind c) && eqb (number_of (larger c q)) (index_in c q))
unfolding kind_test
kind_both c q l m h = met (leb 1 c) _ (kind_pass c q l h) (le→leb 1 c m)

pub kind_class : (c q : ℕ) → c < 36 → 1 ≤ c → q < 4 → class_of (larger c q) ≡ class_kind c
kind_class c q l m h = eqb→eq _ _ (both_left (eqb (class_of (larger c q)) (class_kind c)) _ (kind_both c q l m h))

pub kind_index : (c q : ℕ) → c < 36 → 1 ≤ c → q < 4 → number_of (larger c q) ≡ index_in c q
kind_index c q l m h = eqb→eq _ _ (both_right (eqb (class_of (larger c q)) (class_kind c)) _ (kind_both c q l m h))

span_test : ℕ → Bool
span_test c = wherever (leb 7 c) (eqb (span c) (cond (ltb c 12) 8 16))

pub kind_span : (c : ℕ) → c < 36 → 7 ≤ c → span c ≡ cond (ltb c 12) 8 16
unfolding span_test span kind_at kinds
kind_span c l h = eqb→eq _ _ (met (leb 7 c) _ (every_below span_test 36 tt c l) (le→leb 7 c h))

-- it has a run
some_test : ℕ → ℕ → Bool
some_test c p = wherever (leb 1 c) (leb 1 (length (larger_runs c p)))

some_pass : (c p : ℕ) → c < 36 → p < 16 → T (some_test c p)
unfolding some_test larger_runs places_of places_runs spread_runs span mask kind_at kinds
some_pass c p l h = every_below (some_test c) 16 (every_below (λ d. below (some_test d) 16) 36 tt c l) p h

pub runs_some : (c p : ℕ) → c < 36 → 1 ≤ c → p < 16 → 1 ≤ length (larger_runs c p)
unfolding some_test
runs_some c p l m h = leb→le 1 _ (met (leb 1 c) _ (some_pass c p l h) (le→leb 1 c m))
