-- The line of a piece by its code is the piece's.
use mathlib.Core.Path.{◌≡◌, refl, ap, ◌∙◌}
use mathlib.Core.Bool.{Bool, true, false, cond, not, ◌&&◌}
use mathlib.Core.List.{List, [], ◌∷◌, ◌++◌, map, append_assoc}
use Prim.Native.Nat.{ℕ, ◌+◌, ◌-◌, ◌*◌, ◌/◌, ◌%◌, ◌≤◌, ◌<◌}
use native.Mathlib.Nat.{add-zero, zero-add}
use native.Mathlib.Omega.{arith}
use lib.Dec.{T, ltb, eqb, eqb→eq}
use lib.IntN.{pos, ◌-ℤ◌}
use lib.ListN.{length}
use borrow.Author.Tests.{eq-eqb, ne_eqb, eqb-true, eqb-false}
use Rattle.text.specs.Text.{codes, dec, signed, upto}
use Rattle.stores.specs.Engine.{bytes_of, spaced_word}
use Rattle.stores.proofs.Laws.{same, same_equal, word_bytes}
use Rattle.resource.specs.Values.{fields_of, divides, piece_fields, own_pieces}
use Rattle.resource.specs.Index.{is_piece, from_positions, resource_at}
use Rattle.resource.specs.Tones.{Span}
use Rattle.resource.specs.declared.Run.{Run}
use Rattle.resource.specs.Engine.{span_of, run_of, runs_of, piece_at}
use Rattle.resource.proofs.Test.{wherever, met, below, every_below}
use Rattle.resource.proofs.Fields.{fields_most}
use Rattle.resource.proofs.Pieces.{own_piece}
use Rattle.records.specs.Records.{in_channel, piece_record}
use Rattle.piece_codes.specs.Engine.{code_of, is_code, piece_of, runs_by, word_at, narrow_at, is_single, place_of, entry_of, entry_at}
use Rattle.piece_codes.proofs.Codes.{code_back, code_runs}
use Rattle.resource_line.specs.ResourceLine.{comma, tones_text}
use Rattle.resource_line.specs.Engine.{class_name, class_of, key_of, start_text, named_text}
use Rattle.position_lines.specs.Engine.{runs_line, code_line}

-- ---- its name
class_test : ℕ → ℕ → Bool
class_test c q = wherever (is_code c) (eqb (class_of (resource_at q (piece_of c))) (c / 16))

class_pass : (c q : ℕ) → c < 128 → q < 4 → T (class_test c q)
unfolding class_test is_code piece_of is_piece from_positions resource_at class_of
class_pass c q l h = every_below (class_test c) 4 (every_below (λ d. below (class_test d) 4) 128 tt c l) q h

pub code_class : (q c : ℕ) → q < 4 → c < 128 → T (is_code c) → class_of (resource_at q (piece_of c)) ≡ c / 16
unfolding class_test
code_class q c h l t = eqb→eq _ _ (met (is_code c) _ (class_pass c q l h) t)

-- ---- its subcarriers
one_span : (s : Span) → tones_text (s ∷ []) ++ codes "\n" ≡ (signed s.lo ++ codes ":") ++ (signed s.hi ++ codes "\n")
unfolding tones_text upto comma
one_span s = append_assoc (signed s.lo ++ codes ":") (signed s.hi) (codes "\n")

nested : (a c d e m n : List ℕ) → ((a ++ c) ++ (m ++ (d ++ e))) ++ n ≡ (a ++ (c ++ m)) ++ (d ++ (e ++ n))
nested a c d e m n = simp append_assoc refl

two_spans : (s t : Span) → tones_text (s ∷ t ∷ []) ++ codes "\n"
    ≡ ((signed s.lo ++ codes ":") ++ (signed s.hi ++ codes ",")) ++ ((signed t.lo ++ codes ":") ++ (signed t.hi ++ codes "\n"))
unfolding tones_text upto comma
two_spans s t = nested (signed s.lo ++ codes ":") (signed s.hi) (signed t.lo ++ codes ":") (signed t.hi) (codes ",") (codes "\n")

pub one_run : (n e w : ℕ) → w < 65536
    → tones_text (map (span_of n) (runs_by e w)) ++ codes "\n"
    ≡ (signed (span_of n (run_of (e + w % 256) (w / 256 % 256))).lo ++ codes ":")
    ++ (signed (span_of n (run_of (e + w % 256) (w / 256 % 256))).hi ++ codes "\n")
unfolding runs_by
one_run n e w l =
    let z : w / 65536 ≡ 0 = omega arith in
    rw (eq-eqb (w / 65536) 0 z) (one_span (span_of n (run_of (e + w % 256) (w / 256 % 256))))

pub two_runs : (n e w : ℕ) → 65536 ≤ w
    → tones_text (map (span_of n) (runs_by e w)) ++ codes "\n"
    ≡ ((signed (span_of n (run_of (e + w % 256) (w / 256 % 256))).lo ++ codes ":")
    ++ (signed (span_of n (run_of (e + w % 256) (w / 256 % 256))).hi ++ codes ","))
    ++ ((signed (span_of n (run_of (e + w / 65536 % 256) (w / 65536 / 256))).lo ++ codes ":")
    ++ (signed (span_of n (run_of (e + w / 65536 % 256) (w / 65536 / 256))).hi ++ codes "\n"))
unfolding runs_by
two_runs n e w l =
    rw (ne_eqb (w / 65536) 0 (λ (z : w / 65536 ≡ 0). omega (arith, z, l)))
    (two_spans (span_of n (run_of (e + w % 256) (w / 256 % 256))) (span_of n (run_of (e + w / 65536 % 256) (w / 65536 / 256))))

text_20 : tones_text (map (span_of 1) (runs_by 0 (word_at 1 65))) ++ codes "\n" ≡ codes "-122:-2,2:122\n"
unfolding tones_text upto comma signed dec runs_by word_at narrow_at is_code piece_of is_piece from_positions
text_20 = refl

-- the 242's at 20 MHz
pub whole_20 : (n p c : ℕ) → n ≡ 1 → c ≡ 65
    → tones_text (map (span_of n) (runs_of n (p / 4) (resource_at (p % 4) (piece_of c)))) ++ codes "\n" ≡ codes "-122:-2,2:122\n"
unfolding is_code piece_of is_piece from_positions
whole_20 n p c e f = rw (e, f) (ap (λ (rs : List Run). tones_text (map (span_of 1) rs) ++ codes "\n") (code_runs 1 p 65 tt) ∙ text_20)

-- ---- its fields
pub fields_sum : (p f : ℕ) → in_channel 1 p f + in_channel 2 p f ≡ f
fields_sum p f = go (eqb (p % 2) 0) refl
  where
    go : (t : Bool) → eqb (p % 2) 0 ≡ t → in_channel 1 p f + in_channel 2 p f ≡ f
    go true h = let e : p % 2 ≡ 0 = eqb-true (p % 2) 0 h in rw e (add-zero f)
    go false h = let e : p % 2 ≡ 1 = omega (arith, eqb-false (p % 2) 0 h) in rw e (zero-add f)

pub piece_few : (v : ℕ) → piece_fields v < 10
unfolding piece_fields
piece_few v = go (divides v)
  where
    go : (t : Bool) → cond t 1 (fields_of v) < 10
    go true = omega arith
    go false = omega (arith, fields_most v)

-- ---- the line of a piece of one run
name_test : ℕ → ℕ → Bool
name_test n c =
    wherever (is_code c && is_single n c) (same (bytes_of (entry_at n c / 72057594037927936) (entry_at n c / 256 % 16777216)) (class_name (c / 16)))

name_pass : (b : Bool) (c : ℕ) → c < 128 → T (name_test (cond b 1 2) c)
unfolding name_test class_name is_single entry_at place_of entry_of is_code piece_of is_piece from_positions
name_pass true c l = every_below (name_test 1) 128 tt c l
name_pass false c l = every_below (name_test 2) 128 tt c l

both : (a b : Bool) → T a → T b → T (a && b)
both true b s t = t
both false b s t = absurd s

pub single_name : (n c : ℕ) → c < 128 → T (is_code c) → T (is_single n c)
    → bytes_of (entry_at n c / 72057594037927936) (entry_at n c / 256 % 16777216) ≡ class_name (c / 16)
unfolding name_test is_single entry_at place_of
single_name n c l t s = go (eqb n 1) s
  where
    go : (b : Bool) → T (cond b (not (eqb c 5) && ltb c 48) (not (eqb (c / 16) 3)))
        → bytes_of (entry_of (c - 7 * (c / 16) + cond b 40 0) / 72057594037927936) (entry_of (c - 7 * (c / 16) + cond b 40 0) / 256 % 16777216)
        ≡ class_name (c / 16)
    go true u = same_equal _ _ (met (is_code c && is_single 1 c) _ (name_pass true c l) (both (is_code c) (is_single 1 c) t u))
    go false u = same_equal _ _ (met (is_code c && is_single 2 c) _ (name_pass false c l) (both (is_code c) (is_single 2 c) t u))

pub single_start : (name len k i g u : ℕ) → i < 40 → bytes_of len name ≡ class_name k
    → named_text name len (spaced_word i) g u ≡ start_text k i g u
unfolding named_text start_text key_of
single_start name len k i g u l e = rw (e, word_bytes i l)

pub single_run : (n e w x : ℕ) → w < 65536 → x % 256 ≡ w % 256 → x / 4294967296 % 256 + 1 ≡ w % 256 + w / 256 % 256
    → tones_text (map (span_of n) (runs_by e w)) ++ codes "\n"
    ≡ (signed (pos (e + x % 256) -ℤ pos (128 * n)) ++ codes ":") ++ (signed (pos (e + x / 4294967296 % 256) -ℤ pos (128 * n)) ++ codes "\n")
single_run n e w x l f h =
    let a : e + w % 256 ≡ e + x % 256 = omega (arith, f) in
    let b : e + w % 256 + w / 256 % 256 - 1 ≡ e + x / 4294967296 % 256 = omega (arith, h) in
    one_run n e w l
    ∙ ap (λ (z : ℕ). (signed (pos (e + w % 256) -ℤ pos (128 * n)) ++ codes ":") ++ (signed (pos z -ℤ pos (128 * n)) ++ codes "\n")) b
    ∙ ap (λ (z : ℕ). (signed (pos z -ℤ pos (128 * n)) ++ codes ":") ++ (signed (pos (e + x / 4294967296 % 256) -ℤ pos (128 * n)) ++ codes "\n")) a

-- ---- the line of a code is the piece's
pub code_line_lem : (n p v k : ℕ) → k < length (own_pieces v)
    → code_line n p (code_of (piece_at v k)) (piece_fields v) ≡ runs_line n (piece_record (λ q. v) p (piece_at v k))
unfolding code_line
code_line_lem n p v k l =
    let o = own_piece v k l in
    let b = code_back (piece_at v k) o.0 o.1 in
    rw (b.0, fields_sum p (piece_fields v))
