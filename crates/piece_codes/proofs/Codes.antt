-- A piece's code says which piece it is, and what the tables say by it is what 01 says of the piece.
use mathlib.Core.Path.{◌≡◌, refl, ◌∙◌}
use mathlib.Core.Bool.{Bool, true, false, cond, ◌&&◌}
use mathlib.Core.List.{List, [], ◌∷◌}
use Prim.Native.Nat.{ℕ, zero, suc, ◌+◌, ◌/◌, ◌%◌, ◌≤◌, ◌<◌}
use native.Mathlib.Nat.{add-zero, suc-add}
use native.Mathlib.Omega.{arith}
use lib.Dec.{T, leb, eqb, leb→le, le→leb, eqb→eq}
use lib.ListN.{length, drop, get_or}
use Rattle.resource.specs.declared.Size.TheVariants.{S26, S52, S106, S242, S484, S996, S2x996}
use Rattle.resource.specs.declared.Piece.{Piece}
use Rattle.resource.specs.declared.Piece.TheVariants.{Part, With26}
use Rattle.resource.specs.Values.{between}
use Rattle.resource.specs.Index.{is_piece, from_positions, index_of, resource_at}
use Rattle.resource.specs.Names.{number_of}
use Rattle.resource.specs.Engine.{runs_of, edge, no_piece, wide, wide_with26, narrow, narrow_with26}
use Rattle.resource.specs.Engine.{offset26, offset52, offset106, narrow26, narrow52, narrow106}
use Rattle.resource.proofs.Test.{both_left, both_right, wherever, met, below, every_below}
use Rattle.resource.proofs.Places.{own_place}
use Rattle.resource.proofs.Pieces.{runs_at, piece_runs}
use Rattle.piece_codes.specs.Engine.{code_of, packed, piece_of, is_code, wide_word, narrow_word, wide_at, narrow_at, word_at, runs_by}
use Rattle.piece_codes.specs.Engine.{each_of, index_at}

-- ---- subcarriers
-- a place past the last
many : {A : Type 0} (m i : ℕ) → T (between 1 m i) → m < i → A
many m i t l = absurd (omega (arith, leb→le i m (both_right (leb 1 i) (leb i m) t), l))

wide_runs : (p : ℕ) (x : Piece) → T (is_piece x) → from_positions x ≡ 1 → runs_at 2 p x ≡ runs_by (edge p) (wide_word x)
unfolding is_piece from_positions runs_by wide wide_with26 offset26 offset52 offset106
wide_runs p (Part S26 zero) t f = absurd t
wide_runs p (Part S26 (suc zero)) t f = refl
wide_runs p (Part S26 (suc (suc zero))) t f = refl
wide_runs p (Part S26 (suc (suc (suc zero)))) t f = refl
wide_runs p (Part S26 (suc (suc (suc (suc zero))))) t f = refl
wide_runs p (Part S26 (suc (suc (suc (suc (suc zero)))))) t f = refl
wide_runs p (Part S26 (suc (suc (suc (suc (suc (suc zero))))))) t f = refl
wide_runs p (Part S26 (suc (suc (suc (suc (suc (suc (suc zero)))))))) t f = refl
wide_runs p (Part S26 (suc (suc (suc (suc (suc (suc (suc (suc zero))))))))) t f = refl
wide_runs p (Part S26 (suc (suc (suc (suc (suc (suc (suc (suc (suc zero)))))))))) t f = refl
wide_runs p (Part S26 (suc (suc (suc (suc (suc (suc (suc (suc (suc (suc i))))))))))) t f =
    many 9 (suc (suc (suc (suc (suc (suc (suc (suc (suc (suc i)))))))))) t (omega arith)
wide_runs p (Part S52 zero) t f = absurd t
wide_runs p (Part S52 (suc zero)) t f = refl
wide_runs p (Part S52 (suc (suc zero))) t f = refl
wide_runs p (Part S52 (suc (suc (suc zero)))) t f = refl
wide_runs p (Part S52 (suc (suc (suc (suc zero))))) t f = refl
wide_runs p (Part S52 (suc (suc (suc (suc (suc i)))))) t f =
    many 4 (suc (suc (suc (suc (suc i))))) t (omega arith)
wide_runs p (Part S106 zero) t f = absurd t
wide_runs p (Part S106 (suc zero)) t f = refl
wide_runs p (Part S106 (suc (suc zero))) t f = refl
wide_runs p (Part S106 (suc (suc (suc i)))) t f =
    many 2 (suc (suc (suc i))) t (omega arith)
wide_runs p (Part S242 i) t f = own_place p ∙ rw (add-zero)
wide_runs p (Part S484 i) t f = absurd (omega (arith, f))
wide_runs p (Part S996 i) t f = absurd (omega (arith, f))
wide_runs p (Part S2x996 i) t f = absurd (omega (arith, f))
wide_runs p (With26 zero) t f = absurd t
wide_runs p (With26 (suc zero)) t f = refl
wide_runs p (With26 (suc (suc zero))) t f = refl
wide_runs p (With26 (suc (suc (suc i)))) t f =
    many 2 (suc (suc (suc i))) t (omega arith)

narrow_runs : (x : Piece) → T (is_piece x) → from_positions x ≡ 1 → runs_at 1 0 x ≡ runs_by 0 (narrow_word x)
unfolding is_piece from_positions runs_by narrow narrow_with26 narrow26 narrow52 narrow106
narrow_runs (Part S26 zero) t f = absurd t
narrow_runs (Part S26 (suc zero)) t f = refl
narrow_runs (Part S26 (suc (suc zero))) t f = refl
narrow_runs (Part S26 (suc (suc (suc zero)))) t f = refl
narrow_runs (Part S26 (suc (suc (suc (suc zero))))) t f = refl
narrow_runs (Part S26 (suc (suc (suc (suc (suc zero)))))) t f = refl
narrow_runs (Part S26 (suc (suc (suc (suc (suc (suc zero))))))) t f = refl
narrow_runs (Part S26 (suc (suc (suc (suc (suc (suc (suc zero)))))))) t f = refl
narrow_runs (Part S26 (suc (suc (suc (suc (suc (suc (suc (suc zero))))))))) t f = refl
narrow_runs (Part S26 (suc (suc (suc (suc (suc (suc (suc (suc (suc zero)))))))))) t f = refl
narrow_runs (Part S26 (suc (suc (suc (suc (suc (suc (suc (suc (suc (suc i))))))))))) t f =
    many 9 (suc (suc (suc (suc (suc (suc (suc (suc (suc (suc i)))))))))) t (omega arith)
narrow_runs (Part S52 zero) t f = absurd t
narrow_runs (Part S52 (suc zero)) t f = refl
narrow_runs (Part S52 (suc (suc zero))) t f = refl
narrow_runs (Part S52 (suc (suc (suc zero)))) t f = refl
narrow_runs (Part S52 (suc (suc (suc (suc zero))))) t f = refl
narrow_runs (Part S52 (suc (suc (suc (suc (suc i)))))) t f =
    many 4 (suc (suc (suc (suc (suc i))))) t (omega arith)
narrow_runs (Part S106 zero) t f = absurd t
narrow_runs (Part S106 (suc zero)) t f = refl
narrow_runs (Part S106 (suc (suc zero))) t f = refl
narrow_runs (Part S106 (suc (suc (suc i)))) t f =
    many 2 (suc (suc (suc i))) t (omega arith)
narrow_runs (Part S242 i) t f = refl
narrow_runs (Part S484 i) t f = absurd (omega (arith, f))
narrow_runs (Part S996 i) t f = absurd (omega (arith, f))
narrow_runs (Part S2x996 i) t f = absurd (omega (arith, f))
narrow_runs (With26 zero) t f = absurd t
narrow_runs (With26 (suc zero)) t f = refl
narrow_runs (With26 (suc (suc zero))) t f = refl
narrow_runs (With26 (suc (suc (suc i)))) t f =
    many 2 (suc (suc (suc i))) t (omega arith)

either : (n p : ℕ) (x : Piece) (t : Bool) → eqb n 1 ≡ t → runs_at n p x ≡ cond t (runs_at 1 0 x) (runs_at 2 p x)
either n p (Part s i) true e = rw e
either n p (Part s i) false e = rw e
either n p (With26 i) true e = rw e
either n p (With26 i) false e = rw e

code_piece : (c : ℕ) → T (is_code c) → T (is_piece (piece_of c)) × (from_positions (piece_of c) ≡ 1)
unfolding is_code
code_piece c t = (both_left (is_piece (piece_of c)) _ t, eqb→eq (from_positions (piece_of c)) 1 (both_right (is_piece (piece_of c)) _ t))

pub code_runs : (n p c : ℕ) → T (is_code c)
    → runs_of n (p / 4) (resource_at (p % 4) (piece_of c)) ≡ runs_by (cond (eqb n 1) 0 (edge p)) (word_at n c)
unfolding word_at wide_at narrow_at
code_runs n p c t = piece_runs n p x v.0 v.1 ∙ either n p x (eqb n 1) refl ∙ rw (t_true (is_code c) t) (go (eqb n 1))
  where
    x : Piece
    x = piece_of c

    v : T (is_piece (piece_of c)) × (from_positions (piece_of c) ≡ 1)
    v = code_piece c t

    t_true : (b : Bool) → T b → b ≡ true
    t_true true h = refl
    t_true false h = absurd h

    go : (b : Bool) → cond b (runs_at 1 0 (piece_of c)) (runs_at 2 p (piece_of c))
        ≡ runs_by (cond b 0 (edge p)) (cond b (narrow_word (piece_of c)) (wide_word (piece_of c)))
    go true = narrow_runs (piece_of c) (code_piece c t).0 (code_piece c t).1
    go false = wide_runs p (piece_of c) (code_piece c t).0 (code_piece c t).1

-- every run has a subcarrier
good_test : ℕ → Bool
good_test w = leb 1 (w / 256 % 256) && wherever (leb 65536 w) (leb 1 (w / 65536 / 256))

words_test : ℕ → Bool
words_test c = wherever (is_code c) (good_test (wide_at c) && good_test (narrow_at c))

words_pass : (c : ℕ) → c < 128 → T (is_code c) → T (good_test (wide_at c) && good_test (narrow_at c))
unfolding words_test good_test wide_at narrow_at is_code piece_of is_piece from_positions offset26 offset52 offset106 narrow26 narrow52 narrow106
words_pass c l t = met (is_code c) (good_test (wide_at c) && good_test (narrow_at c)) (every_below words_test 128 tt c l) t

good : (w : ℕ) → T (good_test w) → (1 ≤ w / 256 % 256) × (65536 ≤ w → 1 ≤ w / 65536 / 256)
unfolding good_test
good w t = (
  leb→le 1 (w / 256 % 256) (both_left (leb 1 (w / 256 % 256)) _ t),
  λ l. leb→le 1 (w / 65536 / 256) (met (leb 65536 w) _ (both_right (leb 1 (w / 256 % 256)) _ t) (le→leb 65536 w l)),
)

pub word_good : (n c : ℕ) → c < 128 → T (is_code c) → (1 ≤ word_at n c / 256 % 256) × (65536 ≤ word_at n c → 1 ≤ word_at n c / 65536 / 256)
unfolding word_at
word_good n c l t = go (eqb n 1)
  where
    go : (b : Bool) → (1 ≤ cond b (narrow_at c) (wide_at c) / 256 % 256)
        × (65536 ≤ cond b (narrow_at c) (wide_at c) → 1 ≤ cond b (narrow_at c) (wide_at c) / 65536 / 256)
    go true = good (narrow_at c) (both_right (good_test (wide_at c)) _ (words_pass c l t))
    go false = good (wide_at c) (both_left (good_test (wide_at c)) _ (words_pass c l t))

-- ---- the index
index_test : ℕ → ℕ → Bool
index_test c q = wherever (is_code c) (eqb (number_of (resource_at q (piece_of c))) (index_at q c))

index_pass : (c q : ℕ) → c < 128 → q < 4 → T (index_test c q)
unfolding index_test is_code piece_of is_piece from_positions resource_at index_of index_at each_of
index_pass c q l h = every_below (index_test c) 4 (every_below (λ d. below (index_test d) 4) 128 tt c l) q h

pub code_index : (q c : ℕ) → q < 4 → c < 128 → T (is_code c) → number_of (resource_at q (piece_of c)) ≡ index_at q c
unfolding index_test
code_index q c h l t = eqb→eq _ _ (met (is_code c) _ (index_pass c q l h) t)

-- ---- codes
pub code_back : (x : Piece) → T (is_piece x) → from_positions x ≡ 1 → (piece_of (code_of x) ≡ x) × (code_of x < 128)
unfolding piece_of is_piece from_positions
code_back (Part S26 i) t f =
    let l = leb→le i 9 (both_right (leb 1 i) (leb i 9) t) in
    let k : i / 16 ≡ 0 = omega arith in
    let m : i % 16 ≡ i = omega arith in
    (rw (k, m), omega arith)
code_back (Part S52 i) t f =
    let l = leb→le i 4 (both_right (leb 1 i) (leb i 4) t) in
    let k : (16 + i) / 16 ≡ 1 = omega arith in
    let m : (16 + i) % 16 ≡ i = omega arith in
    (rw (k, m), omega arith)
code_back (Part S106 i) t f =
    let l = leb→le i 2 (both_right (leb 1 i) (leb i 2) t) in
    let k : (32 + i) / 16 ≡ 2 = omega arith in
    let m : (32 + i) % 16 ≡ i = omega arith in
    (rw (k, m), omega arith)
code_back (With26 i) t f =
    let l = leb→le i 2 (both_right (leb 1 i) (leb i 2) t) in
    let k : (48 + i) / 16 ≡ 3 = omega arith in
    let m : (48 + i) % 16 ≡ i = omega arith in
    (rw (k, m), omega arith)
code_back (Part S242 i) t f =
    let l : i ≡ 1 = eqb→eq i 1 t in
    let k : (64 + i) / 16 ≡ 4 = omega arith in
    let m : (64 + i) % 16 ≡ i = omega arith in
    (rw (k, m), omega arith)
code_back (Part S484 i) t f = absurd (omega (arith, f))
code_back (Part S996 i) t f = absurd (omega (arith, f))
code_back (Part S2x996 i) t f = absurd (omega (arith, f))

both : (a b : Bool) → T a → T b → T (a && b)
both true b h k = k
both false b h k = absurd h

pub code_is : (x : Piece) → T (is_piece x) → from_positions x ≡ 1 → T (is_code (code_of x))
unfolding is_code
code_is x t f = rw ((code_back x t f).0, f) (both (is_piece x) true t tt)

-- the pieces of a list one by one
pub unpack : (l : List Piece) (k : ℕ) → k < length l → code_of (get_or l k no_piece) < 128
    → (packed (drop k l) % 128 ≡ code_of (get_or l k no_piece)) × (packed (drop k l) / 128 ≡ packed (drop (k + 1) l))
unpack [] k h b = absurd (omega (arith, h))
unpack (x ∷ xs) zero h b = (omega (arith, b), omega (arith, b))
unpack (x ∷ xs) (suc k) h b = rw (suc-add k 1) (unpack xs k (omega (arith, h)) b)
