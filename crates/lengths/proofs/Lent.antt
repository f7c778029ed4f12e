-- Channels that are lent as they may be pass 1 to 3.
use mathlib.Core.Path.{◌≡◌, refl, sym, ◌∙◌}
use mathlib.Core.Bool.{Bool, true, false, cond, ◌&&◌, false≢true}
use mathlib.Core.List.{List}
use Prim.Native.Nat.{ℕ, ◌*◌, ◌≤◌, ◌<◌}
use native.Mathlib.Omega.{arith}
use lib.Dec.{eqb, leb}
use lib.ListN.{length}
use borrow.Author.Tests.{leb-true, eqb-true, le-leb, lt-leb}
use Rattle.std.specs.Prelude.{Ok}
use Rattle.channel.specs.Layout.{present, firsts, seconds, first_bits, second_at, second_bits, has_second, common}
use Rattle.channel.proofs.Laws.{present_1, present_wide}
use Rattle.faults.specs.Checks.{too_long, cut_common}
use Rattle.faults.proofs.Passing.{of_both, pass_too_long, pass_cut_common}
use Rattle.lengths.specs.Engine.{fits_in, least_bytes, lent}

fits_says : (bw : ℕ) (s : List ℕ) → fits_in s (least_bytes bw) ≡ true → (length s ≤ 512) × (common bw ≤ 8 * length s)
unfolding fits_in least_bytes
fits_says bw s e =
    let t = of_both (leb (least_bytes bw) (length s)) (leb (length s) 512) e in
    let n = leb-true (least_bytes bw) (length s) t.0 in
    (leb-true (length s) 512 t.1, omega arith)

pub record Passes (bw : ℕ) (a b : List ℕ) : Type 0 where
  pub known : bw ≤ 4
  pub long_1 : too_long bw 1 a ≡ Ok tt
  pub long_2 : too_long bw 2 b ≡ Ok tt
  pub cut_1 : cut_common bw 1 a ≡ Ok tt
  pub cut_2 : cut_common bw 2 b ≡ Ok tt

pub lent_passes : (bw : ℕ) (a b : List ℕ) → lent bw a b ≡ true → Passes bw a b
unfolding lent
lent_passes bw a b e =
    let t = of_both (leb bw 4) _ e in
    let u = of_both (fits_in a (least_bytes bw)) _ t.1 in
    let f = fits_says bw a u.0 in
    let g = second (present bw 2) u.1 in
    record {
      known = leb-true bw 4 t.0;
      long_1 = pass_too_long bw 1 a f.0 (λ n. absurd (false≢true (sym n ∙ present_1 bw)));
      long_2 = pass_too_long bw 2 b g.0 g.1;
      cut_1 = pass_cut_common bw 1 a (λ p. f.1);
      cut_2 = pass_cut_common bw 2 b g.2;
    }
  where
    second : (t : Bool) → cond t (fits_in b (least_bytes bw)) (eqb (length b) 0) ≡ true
        → (length b ≤ 512) × (t ≡ false → length b ≡ 0) × (t ≡ true → common bw ≤ 8 * length b)
    second true h = let f = fits_says bw b h in (f.0, λ n. absurd (false≢true (sym n)), λ p. f.1)
    second false h = let z = eqb-true (length b) 0 h in (omega arith, λ n. z, λ p. absurd (false≢true p))

-- the test by code: each constant is the common field's
module _ (bw : ℕ) (a b : List ℕ) where
  pub lent_one : bw ≡ 0 → fits_in a 5 && eqb (length b) 0 ≡ lent bw a b
  unfolding lent least_bytes common second_at first_bits firsts has_second second_bits seconds present
  lent_one e = rw e refl

  pub lent_two : (n : ℕ) → 0 < bw → bw ≤ 4 → least_bytes bw ≡ n → fits_in a n && fits_in b n ≡ lent bw a b
  unfolding lent
  lent_two n l m e = rw (le-leb bw 4 m, present_wide bw 2 l, e) refl

  pub lent_none : 4 < bw → false ≡ lent bw a b
  unfolding lent
  lent_none l = rw (lt-leb bw 4 l) refl

-- "A common field is thus 36, 36, 45, 73 or 109 bits": 5, 5, 6, 10 or 14 bytes
pub bytes_40 : least_bytes 1 ≡ 5
unfolding least_bytes common second_at first_bits firsts has_second second_bits seconds
bytes_40 = refl

pub bytes_80 : least_bytes 2 ≡ 6
unfolding least_bytes common second_at first_bits firsts has_second second_bits seconds
bytes_80 = refl

pub bytes_160 : least_bytes 3 ≡ 10
unfolding least_bytes common second_at first_bits firsts has_second second_bits seconds
bytes_160 = refl

pub bytes_320 : least_bytes 4 ≡ 14
unfolding least_bytes common second_at first_bits firsts has_second second_bits seconds
bytes_320 = refl
