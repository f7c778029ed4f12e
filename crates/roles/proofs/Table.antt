-- What a role tells of its value, as a test that the checker computes.
use mathlib.Core.Path.{◌≡◌, ap}
use mathlib.Core.Bool.{Bool, cond, ◌&&◌}
use Prim.Native.Nat.{ℕ, ◌+◌, ◌*◌, ◌/◌, ◌%◌, ◌^◌}
use native.Mathlib.Omega.{arith}
use native.Mathlib.Nat.{zero-div}
use lib.Dec.{T, ltb, leb, eqb, eqb→eq}
use borrow.Author.Tests.{ltb-true, le-leb, eq-eqb}
use Rattle.resource.specs.Values.{carried, pieces, fields_of, smaller_at}
use Rattle.resource.proofs.Test.{below, every_below, wherever, met, both_left, both_right}
use Rattle.kinds.specs.Kinds.{kinds, kind_at, family, span, mask, takes, takes_block, blank_at}
use Rattle.kinds.specs.Fields.{gives, share}
use Rattle.kinds.proofs.Tests.{holds, is_true, both}
use Rattle.segments.specs.Engine.{fitting}
use Rattle.roles.specs.Engine.{bit, place_of, Tells, Role, no_role}

abbrev names_test : ℕ → ℕ → ℕ → ℕ → Bool
names_test v r c j = wherever (leb 3 c && eqb (bit (9 + c) r) 1) (takes c j && eqb (v / 8) (family c))

abbrev rest_test : ℕ → ℕ → ℕ → ℕ → ℕ → Bool
rest_test v f r c j =
    eqb (bit (8 + j) r) (cond (eqb (place_of c j) 0 && leb 2 (share 0 j v)) 1 0) && (eqb (r % 256) f && names_test v r c j)

abbrev tells_test : ℕ → ℕ → ℕ → ℕ → ℕ → Bool
tells_test v f r c j = fitting (place_of c j) j v && (eqb (r / 2 ^ 56) (cond (eqb c 0) 0 (share c j v)) && rest_test v f r c j)

abbrev place_test : ℕ → ℕ → ℕ → ℕ → ℕ → Bool
place_test v f r c j = wherever (eqb (bit (16 + 8 * j + c) r) 1) (tells_test v f r c j)

unfoldable pub role_test : ℕ → ℕ → ℕ → Bool
role_test v f r = ltb (r % 2 ^ 56) (2 ^ 48) && (ltb r (2 ^ 60) && below (λ c. below (place_test v f r c) 4) 7)

told : (v f r c j : ℕ) → T (tells_test v f r c j) → Tells v f r c j
told v f r c j t =
    let t1 = both_right (fitting (place_of c j) j v) _ t in
    let t2 = both_right (eqb (r / 2 ^ 56) (cond (eqb c 0) 0 (share c j v))) _ t1 in
    let t3 = both_right (eqb (bit (8 + j) r) (cond (eqb (place_of c j) 0 && leb 2 (share 0 j v)) 1 0)) _ t2 in
    record {
      fits = is_true _ (both_left (fitting (place_of c j) j v) _ t);
      wide = eqb→eq _ _ (both_left (eqb (r / 2 ^ 56) (cond (eqb c 0) 0 (share c j v))) _ t1);
      many = eqb→eq _ _ (both_left (eqb (bit (8 + j) r) (cond (eqb (place_of c j) 0 && leb 2 (share 0 j v)) 1 0)) _ t2);
      fields = eqb→eq _ _ (both_left (eqb (r % 256) f) _ t3);
      names = λ l e.
          let u = met (leb 3 c && eqb (bit (9 + c) r) 1) (takes c j && eqb (v / 8) (family c)) (both_right (eqb (r % 256) f) _ t3)
          (both (leb 3 c) (eqb (bit (9 + c) r) 1) (holds _ (le-leb 3 c l)) (holds _ (eq-eqb (bit (9 + c) r) 1 e))) in
          (is_true _ (both_left (takes c j) _ u), eqb→eq _ _ (both_right (takes c j) _ u));
    }

pub tested : (v f r : ℕ) → T (role_test v f r) → Role v f r
unfolding role_test
tested v f r t =
    let t1 = both_right (ltb (r % 2 ^ 56) (2 ^ 48)) _ t in
    let t2 = both_right (ltb r (2 ^ 60)) (below (λ c. below (place_test v f r c) 4) 7) t1 in
    record {
      tells = λ c j l m e. told v f r c j
          (met (eqb (bit (16 + 8 * j + c) r) 1) _
          (every_below (place_test v f r c) 4 (every_below (λ c. below (place_test v f r c) 4) 7 t2 c l) j m) (holds _ (eq-eqb _ 1 e)));
      low = ltb-true _ _ (is_true _ (both_left (ltb (r % 2 ^ 56) (2 ^ 48)) _ t));
      most = ltb-true _ _ (is_true _ (both_left (ltb r (2 ^ 60)) _ t1));
    }

-- where nothing is told
pub no_role_lem : (v f : ℕ) → Role v f 0
no_role_lem v f = record {
  tells = λ c j l m e. absurd (none (16 + 8 * j + c) e);
  low = omega arith;
  most = omega arith;
}
  where
    none : (k : ℕ) → bit k 0 ≡ 1 → ⊥
    none k e = let y : bit k 0 ≡ 0 = ap (λ (m : ℕ). m % 2) (zero-div (2 ^ k)) in omega arith

-- past the row's end a value is 0 and has no field: it may stand where it is given to itself, as a punctured position may
pub absent : Role 0 0 no_role
unfolding role_test fitting place_of share gives takes takes_block blank_at family span mask kind_at kinds smaller_at fields_of pieces carried
absent = tested 0 0 no_role tt
