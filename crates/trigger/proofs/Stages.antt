-- The refusals of a read and of a write, in the groups in which the code asks for them.
use mathlib.Core.Path.{◌≡◌, refl, sym, ◌∙◌, ap, subst}
use mathlib.Core.Logic.{⊎_elim}
use mathlib.Core.Bool.{Bool, true, false, not, ◌&&◌, ◌||◌}
use mathlib.Core.List.{List, append-nil}
use Prim.Native.Nat.{ℕ, ◌/◌, ◌≤◌, ◌<◌, min}
use native.Mathlib.Omega.{arith}
use borrow.Author.Tests.{ltb-true, ltb-false, le-leb, lt-leb}
use Rattle.resource.proofs.Test.{below_or}
use lib.Dec.{T, ltb, leb, eqb, eqb→eq}
use lib.ListN.{length, replicate}
use Rattle.answer.specs.Answer.{no, refuse_if, ◌or◌, after, passes}
use Rattle.answer.specs.declared.Answer.{Answer}
use Rattle.answer.specs.Answer.{Outcome}
use Rattle.std.specs.Prelude.{Ok, Err}
use Rattle.answer.specs.Lists.{at, build, filled}
use Rattle.answer.proofs.Lists.{get_d_filled, get_d_kept}
use Rattle.answer.proofs.Order.{pass_left, pass_right, pass_if, or_assoc}
use Rattle.answer.specs.declared.Refusal.TheVariants.{UnknownBandwidth, ReservedBitSet, NotNamed, BufferTooShort, OtherLayout}
use Rattle.answer.specs.declared.Refusal.{Refusal}
use Rattle.trigger_values.specs.UserInfo.{info_of, aid12, b0, value_in, ps160}
use Rattle.trigger_values.specs.Values.{taken}
use Rattle.trigger.specs.Reading.{above2, not_five, is2007, bit_set, not_taken, info_outcome, no_record_room, entry_outcome}
use Rattle.record_refusals.specs.Engine.{fit, value_named, read_back, numbers_outcome}
use Rattle.trigger.specs.Worked.{some_entry}
use Rattle.trigger.specs.Writing.{says2007, of_none, no_entry_room, record_outcome}
use Rattle.word_bytes.specs.Bytes.{word_at, words_in}

-- 24, 16 and 17 together
pub read_chain : (bw : ℕ) (e : List ℕ) (n : ℕ) → above2 bw or not_five (length e) or info_outcome bw (info_of e) or no_record_room n ≡ entry_outcome bw e n
unfolding info_outcome entry_outcome
read_chain bw e n =
    let a = above2 bw or not_five (length e) in
    let x = info_of e in
    ap (λ (o : Outcome). o or no_record_room n)
    (sym (or_assoc a (is2007 x or bit_set x) (not_taken bw x)) ∙ ap (λ (o : Outcome). o or not_taken bw x) (sym (or_assoc a (is2007 x) (bit_set x))))

-- as the code asks: of the entry's 40 bits x
pub read_outcome_lem : (bw : ℕ) (e : List ℕ) (m x : ℕ) (o : Outcome) → x ≡ info_of e → o ≡
    (above2 bw or not_five (length e) or info_outcome bw x or no_record_room m)
    → o ≡ entry_outcome bw e m
read_outcome_lem bw e m x o f g =
    g ∙ ap (λ (x : ℕ). above2 bw or not_five (length e) or info_outcome bw x or no_record_room m) f ∙ read_chain bw e m

-- 24, 16 and 17 by one test
read_test : (a b c d : Bool) (x y z : Refusal)
    → ((not a && (b && c)) && d) ≡ passes (refuse_if a x or refuse_if (not b || not c) y or refuse_if (not d) z)
read_test true b c d x y z = refl
read_test false true true true x y z = refl
read_test false true true false x y z = refl
read_test false true false d x y z = refl
read_test false false c d x y z = refl

pub info_read : (bw x : ℕ)
    → ((not (eqb (aid12 x) 2007) && (eqb (ps160 x) 0 && eqb (b0 x) 0)) && taken bw (value_in x)) ≡ passes (info_outcome bw x)
unfolding info_outcome is2007 bit_set not_taken
info_read bw x =
    read_test (eqb (aid12 x) 2007) (eqb (ps160 x) 0) (eqb (b0 x) 0) (taken bw (value_in x)) (OtherLayout 0) (ReservedBitSet 0) (NotNamed 0)

-- what passed has room
pub read_room : (bw : ℕ) (e : List ℕ) (m : ℕ) → entry_outcome bw e m ≡ Ok tt → 32 ≤ m
unfolding entry_outcome no_record_room
read_room bw e m f = ltb-false m 32 (pass_if (ltb m 32) (BufferTooShort 32) (pass_right _ (refuse_if (ltb m 32) (BufferTooShort 32)) f))

pub both_true : (a b : Bool) → (a && b) ≡ true → (a ≡ true) × (b ≡ true)
both_true true b e = (refl, e)
both_true false b e = absurd (subst (λ (t : Bool). T t) (sym e) tt)

pub not_false : (a : Bool) → not a ≡ false → a ≡ true
not_false true e = refl
not_false false e = sym e

-- a record's numbers that passed: each fits its field, the value is taken, and there is room
pub record Passed (bw : ℕ) (w : List ℕ) (m : ℕ) : Type 0 where
  pub fits : fit w ≡ true
  pub named : taken bw (value_named w) ≡ true
  pub room : 5 ≤ m

pub numbers_passed : (bw n : ℕ) (w : List ℕ) (m : ℕ) → numbers_outcome bw n w m ≡ Ok tt → Passed bw w m
unfolding numbers_outcome read_back
numbers_passed bw n w m e =
    let c1 = refuse_if (ltb 2 bw) UnknownBandwidth in
    let c24 = refuse_if (eqb (at w 0) 2007) (OtherLayout 0) in
    let t = eqb n 32 && (fit w && taken bw (value_named w)) in
    let c17 = refuse_if (not t) (NotNamed 0) in
    let c23 = refuse_if (ltb m 5) (BufferTooShort 5) in
    let u = both_true (eqb n 32) (fit w && taken bw (value_named w))
    (not_false t (pass_if (not t) (NotNamed 0) (pass_right (c1 or c24) c17 (pass_left (c1 or c24 or c17) c23 e)))) in
    let f = both_true (fit w) (taken bw (value_named w)) u.1 in
    record {
      fits = f.0;
      named = f.1;
      room = ltb-false m 5 (pass_if (ltb m 5) (BufferTooShort 5) (pass_right (c1 or c24 or c17) c23 e));
    }

-- each number below its bound
pub record Bounds (w : List ℕ) : Type 0 where
  pub aid : at w 0 < 4096
  pub coding : at w 3 < 2
  pub mcs : at w 4 < 16
  pub reserved : at w 5 < 2
  pub spatial : at w 6 < 64
  pub power : at w 7 < 128

pub bounds : (w : List ℕ) → fit w ≡ true → Bounds w
unfolding fit
bounds w e =
    let a = both_true (ltb (at w 0) 4096) _ e in
    let b = both_true (ltb (at w 3) 2) _ a.1 in
    let c = both_true (ltb (at w 4) 16) _ b.1 in
    let d = both_true (ltb (at w 5) 2) _ c.1 in
    let f = both_true (ltb (at w 6) 64) (ltb (at w 7) 128) d.1 in
    record {
      aid = ltb-true (at w 0) 4096 a.0;
      coding = ltb-true (at w 3) 2 b.0;
      mcs = ltb-true (at w 4) 16 c.0;
      reserved = ltb-true (at w 5) 2 d.0;
      spatial = ltb-true (at w 6) 64 f.0;
      power = ltb-true (at w 7) 128 f.1;
    }

-- ---- the numbers that the bytes t of a record have: as many as there are, up to eight, and zeros
module _ (t : List ℕ) (k : ℕ) (w : List ℕ) (ek : k ≡ min (length t / 4) 8) (ew : w ≡ filled (word_at t) k (replicate 8 0)) where
  pub eight_there : length t ≡ 32 → w ≡ words_in t
  unfolding filled
  eight_there e =
      let n : k ≡ 8 = rw e at ek in
      rw e (ew ∙ ap (λ (k : ℕ). filled (word_at t) k (replicate 8 0)) n ∙ append-nil (build (word_at t) 8))

  first_2007 : eqb (at w 0) 2007 ≡ (leb 4 (length t) && eqb (word_at t 0) 2007)
  first_2007 =
      ⊎_elim
      (λ (l : length t < 4).
      let z : k ≡ 0 = omega (arith, ek) in
      rw (ew, get_d_kept (word_at t) k (replicate 8 0) 0 0 (omega (arith, z)), lt-leb 4 (length t) l))
      (λ (l : 4 ≤ length t).
      rw (ew, get_d_filled (word_at t) k (replicate 8 0) 0 0 (omega (arith, ek)), le-leb 4 (length t) l))
      (below_or (length t) 4)

  same_17 : (bw : ℕ) → (eqb (length t) 32 && read_back bw w) ≡ some_entry bw t
  unfolding some_entry
  same_17 bw = go (eqb (length t) 32) refl
    where
      go : (b : Bool) → eqb (length t) 32 ≡ b → (b && read_back bw w) ≡ (b && read_back bw (words_in t))
      go true e = ap (read_back bw) (eight_there (eqb→eq (length t) 32 (rw e tt)))
      go false e = refl

  pub write_chain : (bw m : ℕ) → numbers_outcome bw (length t) w m ≡ record_outcome bw t m
  unfolding numbers_outcome record_outcome above2 says2007 of_none no_entry_room
  write_chain bw m = rw (first_2007, same_17 bw)

-- a lent buffer by the outcome: only what was passed is written
pub after_same : (o : Outcome) (x y d : List ℕ) → (o ≡ Ok tt → x ≡ y) → after o x d ≡ after o y d
after_same (Ok u) x y d f = f refl
after_same (Err a) x y d f = refl

pub passed_32 : (bw : ℕ) (t : List ℕ) (m : ℕ) → record_outcome bw t m ≡ Ok tt → length t ≡ 32
unfolding record_outcome of_none some_entry
passed_32 bw t m e =
    let b = eqb (length t) 32 && read_back bw (words_in t) in
    let p = pass_if (not b) (NotNamed 0) (pass_right (above2 bw or says2007 t) (refuse_if (not b) (NotNamed 0)) (pass_left _ (no_entry_room m) e)) in
    eqb→eq (length t) 32 (rw (both_true (eqb (length t) 32) (read_back bw (words_in t)) (not_false b p)).0 tt)
