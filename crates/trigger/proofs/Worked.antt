-- The entry of a record is the one that reads to it, and is found exactly where there is one.
use mathlib.Core.Path.{◌≡◌, refl, sym, ◌∙◌, ap, subst}
use mathlib.Core.Bool.{Bool, true, false, not, ◌&&◌, ◌||◌}
use mathlib.Core.List.{List, [], ◌∷◌}
use Prim.Native.Nat.{ℕ, zero, suc, ◌/◌, ◌%◌, ◌^◌, ◌<◌}
use native.Mathlib.Omega.{arith}
use native.Mathlib.Nat.{div-one, mod-eq_of_lt, zero-add}
use borrow.Author.Tests.{lt-ltb, eqb-true, eq-eqb, ne_eqb}
use lib.Dec.{T, ltb, ltb→lt, eqb}
use lib.ListN.{length}
use Rattle.answer.specs.Answer.{no, refuse_if, ◌or◌}
use Rattle.std.specs.Prelude.{Ok}
use Rattle.answer.specs.Lists.{at, build}
use Rattle.answer.proofs.Lists.{length_build, build_is}
use Rattle.answer.proofs.Order.{pass_left, pass_right, pass_if}
use Rattle.answer.specs.declared.Refusal.TheVariants.{ReservedBitSet, NotNamed, OtherLayout}
use Rattle.bits.specs.Bits.{bit, Small}
use Rattle.bits.specs.Pack.{pack, Fit}
use Rattle.bits.proofs.Fields.{field_lt, field_bit}
use Rattle.bits.proofs.Bytes.{same_bits}
use Rattle.bits.proofs.Pack.{pack_unpack, unpack_pack, unpack_fit, pack_lt}
use Rattle.resource.specs.Names.{name_of, number_of}
use Rattle.resource.proofs.Test.{below, every_below, both_left, both_right}
use Rattle.word_bytes.specs.Bytes.{byte_at, word_at, words_in}
use Rattle.word_bytes.proofs.Back.{words_back, bytes_back}
use Rattle.trigger_values.specs.UserInfo.{info_of, info_widths, part, aid12, b0, value_in, ps160, entry_of}
use Rattle.trigger_values.specs.Values.{resource_of, taken}
use Rattle.trigger.specs.Reading.{is2007, bit_set, not_taken, info_outcome, numbers_of}
use Rattle.record_refusals.specs.Engine.{value_named, fit, read_back}
use Rattle.trigger.specs.Engine.{info_with}
use Rattle.trigger.specs.Worked.{EntryReads, the_entry, some_entry, Worked}
use Rattle.trigger_values.proofs.Back.{value_back, back_value}
use Rattle.trigger_values.proofs.Taken.{value_low}
use Rattle.trigger.proofs.Stages.{both_true, not_false, bounds}
use Rattle.trigger.proofs.Five.{entry_bit, entry_length, entry_small, entry_field}

-- ---- what an accepted entry's 40 bits say
pub record Accepted (bw x : ℕ) : Type 0 where
  pub other_aid : aid12 x ≡ 2007 → ⊥
  pub b0_clear : b0 x ≡ 0
  pub ps160_clear : ps160 x ≡ 0
  pub takes : taken bw (value_in x) ≡ true

either_false : (a b : Bool) → (not a || not b) ≡ false → (a ≡ true) × (b ≡ true)
either_false true true e = (refl, refl)
either_false true false e = absurd (subst (λ (t : Bool). T t) e tt)
either_false false b e = absurd (subst (λ (t : Bool). T t) e tt)

pub accepted : (bw x : ℕ) → info_outcome bw x ≡ Ok tt → Accepted bw x
unfolding info_outcome is2007 bit_set not_taken
accepted bw x e =
    let c24 = refuse_if (eqb (aid12 x) 2007) (OtherLayout 0) in
    let c16 = refuse_if (not (eqb (ps160 x) 0) || not (eqb (b0 x) 0)) (ReservedBitSet 0) in
    let c17 = refuse_if (not (taken bw (value_in x))) (NotNamed 0) in
    let l = pass_left (c24 or c16) c17 e in
    let f = either_false (eqb (ps160 x) 0) (eqb (b0 x) 0) (pass_if (not (eqb (ps160 x) 0) || not (eqb (b0 x) 0)) (ReservedBitSet 0) (pass_right c24 c16 l)) in
    record {
      other_aid = λ h. subst (λ (t : Bool). T t) (pass_if (eqb (aid12 x) 2007) (OtherLayout 0) (pass_left c24 c16 l)) (rw h tt);
      b0_clear = eqb-true (b0 x) 0 f.1;
      ps160_clear = eqb-true (ps160 x) 0 f.0;
      takes = not_false (taken bw (value_in x)) (pass_if (not (taken bw (value_in x))) (NotNamed 0) (pass_right (c24 or c16) c17 e));
    }

pub accept : (bw x : ℕ) → Accepted bw x → info_outcome bw x ≡ Ok tt
unfolding info_outcome is2007 bit_set not_taken
accept bw x a = rw (ne_eqb (aid12 x) 2007 a.other_aid, a.b0_clear, a.ps160_clear, a.takes)

-- ---- the fields of 40 bits, and their record
names_low : T (below (λ v. ltb (name_of (resource_of v)) 4096 && ltb (number_of (resource_of v)) 4096) 128)
unfolding resource_of
names_low = tt

value_small : (x : ℕ) → value_in x < 128
unfolding part
value_small x = omega arith

name_low : (v : ℕ) → v < 128 → (name_of (resource_of v) < 4096) × (number_of (resource_of v) < 4096)
name_low v l =
    let f : ℕ → Bool = λ v. ltb (name_of (resource_of v)) 4096 && ltb (number_of (resource_of v)) 4096 in
    let t = every_below f 128 names_low v l in
    let a = ltb (name_of (resource_of v)) 4096 in
    let b = ltb (number_of (resource_of v)) 4096 in
    (ltb→lt (name_of (resource_of v)) 4096 (both_left a b t), ltb→lt (number_of (resource_of v)) 4096 (both_right a b t))

pub number_low : (x i : ℕ) → i < 8 → at (numbers_of x) i < 4294967296
unfolding numbers_of part
number_low x i l = go i l
  where
    go : (i : ℕ) → i < 8 → at (numbers_of x) i < 4294967296
    go zero l = omega arith
    go (suc zero) l = omega (arith, (name_low (value_in x) (value_small x)).0)
    go (suc (suc zero)) l = omega (arith, (name_low (value_in x) (value_small x)).1)
    go (suc (suc (suc zero))) l = omega arith
    go (suc (suc (suc (suc zero)))) l = omega arith
    go (suc (suc (suc (suc (suc zero))))) l = omega arith
    go (suc (suc (suc (suc (suc (suc zero)))))) l = omega arith
    go (suc (suc (suc (suc (suc (suc (suc zero))))))) l = omega arith
    go (suc (suc (suc (suc (suc (suc (suc (suc i)))))))) l = absurd (omega arith)

module _ (bw x : ℕ) (l : x < 2 ^ 40) (a : Accepted bw x) where
  named_back : value_named (numbers_of x) ≡ value_in x
  unfolding value_named numbers_of
  named_back = value_back bw (value_in x) (rw a.takes tt)

  info_back : info_with (numbers_of x) ≡ x
  unfolding info_with numbers_of part
  info_back =
      let f : ℕ → ℕ → ℕ → ℕ
      = λ z v y. pack info_widths (part x 0 ∷ z ∷ v ∷ part x 3 ∷ part x 4 ∷ part x 5 ∷ part x 6 ∷ part x 7 ∷ y ∷ []) in
      ap (λ (z : ℕ). f z (value_named (numbers_of x)) 0) (sym a.b0_clear)
      ∙ ap (λ (v : ℕ). f (b0 x) v 0) named_back
      ∙ ap (λ (y : ℕ). f (b0 x) (value_in x) y) (sym a.ps160_clear)
      ∙ pack_unpack info_widths x l

  fits_back : read_back bw (numbers_of x) ≡ true
  unfolding read_back fit numbers_of part
  fits_back =
      let f = unpack_fit info_widths x in
      rw (
        lt-ltb (part x 0) 4096 f.0,
        lt-ltb (part x 3) 2 f.1.1.1.0,
        lt-ltb (part x 4) 16 f.1.1.1.1.0,
        lt-ltb (part x 5) 2 f.1.1.1.1.1.0,
        lt-ltb (part x 6) 64 f.1.1.1.1.1.1.0,
        lt-ltb (part x 7) 128 f.1.1.1.1.1.1.1.0,
        named_back,
      ) a.takes

-- ---- an entry that reads to a record is the record's
pub record_words : (x : ℕ) (t : List ℕ) → build (byte_at (numbers_of x)) 32 ≡ t → words_in t ≡ numbers_of x
unfolding numbers_of
record_words x t e =
    let n : length t ≡ 32 = ap length (sym e) ∙ length_build (byte_at (numbers_of x)) 32 in
    ap (λ (k : ℕ). build (word_at t) (k / 4)) n
    ∙ sym (build_is (word_at t) 0 (numbers_of x) 8 refl (λ i l. sym (words_back (numbers_of x) 8 i l (number_low x i l)) ∙ ap (λ (s : List ℕ). word_at s i) e))

same_entry : (e : List ℕ) → Small e → length e ≡ 5 → e ≡ entry_of (info_of e)
same_entry e s l =
    same_bits e (entry_of (info_of e)) s (entry_small (info_of e)) (l ∙ sym (entry_length (info_of e)))
    (λ i h. ap (bit e) (sym (zero-add i)) ∙ sym (field_bit e 0 40 i (omega (arith, l))) ∙ sym (entry_bit (info_of e) i (omega (arith, l))))

-- ---- a record of eight numbers, each of which fits, is that of its 40 bits
module _ (bw a0 a1 a2 a3 a4 a5 a6 a7 : ℕ) where
  abbrev eight : List ℕ
  eight = a0 ∷ a1 ∷ a2 ∷ a3 ∷ a4 ∷ a5 ∷ a6 ∷ a7 ∷ []

  abbrev fields : List ℕ
  fields = a0 ∷ 0 ∷ value_named eight ∷ a3 ∷ a4 ∷ a5 ∷ a6 ∷ a7 ∷ 0 ∷ []

  module _ (f : fit eight ≡ true) (t : taken bw (value_named eight) ≡ true) where
    fields_fit : Fit info_widths fields
    fields_fit =
        let b = bounds eight f in
        (b.aid, (omega arith, (value_low bw (value_named eight) t, (b.coding, (b.mcs, (b.reserved, (b.spatial, (b.power, (omega arith, tt)))))))))

    info_low : info_with eight < 2 ^ 40
    unfolding info_with
    info_low = pack_lt info_widths fields fields_fit

    part_is : (k : ℕ) → part (info_with eight) k ≡ at fields k
    unfolding info_with part
    part_is k = ap (λ (l : List ℕ). at l k) (unpack_pack info_widths fields fields_fit)

    resource_is : (name_of (resource_of (value_named eight)) ≡ a1) × (number_of (resource_of (value_named eight)) ≡ a2)
    unfolding value_named
    resource_is = back_value bw a1 a2 (rw t tt)

    numbers_are : numbers_of (info_with eight) ≡ eight
    unfolding numbers_of
    numbers_are =
        rw (part_is 0, part_is 2, resource_is.0, resource_is.1, part_is 3, part_is 4, part_is 5, part_is 6, part_is 7)

    accepted_is : (a0 ≡ 2007 → ⊥) → Accepted bw (info_with eight)
    accepted_is n = record {
      other_aid = λ e. n (sym (part_is 0) ∙ e);
      b0_clear = part_is 1;
      ps160_clear = part_is 8;
      takes = ap (taken bw) (part_is 2) ∙ t;
    }

-- the words of 32 bytes
words_are : (t : List ℕ) → length t ≡ 32
    → words_in t ≡ word_at t 0 ∷ word_at t 1 ∷ word_at t 2 ∷ word_at t 3 ∷ word_at t 4 ∷ word_at t 5 ∷ word_at t 6 ∷ word_at t 7 ∷ []
unfolding build
words_are t n = ap (λ (k : ℕ). build (word_at t) (k / 4)) n

info_of_entry : (x : ℕ) → x < 2 ^ 40 → info_of (entry_of x) ≡ x
info_of_entry x l = entry_field x 0 40 (omega arith) ∙ ap (λ (y : ℕ). y % 2 ^ 40) (div-one x) ∙ mod-eq_of_lt l

bytes_are : (t : List ℕ) → Small t → length t ≡ 32 → build (byte_at (words_in t)) 32 ≡ t
bytes_are t s n = sym (build_is (byte_at (words_in t)) 0 t 32 n (λ i l. sym (bytes_back t i s.small (omega (arith, n)))))

module _ (bw : ℕ) (t : List ℕ) where
  pub the_entry_fact : (e : List ℕ) → Small e → EntryReads bw e t → e ≡ the_entry t
  unfolding the_entry
  the_entry_fact e s r =
      let x = info_of e in
      same_entry e s r.five
      ∙ ap entry_of (sym (info_back bw x (field_lt e 0 40) (accepted bw x r.accepted)) ∙ ap info_with (sym (record_words x t r.exactly)))

  pub found : (e : List ℕ) → EntryReads bw e t → some_entry bw t ≡ true
  unfolding some_entry
  found e r =
      let x = info_of e in
      let n : length t ≡ 32 = ap length (sym r.exactly) ∙ length_build (byte_at (numbers_of x)) 32 in
      ap (λ (b : Bool). b && read_back bw (words_in t)) (eq-eqb (length t) 32 n)
      ∙ ap (read_back bw) (record_words x t r.exactly)
      ∙ fits_back bw x (field_lt e 0 40) (accepted bw x r.accepted)

  -- ---- and what is found reads to it
  pub reads_to : Small t → (at (words_in t) 0 ≡ 2007 → ⊥) → some_entry bw t ≡ true → EntryReads bw (the_entry t) t
  unfolding some_entry read_back the_entry
  reads_to s m e =
      let p = both_true (eqb (length t) 32) (fit (words_in t) && taken bw (value_named (words_in t))) e in
      let n = eqb-true (length t) 32 p.0 in
      let w = words_are t n in
      let q = both_true (fit (words_in t)) (taken bw (value_named (words_in t))) p.1 in
      let f = ap fit (sym w) ∙ q.0 in
      let u = ap (λ (l : List ℕ). taken bw (value_named l)) (sym w) ∙ q.1 in
      let i = ap info_with w in
      let x = ap (λ (y : ℕ). info_of (entry_of y)) i ∙ info_of_entry _ (info_low bw _ _ _ _ _ _ _ _ f u) in
      record {
        five = entry_length (info_with (words_in t));
        accepted = ap (info_outcome bw) x ∙ accept bw _ (accepted_is bw _ _ _ _ _ _ _ _ f u (λ h. m (ap (λ (l : List ℕ). at l 0) w ∙ h)));
        exactly = ap (λ (y : ℕ). build (byte_at (numbers_of y)) 32) x
            ∙ ap (λ (l : List ℕ). build (byte_at l) 32) (numbers_are bw _ _ _ _ _ _ _ _ f u ∙ sym w)
            ∙ bytes_are t s n;
      }

  pub small_entry : Small (the_entry t)
  unfolding the_entry
  small_entry = entry_small (info_with (words_in t))

  pub worked : Worked bw t
  worked = record {
    some_entry_fact = λ s n. record {
      yes = λ e. (the_entry t, small_entry, reads_to s n e);
      no = λ e h. subst (λ (b : Bool). T b) (sym (found h.0 h.2) ∙ e) tt;
    };
    the_entry_fact = the_entry_fact;
  }
