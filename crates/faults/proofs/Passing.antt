-- What each check says where it passes, and what suffices for it to pass; of 3 and 9 the same of a refusal.
use mathlib.Core.Path.{◌≡◌, refl, sym, ◌∙◌}
use mathlib.Core.Bool.{Bool, true, false, not, ◌&&◌, ◌||◌}
use mathlib.Core.List.{List}
use Prim.Native.Nat.{ℕ, ◌+◌, ◌*◌, ◌≤◌, ◌<◌}
use native.Mathlib.Decide.{dec_lt}
use native.Mathlib.Omega.{arith}
use lib.Dec.{ltb}
use lib.ListN.{length}
use borrow.Author.Tests.{lt-ltb, le-ltb, ltb-true, ltb-false, not-false}
use Rattle.answer.specs.Answer as A
use Rattle.answer.specs.Answer.{refuse_if}
use Rattle.answer.specs.Least.{least}
use Rattle.answer.specs.declared.Answer.{Answer}
use Rattle.std.specs.Prelude.{Ok, Err}
use Rattle.answer.proofs.Numbers.{Only, only_if, only_or}
use Rattle.answer.proofs.Order.{pass_left, pass_right, or_pass, pass_if, if_pass, refuse_if_lem}
use Rattle.answer.proofs.Least.{least_none, least_all, least_le}
use Rattle.answer.specs.declared.Refusal.{Refusal}
use Rattle.answer.specs.declared.Refusal.TheVariants.{WrongLength, CommonFieldCut, WrongCommonCheck}
use Rattle.answer.specs.declared.Refusal.TheVariants.{WrongOverflow, ValueNotCarried, UserBlocksCut, WrongUserCheck}
use Rattle.bits.specs.Bits.{differs}
use Rattle.bits.proofs.Differs.{differ_nowhere, nowhere_same, differs_from_0}
use Rattle.block.specs.Check.{Right}
use Rattle.block.proofs.Checks.{right_says, says_right}
use Rattle.resource.specs.Values.{carried}
use Rattle.channel.specs.Layout.{present, overflow, ltf_symbols, first_bits, second_at, second_bits, has_second, common}
use Rattle.channel.specs.Layout.{subfields_in, value_at, value, count, block_at, blocks, covered, end_of}
use Rattle.channel.specs.Fields.{named_fields}
use Rattle.channel.proofs.Blocks.{end_none}
use Rattle.faults.specs.RanOut.{ran_out_at}
use Rattle.faults.specs.Checks.{too_long, short_common, cut_common, wrong_first, wrong_second, wrong_common, overflow_differs, uncarried}
use Rattle.faults.specs.Checks.{first_uncarried, not_carried, short_users, cut_users, wrong_block, first_wrong, wrong_users_of, wrong_users}

-- ---- tests

-- a test guarded by another
pub guarded : (t u : Bool) → t && u ≡ false → t ≡ true → u ≡ false
guarded true u e f = e
guarded false u e f = absurd (let z : ◌≡◌ {A = ℕ} 0 1 = cc in omega arith)

pub guard : (t u : Bool) → (t ≡ true → u ≡ false) → t && u ≡ false
guard true u h = h refl
guard false u h = refl

pub neither : (t u : Bool) → t || u ≡ false → (t ≡ false) × (u ≡ false)
neither true u e = absurd (let z : ◌≡◌ {A = ℕ} 0 1 = cc in omega arith)
neither false u e = (refl, e)

both : (t u : Bool) → t ≡ true → u ≡ true → t && u ≡ true
both t u p q = rw (p, q)

pub of_both : (t u : Bool) → t && u ≡ true → (t ≡ true) × (u ≡ true)
of_both true u e = (refl, e)
of_both false u e = absurd (let z : ◌≡◌ {A = ℕ} 0 1 = cc in omega arith)

not_of : (t : Bool) → t ≡ true → not t ≡ false
not_of t e = rw e

of_not : (t : Bool) → t ≡ false → not t ≡ true
of_not t e = rw e

-- a search that finds nothing
none_below : (p : ℕ → Bool) (n : ℕ) → ltb (least p n) n ≡ false → (k : ℕ) → k < n → p k ≡ false
none_below p n e k l =
    let h : least p n ≡ n = omega (arith, ltb-false (least p n) n e, least_le p n) in
    least_all p n h k l

below_none : (p : ℕ → Bool) (n : ℕ) → ((k : ℕ) → k < n → p k ≡ false) → ltb (least p n) n ≡ false
below_none p n h = le-ltb (least p n) n (omega (arith, least_none p n h))

-- ---- 2

pub too_long_pass : (bw c : ℕ) (s : List ℕ) → too_long bw c s ≡ Ok tt → (length s ≤ 512) × (present bw c ≡ false → length s ≡ 0)
unfolding too_long
too_long_pass bw c s e =
    let n = neither (ltb 512 (length s)) (not (present bw c) && ltb 0 (length s)) (pass_if _ _ e) in (
      ltb-false 512 (length s) n.0,
      λ a. omega (arith, ltb-false 0 (length s) (guarded (not (present bw c)) (ltb 0 (length s)) n.1 (of_not (present bw c) a))),
    )

pub pass_too_long : (bw c : ℕ) (s : List ℕ) → length s ≤ 512 → (present bw c ≡ false → length s ≡ 0) → too_long bw c s ≡ Ok tt
unfolding too_long
pass_too_long bw c s l h =
    if_pass (ltb 512 (length s) || (not (present bw c) && ltb 0 (length s))) (WrongLength c)
    (rw (le-ltb 512 (length s) l)
    (guard (not (present bw c)) (ltb 0 (length s)) (λ e. le-ltb 0 (length s) (omega (arith, h (back (present bw c) e))))))
  where
    back : (t : Bool) → not t ≡ true → t ≡ false
    back true e = sym e
    back false e = refl

pub too_long_only : (bw c : ℕ) (s : List ℕ) → Only 2 (too_long bw c s)
unfolding too_long
too_long_only bw c s = only_if (ltb 512 (length s) || (not (present bw c) && ltb 0 (length s))) (WrongLength c)

-- ---- 3

pub cut_common_pass : (bw c : ℕ) (s : List ℕ) → cut_common bw c s ≡ Ok tt → present bw c ≡ true → common bw ≤ 8 * length s
unfolding cut_common
cut_common_pass bw c s e p =
    ltb-false (8 * length s) (common bw) (guarded (present bw c) (ltb (8 * length s) (common bw)) (pass_if _ _ e) p)

pub pass_cut_common : (bw c : ℕ) (s : List ℕ) → (present bw c ≡ true → common bw ≤ 8 * length s) → cut_common bw c s ≡ Ok tt
unfolding cut_common
pass_cut_common bw c s h =
    if_pass _ _ (guard (present bw c) (ltb (8 * length s) (common bw)) (λ p. le-ltb (8 * length s) (common bw) (h p)))

-- its test decides, and what a refusal says
pub cut_common_tested : (bw c : ℕ) (s : List ℕ) (t : Bool) → short_common bw c s ≡ t
    → cut_common bw c s ≡ refuse_if t (CommonFieldCut c (ran_out_at s (named_fields bw 0)))
unfolding cut_common
cut_common_tested bw c s t e = rw e refl

pub refuse_cut_common : (bw c : ℕ) (s : List ℕ) (x : Refusal) → cut_common bw c s ≡ Err x
    → (present bw c ≡ true) × (8 * length s < common bw) × (x ≡ CommonFieldCut c (ran_out_at s (named_fields bw 0)))
unfolding cut_common
refuse_cut_common bw c s x e =
    let r = refuse_if_lem (short_common bw c s) (CommonFieldCut c (ran_out_at s (named_fields bw 0))) x e in
    let b = of_both (present bw c) (ltb (8 * length s) (common bw)) r.0 in
    (b.0, ltb-true (8 * length s) (common bw) b.1, sym r.1)

pub cut_common_only : (bw c : ℕ) (s : List ℕ) → Only 3 (cut_common bw c s)
unfolding cut_common
cut_common_only bw c s = only_if (short_common bw c s) (CommonFieldCut c (ran_out_at s (named_fields bw 0)))

-- ---- 4

-- the first check is right, and so is the second where there is one
pub record CommonRight (bw : ℕ) (s : List ℕ) : Type 0 where
  pub first_right : Right s 0 (first_bits bw)
  pub second_right : has_second bw ≡ true → Right s (second_at bw) (second_bits bw)

pub wrong_common_pass : (bw c : ℕ) (s : List ℕ) → wrong_common bw c s ≡ Ok tt → present bw c ≡ true → CommonRight bw s
unfolding wrong_common wrong_first wrong_second
wrong_common_pass bw c s e p =
    let f = pass_if _ _ (pass_left _ (refuse_if (wrong_second bw c s) (WrongCommonCheck c (second_at bw + second_bits bw))) e) in
    let g = pass_if _ _ (pass_right (refuse_if (wrong_first bw c s) (WrongCommonCheck c (first_bits bw))) _ e) in
    record {
      first_right = right_says s 0 (first_bits bw) (not-false _ (guarded (present bw c) _ f p));
      second_right = λ h.
          right_says s (second_at bw) (second_bits bw)
          (not-false _ (guarded (present bw c && has_second bw) _ g (both (present bw c) (has_second bw) p h)));
    }

pub pass_wrong_common : (bw c : ℕ) (s : List ℕ) → (present bw c ≡ true → CommonRight bw s) → wrong_common bw c s ≡ Ok tt
unfolding wrong_common wrong_first wrong_second
pass_wrong_common bw c s h =
    or_pass _ _
    (if_pass _ _ (guard (present bw c) _ (λ p. not_of _ (says_right s 0 (first_bits bw) (h p).first_right))))
    (if_pass _ _ (go (present bw c) (has_second bw) (λ p q. not_of _ (says_right s (second_at bw) (second_bits bw) ((h p).second_right q)))))
  where
    go : (t u : Bool) {w : Bool} → (t ≡ true → u ≡ true → w ≡ false) → t && u && w ≡ false
    go true true k = k refl refl
    go true false k = refl
    go false u k = refl

pub wrong_common_only : (bw c : ℕ) (s : List ℕ) → Only 4 (wrong_common bw c s)
unfolding wrong_common
wrong_common_only bw c s = only_or (only_if (wrong_first bw c s) (WrongCommonCheck c (first_bits bw))) (only_if (wrong_second bw c s)
    (WrongCommonCheck c (second_at bw + second_bits bw)))

-- ---- 5

pub record OverflowRight (bw : ℕ) (a b : List ℕ) : Type 0 where
  pub few_symbols : ltf_symbols a ≤ 4
  pub overflow_same : present bw 2 ≡ true → overflow a ≡ overflow b

pub overflow_differs_pass : (bw : ℕ) (a b : List ℕ) → overflow_differs bw a b ≡ Ok tt → OverflowRight bw a b
unfolding overflow_differs
overflow_differs_pass bw a b e =
    let d = least (differs a b) 17 in
    let f = pass_if _ _ (pass_left _ (refuse_if (present bw 2 && ltb d 17) (WrongOverflow 2 d)) e) in
    let g = pass_if _ _ (pass_right (refuse_if (ltb 4 (ltf_symbols a)) (WrongOverflow 1 6)) _ e) in
    record {
      few_symbols = ltb-false 4 (ltf_symbols a) f;
      overflow_same = λ p.
          let l : 17 ≤ d = ltb-false d 17 (guarded (present bw 2) (ltb d 17) g p) in
          let q : d ≡ 17 = omega (arith, least_le (differs a b) 17) in
          nowhere_same a b 0 17 (differs_from_0 a b 17 ∙ q);
    }

pub pass_overflow_differs : (bw : ℕ) (a b : List ℕ) → OverflowRight bw a b → overflow_differs bw a b ≡ Ok tt
unfolding overflow_differs
pass_overflow_differs bw a b h =
    or_pass _ _
    (if_pass _ _ (le-ltb 4 (ltf_symbols a) h.few_symbols))
    (if_pass _ _ (guard (present bw 2) _ (λ p.
    let q : least (differs a b) 17 ≡ 17 = sym (differs_from_0 a b 17) ∙ differ_nowhere a b 0 17 (h.overflow_same p) in
    le-ltb (least (differs a b) 17) 17 (omega arith))))

pub overflow_differs_only : (bw : ℕ) (a b : List ℕ) → Only 5 (overflow_differs bw a b)
unfolding overflow_differs
overflow_differs_only bw a b =
    only_or (only_if (ltb 4 (ltf_symbols a)) (WrongOverflow 1 6)) (only_if (present bw 2 && ltb (least (differs a b) 17) 17) (WrongOverflow 2 (least
    (differs a b) 17)))

-- ---- 6

pub not_carried_pass : (bw c : ℕ) (s : List ℕ) → not_carried bw c s ≡ Ok tt → (k : ℕ) → k < subfields_in bw c → carried (value bw s k) ≡ true
unfolding not_carried first_uncarried uncarried
not_carried_pass bw c s e k l = not-false _ (none_below (uncarried bw s) (subfields_in bw c) (pass_if _ _ e) k l)

pub pass_not_carried : (bw c : ℕ) (s : List ℕ) → ((k : ℕ) → k < subfields_in bw c → carried (value bw s k) ≡ true) → not_carried bw c s ≡ Ok tt
unfolding not_carried first_uncarried uncarried
pass_not_carried bw c s h = if_pass _ _ (below_none (uncarried bw s) (subfields_in bw c) (λ k l. not_of _ (h k l)))

pub not_carried_only : (bw c : ℕ) (s : List ℕ) → Only 6 (not_carried bw c s)
unfolding not_carried
not_carried_only bw c s = only_if (ltb (first_uncarried bw c s) (subfields_in bw c)) (ValueNotCarried c (value_at bw (first_uncarried bw c s)))

-- ---- 9

-- the channel reaches its last block's end
pub cut_users_pass : (bw c : ℕ) (s : List ℕ) → cut_users bw c s ≡ Ok tt → 0 < count bw c s → end_of bw (count bw c s) ≤ 8 * length s
unfolding cut_users
cut_users_pass bw c s e h =
    ltb-false (8 * length s) (end_of bw (count bw c s))
    (guarded (ltb 0 (count bw c s)) _ (pass_if _ _ e) (lt-ltb 0 (count bw c s) h))

pub pass_cut_users : (bw c : ℕ) (s : List ℕ) → (0 < count bw c s → end_of bw (count bw c s) ≤ 8 * length s) → cut_users bw c s ≡ Ok tt
unfolding cut_users
pass_cut_users bw c s h =
    if_pass _ _ (guard (ltb 0 (count bw c s)) _ (λ p. le-ltb (8 * length s) (end_of bw (count bw c s)) (h (ltb-true 0 (count bw c s) p))))

pub cut_users_tested : (bw c : ℕ) (s : List ℕ) (n : ℕ) (t : Bool) → n ≡ count bw c s → short_users bw n s ≡ t
    → cut_users bw c s ≡ refuse_if t (UserBlocksCut c (ran_out_at s (named_fields bw n)))
unfolding cut_users
cut_users_tested bw c s n t f e = rw (← f, e) refl

pub refuse_cut_users : (bw c : ℕ) (s : List ℕ) (x : Refusal) → cut_users bw c s ≡ Err x
    → (0 < count bw c s) × (8 * length s < end_of bw (count bw c s)) × (x ≡ UserBlocksCut c (ran_out_at s (named_fields bw (count bw c s))))
unfolding cut_users
refuse_cut_users bw c s x e =
    let n = count bw c s in
    let r = refuse_if_lem (short_users bw n s) (UserBlocksCut c (ran_out_at s (named_fields bw n))) x e in
    let b = of_both (ltb 0 n) (ltb (8 * length s) (end_of bw n)) r.0 in
    (ltb-true 0 n b.0, ltb-true (8 * length s) (end_of bw n) b.1, sym r.1)

pub cut_users_only : (bw c : ℕ) (s : List ℕ) → Only 9 (cut_users bw c s)
unfolding cut_users
cut_users_only bw c s = only_if (short_users bw (count bw c s) s) (UserBlocksCut c (ran_out_at s (named_fields bw (count bw c s))))

-- with 3: a channel that is there reaches its end, fields or none
pub reaches : (bw c : ℕ) (s : List ℕ) → present bw c ≡ true → cut_common bw c s ≡ Ok tt → cut_users bw c s ≡ Ok tt → end_of bw (count bw c s) ≤ 8 * length s
reaches bw c s p e f = go (count bw c s) (cut_users_pass bw c s f)
  where
    go : (n : ℕ) → (0 < n → end_of bw n ≤ 8 * length s) → end_of bw n ≤ 8 * length s
    go n h = by (dec_lt 0 n)
      where
        none : (n : ℕ) → n ≡ 0 → end_of bw n ≤ 8 * length s
        none n z = rw (z, end_none bw) (cut_common_pass bw c s e p)

        by : Dec (0 < n) → end_of bw n ≤ 8 * length s
        by (yes l) = h l
        by (no l) = none n (omega arith)

-- ---- 10

pub wrong_users_pass : (bw c : ℕ) (s : List ℕ) → wrong_users bw c s ≡ Ok tt → (b : ℕ) → b < blocks (count bw c s)
    → Right s (block_at bw b) (covered (count bw c s) b)
unfolding wrong_users wrong_users_of first_wrong wrong_block
wrong_users_pass bw c s e b l =
    right_says s (block_at bw b) (covered (count bw c s) b)
    (not-false _ (none_below (wrong_block bw s (count bw c s)) (blocks (count bw c s)) (pass_if _ _ e) b l))

pub pass_wrong_users : (bw c : ℕ) (s : List ℕ)
    → ((b : ℕ) → b < blocks (count bw c s) → Right s (block_at bw b) (covered (count bw c s) b)) → wrong_users bw c s ≡ Ok tt
unfolding wrong_users wrong_users_of first_wrong wrong_block
pass_wrong_users bw c s h =
    if_pass _ _
    (below_none (wrong_block bw s (count bw c s)) (blocks (count bw c s))
    (λ b l. not_of _ (says_right s (block_at bw b) (covered (count bw c s) b) (h b l))))

pub wrong_users_only : (bw c : ℕ) (s : List ℕ) → Only 10 (wrong_users bw c s)
unfolding wrong_users wrong_users_of
wrong_users_only bw c s =
    let n = count bw c s in
    let b = first_wrong bw s n in
    only_if (ltb b (blocks n)) (WrongUserCheck c (block_at bw b + covered n b))
