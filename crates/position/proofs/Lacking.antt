-- A read gives a value exactly when all its bits are there, and at the place of 3 and 9 it lacks some; a walked channel is short of no bit exactly
-- when it is cut short in neither of the ways that these answers tell.
use Prim.Native.Nat.{ℕ, ◌+◌, ◌*◌, ◌^◌, ◌≤◌, ◌<◌}
use mathlib.Core.Path.{◌≡◌, sym}
use mathlib.Core.Bool.{true}
use mathlib.Core.List.{List}
use native.Mathlib.Decide.{dec_lt}
use native.Mathlib.Omega.{arith}
use lib.ListN.{length}
use borrow.Author.Tests.{lt-ltb, le-ltb, eq-eqb, ne_eqb}
use Rattle.answer.specs.declared.Answer.{Answer}
use Rattle.answer.specs.declared.Refusal.{Refusal}
use Rattle.answer.specs.Answer.{answer_of}
use Rattle.std.specs.Prelude.{Ok, Err}
use Rattle.bits.specs.Bits.{field, lacks}
use Rattle.bits.proofs.Fields.{lacks_none, lacks_inside}
use Rattle.channel.specs.Layout.{present, common, count, end_of}
use Rattle.channel.specs.Fields.{Named, named_fields, nth_field}
use Rattle.channel.proofs.Laws.{end_le}
use Rattle.channel.proofs.Blocks.{end_none}
use Rattle.channel.proofs.Widths.{named_le}
use Rattle.channel.proofs.Fields.{tiles}
use Rattle.faults.specs.Checks.{cut_common, cut_users}
use Rattle.faults.specs.RanOut.{lacks_of, ran_out_at, DidNotFit}
use Rattle.faults.proofs.Passing.{cut_common_pass, pass_cut_common, refuse_cut_common, pass_cut_users, refuse_cut_users, reaches}
use Rattle.faults.proofs.RanOut.{did_not_fit}
use Rattle.std.specs.Prelude.{Ok, Err}
use Rattle.position.specs.Walk.{read_at, first_lacking, whole}
use Rattle.position.proofs.Whole.{count_any}

pub read_whole : (s : List ℕ) (at n : ℕ) → at + n ≤ 8 * length s → read_at s at n ≡ Ok (field s at n, at + n)
unfolding read_at
read_whole s at n h = rw (eq-eqb (lacks s at n) 0 (lacks_none s at n h))

pub read_short : (s : List ℕ) (at n : ℕ) → 0 < n → 8 * length s < at + n → read_at s at n ≡ Err (record { bits = lacks s at n })
unfolding read_at
read_short s at n l h = rw (ne_eqb (lacks s at n) 0 (λ e. omega (arith, lacks_inside s at n l e)))

-- 02, T-03: "Each field reader shall answer how many bits it lacked". Asked for the named fields of a channel in sending order, it gives their
-- values up to the one that did not fit, and of that one how many bits it lacked.
module _ (bw n : ℕ) (s : List ℕ) where
  abbrev the : ℕ → Named
  the j = nth_field (named_fields bw n) j

  pub reads_before : (k : ℕ) → DidNotFit s (named_fields bw n) k → (j : ℕ) → j < k
      → read_at s (the j).first (the j).width ≡ Ok (field s (the j).first (the j).width, (the j).first + (the j).width)
  unfolding read_at
  reads_before k d j l = rw (eq-eqb (lacks_of s (the j)) 0 (d.whole_before j l))

  pub lacks_there : (k : ℕ) → DidNotFit s (named_fields bw n) k → read_at s (the k).first (the k).width ≡ Err (record { bits = lacks_of s (the k) })
  unfolding read_at
  lacks_there k d = rw (ne_eqb (lacks_of s (the k)) 0 (λ e. omega (arith, d.lacks_one)))

  -- each of them may be asked for
  pub may_be_read : n ≤ 72 → (j : ℕ) → ((the j).width ≤ 25) × ((the j).first + (the j).width < 2 ^ 64)
  may_be_read l j = (omega (arith, named_le bw n j), omega (arith, (tiles bw n).inside j, end_le bw n l))

  -- at the place where the bits ran out some of w bits lack
  ran_out_lacks : 8 * length s < end_of bw n → (w m : ℕ) × (1 ≤ m) × (m ≤ w) × (read_at s (ran_out_at s (named_fields bw n)) w ≡ Err (record { bits = m }))
  ran_out_lacks l =
      let (k, _, d, e) = did_not_fit bw n s l in
      ((the k).width, lacks_of s (the k), d.lacks_one, d.lacks_no_more, rw e (lacks_there k d))

-- so at the place of 3, and of 9, the reader says how many bits of a field lack
pub common_lacks : (bw c : ℕ) (s : List ℕ) (x : Refusal) → cut_common bw c s ≡ Err x
    → (w m : ℕ) × (1 ≤ m) × (m ≤ w) × (read_at s (answer_of x).place w ≡ Err (record { bits = m }))
common_lacks bw c s x e =
    let r = refuse_cut_common bw c s x e in
    rw r.2 (ran_out_lacks bw 0 s (omega (arith, r.1, end_none bw)))

pub users_lacks : (bw c : ℕ) (s : List ℕ) (x : Refusal) → cut_users bw c s ≡ Err x
    → (w m : ℕ) × (1 ≤ m) × (m ≤ w) × (read_at s (answer_of x).place w ≡ Err (record { bits = m }))
users_lacks bw c s x e =
    let r = refuse_cut_users bw c s x e in
    rw r.2 (ran_out_lacks bw (count bw c s) s r.1)

-- no bits short: neither of the two
none : (c u : ℕ) → first_lacking c u ≡ 0 → (c ≡ 0) × (u ≡ 0)
unfolding first_lacking
none c u e = go (dec_lt 0 c)
  where
    go : Dec (0 < c) → (c ≡ 0) × (u ≡ 0)
    go (yes l) = let f : c ≡ 0 = rw (lt-ltb 0 c l) at e in absurd (omega arith)
    go (no l) = let f : u ≡ 0 = rw (le-ltb 0 c (omega arith)) at e in (omega arith, f)

inside : (s : List ℕ) (n : ℕ) → lacks s 0 n ≡ 0 → n ≤ 8 * length s
unfolding lacks
inside s n e = omega arith

module _ (bw c : ℕ) (s : List ℕ) (p : present bw c ≡ true) where
  pub lacking_uncut : (whole bw s).lacking ≡ 0 → (cut_common bw c s ≡ Ok tt) × (cut_users bw c s ≡ Ok tt)
  unfolding whole
  lacking_uncut e =
      let z = none (lacks s 0 (common bw)) (lacks s 0 (end_of bw (count bw 1 s))) e in
      let h : end_of bw (count bw c s) ≤ 8 * length s = rw (count_any bw c s p) (inside s (end_of bw (count bw 1 s)) z.1) in
      (pass_cut_common bw c s (λ _. inside s (common bw) z.0), pass_cut_users bw c s (λ _. h))

  pub uncut_lacking : cut_common bw c s ≡ Ok tt → cut_users bw c s ≡ Ok tt → (whole bw s).lacking ≡ 0
  unfolding whole first_lacking
  uncut_lacking e f =
      let h : end_of bw (count bw 1 s) ≤ 8 * length s = rw (sym (count_any bw c s p)) (reaches bw c s p e f) in
      let x : lacks s 0 (common bw) ≡ 0 = lacks_none s 0 (common bw) (omega (arith, cut_common_pass bw c s e p)) in
      let y : lacks s 0 (end_of bw (count bw 1 s)) ≡ 0 = lacks_none s 0 (end_of bw (count bw 1 s)) (omega arith) in
      rw (x, y)
