-- The owner that the engine works out is the one that owns the field, in any plan that signals the row.
use mathlib.Core.Path.{◌≡◌, sym, ◌∙◌, ap, subst}
use mathlib.Core.List.{List}
use Prim.Native.Nat.{ℕ, ◌+◌, ◌%◌, ◌<◌}
use native.Mathlib.Omega.{arith}
use lib.ListN.{length}
use Rattle.answer.specs.Lists.{at}
use Rattle.kinds.specs.Kinds.{family, span}
use Rattle.kinds.specs.Signals.{Place, Fits, MustName, Signals}
use Rattle.plan.specs.Worked.{the_plan}
use Rattle.plan.proofs.Demand.{only_plan_lem}
use Rattle.records.specs.declared.Record.{Record}
use Rattle.records.specs.Records.{lead}
use Rattle.records.specs.Owns.{fields_before, number, Owns, of_piece, of_place}
use Rattle.records.specs.Worked.{the_owner, Worked}
use Rattle.records.proofs.Demand.{only_list}
use Rattle.records.proofs.Listing.{same_records}
use Rattle.records.proofs.Owners.{one_owner, owner_owns}
use Rattle.records.proofs.Shares.{owner_listed}

-- a plan that agrees at every position with one that signals the row signals it, and has the same owners
module _ (o o' row : ℕ → ℕ) (n : ℕ) (s : Signals o row 0 n) (e : (p : ℕ) → p < n → o p ≡ o' p) where
  same_signals : Signals o' row 0 n
  same_signals = record {
    fits = λ p l u. subst (λ (d : ℕ). Fits d p (row p)) (e p u) (s.fits p l u);
    entire = λ p q l u w.
        let x = s.entire p q l u (subst (λ (d : ℕ). Place d p q) (sym (e p u)) w) in
        (x.0, x.1, sym (e q x.1) ∙ x.2 ∙ e p u);
    named = λ p l u m.
        let x = s.named p l u (subst (λ (d : ℕ). MustName d) (sym (e p u)) m) in
        (x.0, subst (λ (d : ℕ). Place d p x.0) (e p u) x.1, x.2 ∙ ap family (e p u));
  }

  same_number : (p m : ℕ) → p < n → number o row p m ≡ number o' row p m
  same_number p m h = ap (λ (rs : List Record). length rs + m) (same_records o o' row p (λ q u. e q (omega arith)))

  pub same_owner : (i c j : ℕ) → Owns o row n i c j → Owns o' row n i c j
  same_owner i c j (of_piece p k w x y z) = of_piece p k w (sym (e p w.inside) ∙ x) y (z ∙ same_number p k w.inside)
  same_owner i c j (of_place p k q w x y z v) =
      let h : o p ≡ o' p = e p w.inside in
      let u : q < n = (s.entire p q (omega arith) w.inside y).1 in
      of_place p k q w x (subst (λ (d : ℕ). Place d p q) h y) (subst (λ (d : ℕ). q % span d ≡ lead d) h z) (v ∙ same_number q 0 u)

pub worked : (o : ℕ → ℕ) (row : List ℕ) → Signals o (at row) 0 (length row)
    → (c j : ℕ) → j < fields_before c (at row) (length row) → Worked o row c j
worked o row s c j h =
    let e : (p : ℕ) → p < length row → o p ≡ the_plan row p = only_plan_lem row o s in
    let t : Signals (the_plan row) (at row) 0 (length row) = same_signals o (the_plan row) (at row) (length row) s e in
    let w = owner_owns (the_plan row) (at row) (length row) t c j h in
    record {
      listed = rw (only_list row o s) (owner_listed (the_plan row) (at row) (length row) t c j h);
      owns = same_owner (the_plan row) o (at row) (length row) t (λ p u. sym (e p u)) (the_owner row c j) c j w;
      only = λ i v. one_owner (the_plan row) (at row) (length row) i (the_owner row c j) c j
          (same_owner o (the_plan row) (at row) (length row) s e i c j v) w;
    }
