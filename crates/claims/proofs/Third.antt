-- The third demand holds.
use mathlib.Core.Path.{◌≡◌, sym, subst}
use mathlib.Core.Logic.{⊎_elim}
use mathlib.Core.List.{List}
use Prim.Native.Nat.{ℕ, ◌^◌, ◌≤◌, ◌<◌}
use native.Mathlib.Omega.{arith}
use lib.ListN.{length}
use Rattle.std.specs.Prelude.{Ok}
use Rattle.answer.specs.Lists.{at}
use Rattle.kinds.specs.Signals.{Signals}
use Rattle.plan.specs.Answers.{Laid, accepted}
use Rattle.plan.proofs.Laid.{laid_same}
use Rattle.plan.proofs.Demand.{accepted_plan, one_plan, refused_layout}
use Rattle.records.specs.Engine.{owner_of}
use Rattle.records.proofs.Listing.{same_records}
use Rattle.records.proofs.Owners.{one_owner, owner_owns}
use Rattle.records.proofs.Tones.{no_shared, none_punctured, record_right}
use Rattle.records.specs.Records.{records_from}
use Rattle.records.specs.Whose.{Takes242, Whose, Ordered}
use Rattle.records.proofs.Shares.{owner_listed}
use Rattle.records.proofs.Demand.{shared}
use Rattle.records.proofs.Whose.{takes_242, ordered, whose}
use Rattle.records.proofs.FieldsOf.{at_most_eight_fact, turns}
use Rattle.claims.proofs.Channels.{some_channels}
use Rattle.claims.proofs.Answers.{all_channels, no_reader_always_refuses}
use Rattle.claims.specs.Third.{Apart, NotPunctured, RightTones, Third}

-- for every bandwidth code b, 0 to 4, and every row of the number of values that it needs
pub third_demand : (b : ℕ) (row : List ℕ) → b ≤ 4 → length row ≡ 2 ^ b → Third b row
third_demand b row l e = record {
  is_accepted = λ x w p. laid_same row x (Ok tt) w (accepted p);
  has_plan = λ x w q. accepted_plan row (subst (Laid row) q w);
  only_that = λ o o' s t. (one_plan row o o' s t, same_records o o' (at row) (length row) (one_plan row o o' s t));
  refused_otherwise = λ x w n. ⊎_elim (λ q. absurd (n (accepted_plan row (subst (Laid row) q w)))) (λ r. r) (refused_layout row x w);
  apart = λ o. subst (λ (n : ℕ). Signals o (at row) 0 n → Apart o (at row) n) (sym e) (λ t. no_shared o (at row) b (omega arith) t);
  not_punctured = λ o. subst (λ (n : ℕ). Signals o (at row) 0 n → NotPunctured o (at row) n) (sym e) (λ t. none_punctured o (at row) b (omega arith) t);
  punctured_takes = subst (λ (n : ℕ). (q : ℕ) → q < n → Takes242 n q) (sym e) (λ q i. takes_242 b (omega arith) q i);
  right_tones = λ o. subst (λ (n : ℕ). Signals o (at row) 0 n → RightTones o (at row) n) (sym e) (λ t. record_right o (at row) b (omega arith) t);
  in_order = λ o. subst (λ (n : ℕ). Signals o (at row) 0 n → Ordered o n (records_from o (at row) n)) (sym e) (λ t. ordered o (at row) b (omega arith) t);
  one_resource = λ o s c j h. (
    owner_of o (at row) c (length row) j,
    owner_listed o (at row) (length row) s c j h,
    owner_owns o (at row) (length row) s c j h,
    λ i' w. one_owner o (at row) (length row) i' (owner_of o (at row) c (length row) j) c j w (owner_owns o (at row) (length row) s c j h),
  );
  whose_tones = λ o. subst (λ (n : ℕ). Signals o (at row) 0 n → Whose o (at row) n (records_from o (at row) n)) (sym e)
      (λ t. whose o (at row) b (omega arith) t);
  all_shared = λ o. shared o (at row) (length row);
  eight_owned = λ o. at_most_eight_fact o (at row) (length row);
  fields_of = λ o. turns o (at row) (length row);
  row_is_carried = λ w. let g = some_channels b row w in (g.0, g.1, g.2, g.3, g.4);
  row_is_answered = all_channels row;
  plan_is_read = no_reader_always_refuses b row;
}
