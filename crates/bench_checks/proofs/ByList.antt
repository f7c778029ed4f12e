-- A plan that is given as a list, of the kind that each position is given to, and the test that it signals a row.
use mathlib.Core.Bool.{Bool, ◌&&◌}
use mathlib.Core.List.{List}
use Prim.Native.Nat.{ℕ, ◌+◌, ◌*◌, ◌/◌, ◌<◌}
use lib.Dec.{T, ltb, leb, eqb, ltb→lt, leb→le, eqb→eq}
use Rattle.answer.specs.Least.{least}
use Rattle.answer.specs.Lists.{at}
use Rattle.answer.proofs.Least.{least_holds}
use Rattle.resource.proofs.Test.{both_left, both_right, wherever, met, below, every_below}
use Rattle.kinds.specs.Kinds.{family, span, takes, must_name}
use Rattle.kinds.specs.Signals.{Fits, Signals}
use Rattle.kinds.specs.Fields.{together}
use Rattle.kinds.proofs.Tests.{holds, is_true}
use Rattle.kinds.proofs.Table.{span_some}
use Rattle.kinds.proofs.Places.{at_span, at_place}
use Rattle.kinds.proofs.Fitting.{known}
use Rattle.segments.specs.Engine.{fitting}
use Rattle.segments.proofs.Found.{fitting_fits}
use Rattle.plan.specs.Answers.{SomePlanOfEight}
use Rattle.plan.specs.Engine.{entirely}
use Rattle.plan.proofs.Found.{entirely_all}

-- what it gives position p to fits, is given all its places, and is named there if it must be
abbrev pub named_there : List ℕ → ℕ → ℕ → ℕ → Bool
named_there row c p j = takes c j && eqb (at row (span c * (p / span c) + j) / 8) (family c)

abbrev pub signals_at : List ℕ → List ℕ → ℕ → ℕ → Bool
signals_at row ks b p =
    fitting (at ks p) p (at row p)
    && (entirely (at ks) 0 b (at ks p) p
    && wherever (must_name (at ks p)) (ltb (least (named_there row (at ks p) p) (span (at ks p))) (span (at ks p))))

-- .. at each position below b
abbrev pub signals : List ℕ → List ℕ → ℕ → Bool
signals row ks b = below (signals_at row ks b) b

abbrev pub at_most : List ℕ → List ℕ → ℕ → Bool
at_most row ks p = leb (together (at ks p) (at row) p) 8

module _ (row ks : List ℕ) (b : ℕ) (t : T (signals row ks b)) where
  at_p : (p : ℕ) → p < b → T (signals_at row ks b p)
  at_p = every_below (signals_at row ks b) b t

  fits_there : (p : ℕ) → p < b → Fits (at ks p) p (at row p)
  fits_there p u = fitting_fits (at ks p) p (at row p) (is_true _ (both_left (fitting (at ks p) p (at row p)) _ (at_p p u)))

  its_span : (p : ℕ) → p < b → 0 < span (at ks p)
  its_span p u = span_some (at ks p) (known (at ks p) p (at row p) (fits_there p u))

  rest_p : (p : ℕ) → p < b → T (entirely (at ks) 0 b (at ks p) p
      && wherever (must_name (at ks p)) (ltb (least (named_there row (at ks p) p) (span (at ks p))) (span (at ks p))))
  rest_p p u = both_right (fitting (at ks p) p (at row p)) _ (at_p p u)

  pub list_signals : Signals (at ks) (at row) 0 b
  list_signals = record {
    fits = λ p l u. fits_there p u;
    entire = λ p q l u w.
        entirely_all (at ks) 0 b (at ks p) p (its_span p u) (is_true _ (both_left (entirely (at ks) 0 b (at ks p) p) _ (rest_p p u))) q w;
    named = λ p l u m.
        let c = at ks p in
        let z = its_span p u in
        let k : least (named_there row c p) (span c) < span c
        = ltb→lt _ _ (met (must_name c) _ (both_right (entirely (at ks) 0 b c p) _ (rest_p p u)) (holds _ m)) in
        let j = least (named_there row c p) (span c) in
        let h = holds _ (least_holds (named_there row c p) (span c) k) in (
          span c * (p / span c) + j,
          (at_span (span c) z p j k, rw (at_place (span c) z p j k) (is_true _ (both_left (takes c j) _ h))),
          eqb→eq _ _ (both_right (takes c j) _ h),
        );
  }

  pub list_of_eight : T (below (at_most row ks) b) → SomePlanOfEight row 0 b
  list_of_eight e = (at ks, list_signals, λ p l u. leb→le (together (at ks p) (at row) p) 8 (every_below (at_most row ks) b e p u))
