-- The runs that the program holds are the resource's, and their text is that of their spans.
use mathlib.Core.Path.{◌≡◌, sym, ap}
use mathlib.Core.List.{map}
use Prim.Native.Nat.{ℕ}
use lib.ListN.{length, take, get_or, length-map}
use Rattle.std.proofs.lemmas.List.{get_or-map}
use Rattle.text.specs.Text.{upto}
use Rattle.text.proofs.Laws.{upto_cong}
use Rattle.resource.specs.declared.Resource.{Resource}
use Rattle.resource.specs.declared.Tones.{Tones}
use Rattle.resource.specs.Tones.{no_span}
use Rattle.resource.specs.Engine.{span_of, runs_of, no_run, held}
use Rattle.resource.proofs.Held.{runs_few, held_runs}
use Rattle.resource_line.specs.ResourceLine.{span_text, tones_text}
use Rattle.resource_line.specs.Engine.{held_spans}

pub held_text : (n : ℕ) (t : Tones)
    → upto (λ i. span_text i (span_of n (get_or (take t.count t.runs) i no_run))) (length (take t.count t.runs)) ≡ tones_text (held_spans n t)
unfolding tones_text held_spans
held_text n t =
    let rs = take t.count t.runs in
    rw (length-map rs (span_of n))
    (upto_cong (λ i. span_text i (span_of n (get_or rs i no_run))) (λ i. span_text i (get_or (map (span_of n) rs) i no_span)) (length rs)
    (λ i h. ap (span_text i) (sym (get_or-map (span_of n) rs i no_run no_span h))))

pub held_spans_lem : (n g : ℕ) (r : Resource) (t : Tones) → t ≡ held (runs_of n g r) → held_spans n t ≡ map (span_of n) (runs_of n g r)
unfolding held_spans
held_spans_lem n g r t e = rw e (ap (map (span_of n)) (held_runs (runs_of n g r) (runs_few n g r)))
