-- `larger_line::put_line` meets its contract.
use Rattle.std.proofs.Common.{arith, ◌≡◌, refl, sym, ap, ◌∙◌, ◌++◌, map, append_assoc, ℕ, zero, suc, ◌/◌, ◌%◌, ◌≤◌, ◌<◌, length, length-append}
use Rattle.text.specs.Text.{codes}
use Rattle.text.proofs.Laws.{after}
use Rattle.resource.specs.Engine.{span_of}
use Rattle.records.specs.Records.{larger}
use Rattle.records.specs.Engine.{larger_runs}
use Rattle.resource_line.specs.ResourceLine.{tones_text, ru_head, ru_line}
use Rattle.resource_line.proofs.Whole.{start_text_lem}
use Rattle.larger_line.proofs.Larger.{comma_tones, closed, kind_class, kind_index, runs_some}
use Rattle.larger_line.proofs.put_line.Goals as goal

some_kind : (c : ℕ) → (c ≡ 0 → ⊥) → 1 ≤ c
some_kind zero n = absurd (n refl)
some_kind (suc c) n = omega arith

pub overflow_sub-b : goal.overflow_sub-b
overflow_sub-b c =
    let m = runs_some c.args.kind c.args.p c.requires.1 (some_kind c.args.kind c.requires.2) c.requires.3 in
    let t = comma_tones c.args.n (larger_runs c.args.kind c.args.p) m in
    let l = ap length t ∙ length-append (tones_text (map (span_of c.args.n) (larger_runs c.args.kind c.args.p))) (codes ",") in
    omega (arith, c.put_runs-b.ensures.wrote.next, l)

pub returns-clause-wrote : goal.returns-clause-wrote
unfolding ru_line
returns-clause-wrote c =
    let k = some_kind c.args.kind c.requires.2 in
    let q : c.args.p % 4 < 4 = omega arith in
    let rs = larger_runs c.args.kind c.args.p in
    let r = larger c.args.kind (c.args.p % 4) in
    let head = rw (
      c.class_of-k.ensures.0,
      c.index_at-i.ensures.0,
      sym (kind_class c.args.kind (c.args.p % 4) c.requires.1 k q),
      sym (kind_index c.args.kind (c.args.p % 4) c.requires.1 k q),
      start_text_lem (c.args.p / 4) c.args.users r,
    ) at c.put_start-a.ensures.wrote in
    let runs = rw (comma_tones c.args.n rs (runs_some c.args.kind c.args.p c.requires.1 k c.requires.3)) at c.put_runs-b.ensures.wrote in
    let start = ru_head (c.args.p / 4) r c.args.users ++ codes " tones=" in
    let line = rw (sym (append_assoc start (tones_text (map (span_of c.args.n) rs)) (codes ","))) at (after head runs) in
    closed (ru_head (c.args.p / 4) r c.args.users ++ codes " tones=" ++ tones_text (map (span_of c.args.n) rs)) line c.put.ensures
