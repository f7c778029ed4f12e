-- `masks::find_row` meets its contract.
use mathlib.Core.Path.{◌≡◌, ◌∙◌, ap}
use Prim.Native.Nat.{ℕ, ◌+◌, ◌*◌}
use native.Mathlib.Omega.{arith}
use lib.ListN.{length-set}
use Rattle.answer.specs.Lists.{at}
use Rattle.answer.specs.Tally.{tally}
use Rattle.masks.specs.Engine.{hit, pairs_to}
use Rattle.masks.proofs.Rows.{tally_most, tally_row_start, tally_row_end, pairs_row_start, pairs_row_end}
use Rattle.masks.proofs.Written.{end_found, pairs_found}
use Rattle.masks.proofs.find_row.Goals as goal

pub loop-j-init : goal.loop-j-init
loop-j-init c = let m = at c.args.masks.now in (
  omega arith,
  omega arith,
  omega (arith, tally_most m c.args.n (32 * c.args.i) (omega arith)),
  omega (arith, tally_row_start m c.args.n c.args.i (omega arith) (omega arith)),
  c.requires.4 ∙ pairs_row_start m c.args.n c.args.i (omega arith) (omega arith),
  c.requires.3,
)

pub loop-j-preserved : goal.loop-j-preserved
loop-j-preserved c = let m = at c.args.masks.now in
    let e = end_found m c.args.n c.args.i c.loop-j.j c.loop-j.end (omega arith) (omega arith) (omega arith) c.loop-j.invariant.3 c.is_meeting.result
    c.is_meeting.ensures in (
      omega arith,
      omega arith,
      omega (arith, c.from.ensures, e, tally_most m c.args.n (32 * c.args.i + (c.loop-j.j + 1)) (omega arith)),
      rw c.from.ensures e,
      rw c.from.ensures
          (pairs_found m c.args.n c.args.i c.loop-j.j c.loop-j.end (omega arith) (omega arith) (omega arith) c.loop-j.invariant.3 c.loop-j.found
          c.is_meeting.result c.is_meeting.ensures c.loop-j.invariant.5 c.loop-j.invariant.4),
      simp length-set c.loop-j.invariant.5,
    )

pub returns-clause-value : goal.returns-clause-value
returns-clause-value c = let m = at c.args.masks.now in
    let e : c.loop-j.j ≡ c.args.n = omega arith in
    let f : c.loop-j.end ≡ 2 * tally (hit m c.args.n) (32 * c.args.i + c.args.n) = c.loop-j.invariant.3 ∙ ap
    (λ (j : ℕ). 2 * tally (hit m c.args.n) (32 * c.args.i + j)) e in
    let g = c.loop-j.invariant.4 ∙ ap (λ (j : ℕ). pairs_to m c.args.n (32 * c.args.i + j)) e ∙ pairs_row_end m c.args.n c.args.i (omega arith) (omega arith) in
    f ∙ ap (λ (k : ℕ). 2 * k) (tally_row_end m c.args.n c.args.i (omega arith) (omega arith))

pub returns-clause-found_after : goal.returns-clause-found_after
returns-clause-found_after c = let m = at c.args.masks.now in
    let e : c.loop-j.j ≡ c.args.n = omega arith in
    let f : c.loop-j.end ≡ 2 * tally (hit m c.args.n) (32 * c.args.i + c.args.n) = c.loop-j.invariant.3 ∙ ap
    (λ (j : ℕ). 2 * tally (hit m c.args.n) (32 * c.args.i + j)) e in
    let g = c.loop-j.invariant.4 ∙ ap (λ (j : ℕ). pairs_to m c.args.n (32 * c.args.i + j)) e ∙ pairs_row_end m c.args.n c.args.i (omega arith) (omega arith) in
    g
