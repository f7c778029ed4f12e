-- `stores::put_span` meets its contract.
use Prim.Native.Nat.{◌≤◌}
use native.Mathlib.Omega.{arith}
use mathlib.Core.List.{[], ◌∷◌, ◌++◌}
use lib.ListN.{length, length-set, length-append}
use lib.IntN.{pos, ◌-ℤ◌}
use Rattle.text.specs.Text.{signed}
use Rattle.stores.specs.Engine.{apart}
use Rattle.stores.proofs.Laws.{values, halves, apart_few, span_text, signed_some}
use borrow.Author.Rules.{rules}
use Rattle.stores.proofs.put_span.Goals as goal

pub put_integer-a-requires : goal.put_integer-a-requires
put_integer-a-requires c = let v = halves c.values_of_two-v.result (apart c.args.lo c.args.zero) (apart c.args.hi c.args.zero)
    (apart_few c.args.lo c.args.zero c.requires.0 c.requires.2) (rw (c.apart_of.ensures.0, c.apart_of-2.ensures.0) at c.values_of_two-v.ensures) in
    let most = (values (apart c.args.lo c.args.zero) (apart_few c.args.lo c.args.zero c.requires.0 c.requires.2)).most in
    (c.requires.0, c.requires.2, v.0, omega (arith, v.0, most), omega (arith, c.requires.4), omega (arith, c.requires.5))

pub put_ended-requires : goal.put_ended-requires
put_ended-requires c = let v = halves c.values_of_two-v.result (apart c.args.lo c.args.zero) (apart c.args.hi c.args.zero)
    (apart_few c.args.lo c.args.zero c.requires.0 c.requires.2) (rw (c.apart_of.ensures.0, c.apart_of-2.ensures.0) at c.values_of_two-v.ensures) in
    let most = (values (apart c.args.hi c.args.zero) (apart_few c.args.hi c.args.zero c.requires.1 c.requires.2)).most in (
      c.requires.1,
      c.requires.2,
      v.1,
      omega (arith, v.1, most),
      c.requires.3,
      rw length-set (search rules),
      omega
          (arith, c.requires.5, c.put_integer-a.ensures.bounded),
    )

pub returns-clause-wrote : goal.returns-clause-wrote
returns-clause-wrote c = let k = signed_some c.args.hi c.args.zero c.requires.1 c.requires.2 in
    let t = signed (pos c.args.hi -ℤ pos c.args.zero) ++ (c.args.c ∷ []) in
    let l : 2 ≤ length t = rw (length-append (signed (pos c.args.hi -ℤ pos c.args.zero)) (c.args.c ∷ [])) (omega (arith, k)) in
    span_text (signed (pos c.args.lo -ℤ pos c.args.zero)) t l c.put_integer-a.ensures.over c.put_ended.ensures.wrote
