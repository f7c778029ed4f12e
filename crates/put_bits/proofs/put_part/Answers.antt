-- `put_bits::put_part` meets its contract.
use Prim.Native.Nat.{ℕ, ◌/◌, ◌%◌}
use mathlib.Core.Path.{refl, ap, ◌∙◌}
use native.Mathlib.Omega.{arith}
use lib.ListN.{get_or, set}
use Rattle.put_bits.proofs.Stores.{merge_lt, put_byte}
use Rattle.bits.proofs.Writes.{put_past}
use Rattle.put_bits.proofs.put_part.Goals as goal

pub overflow_cast-d : goal.overflow_cast-d
overflow_cast-d c = record {
  fits =
      rw (c.merged.ensures, c.from.ensures)
      (merge_lt (get_or c.args.d.now (c.args.i / 8) 0) (c.args.i % 8) c.args.m c.args.w 8 (c.slice_known-1.given (c.args.i / 8)).fits (omega arith));
}

pub returns-then-k-d : goal.returns-then-k-d
returns-then-k-d c = ap (λ (x : ℕ). set c.args.d.now (c.args.i / 8) x) (c.merged.ensures ∙ rw c.from.ensures refl)
    ∙ put_byte c.args.d.now c.args.i c.args.m c.args.w (record { small = λ j. (c.slice_known-1.given j).fits }) (omega arith) (omega arith)

pub returns-else-k-d : goal.returns-else-k-d
returns-else-k-d c = put_past c.args.d.now c.args.i c.args.m c.args.w (record { small = λ j. (c.type_inv.d j).fits }) (omega arith)
