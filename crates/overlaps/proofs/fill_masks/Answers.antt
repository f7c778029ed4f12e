-- `overlaps::fill_masks` meets its contract.
use Rattle.std.proofs.Common.{refl, arith, rules, length-set}
use Rattle.answer.proofs.Lists.{filled_start, filled_step}
use Rattle.overlaps.specs.Engine.{mask_at}
use Rattle.overlaps.specs.Result.{entries_outcome}
use Rattle.overlaps.proofs.Entries.{mask_at_lem, read_step}
use Rattle.overlaps.proofs.fill_masks.Goals as goal

pub loop-i-init : goal.loop-i-init
unfolding entries_outcome
loop-i-init c = (omega arith, search rules, filled_start _ _, refl)

pub loop-i-preserved : goal.loop-i-preserved
loop-i-preserved c =
    let r = mask_at_lem c.args.bandwidth c.args.entries.now c.loop-i.i c.info_at-x.result c.info_at-x.ensures _ c.mask_of.result c.part_of.ensures
    c.mask_of.ensures in (
      omega arith,
      simp length-set c.loop-i.invariant.1,
      rw c.loop-i.invariant.2 (filled_step (mask_at c.args.entries.now) c.loop-i.i c.mask_of.result c.args.masks.now (omega arith) r),
      read_step c.args.bandwidth c.args.entries.now c.loop-i.i c.info_at-x.result c.info_at-x.ensures c.loop-i.read c.is_read-read.result c.loop-i.invariant.3
          c.is_read-read.ensures,
    )
