-- `user_codes::codes_of` meets its contract.
use Rattle.std.proofs.Common.{refl, arith}
use Rattle.answer.proofs.Lists.{filled_start}
use Rattle.records.proofs.Tables.{kind_in, kind_known}
use Rattle.user_codes.proofs.codes_of.Goals as goal

pub loop-p-init : goal.loop-p-init
loop-p-init c = (refl, filled_start _ _)

pub enter_codes-i-requires : goal.enter_codes-i-requires
enter_codes-i-requires c = record {
  row_len_bound = (
    c.requires.0,
    omega arith,
    kind_in c.args.kinds.now c.args.row.now c.loop-p.p c.requires.1 (omega arith),
    kind_known c.args.kinds.now
        c.args.row.now c.loop-p.p c.requires.1 (omega arith),
  );
  i_value = (c.loop-p.invariant.0, c.loop-p.invariant.1);
}
