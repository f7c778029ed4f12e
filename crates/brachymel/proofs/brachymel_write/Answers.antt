-- `brachymel::brachymel_write` meets its contract.
use Rattle.writer.specs.Result.{write_answer, channel_after}
use Rattle.brachymel.specs.Bytes.{bytes_write_answer, write_channel}
use Rattle.brachymel.proofs.Early.{early_refuses, early_passes, few_words}
use Rattle.std.proofs.Common.{length, ◌/◌, sym, ◌∙◌}
use Rattle.brachymel.proofs.brachymel_write.Goals as goal

pub returns-in-Err : goal.returns-in-Err
unfolding bytes_write_answer write_channel
returns-in-Err c =
    let f =
    early_refuses c.args.bandwidth c.args.words.now (length c.args.cc1.now) (length c.args.cc2.now) _
    (sym c.refused_early-early.ensures ∙ c.in-Err.is) in record {
      value = rw f c.into.ensures;
      cc1_after = rw f;
      cc2_after = rw f;
    }

pub write_bytes-requires : goal.write_bytes-requires
write_bytes-requires c =
    few_words c.args.bandwidth (length c.args.words.now) (length c.args.words.now / 4)
    (sym c.refused_early-early.ensures ∙ c.in_default.is)

pub returns : goal.returns
unfolding bytes_write_answer write_channel write_answer channel_after
returns c =
    let f = early_passes c.args.bandwidth c.args.words.now (length c.args.cc1.now) (length c.args.cc2.now)
    (sym c.refused_early-early.ensures ∙ c.in_default.is) in
    rw f c.write_bytes.ensures
