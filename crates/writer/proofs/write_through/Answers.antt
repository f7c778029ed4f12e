-- `writer::write_through` meets its contract.
use Rattle.word_bytes.specs.Bytes.{word_at}
use Rattle.answer.specs.Lists.{build}
use Rattle.answer.proofs.Lists.{take_filled}
use Rattle.std.proofs.Common.{take, ◌∙◌, ap}
use Rattle.writer.proofs.write_through.Goals as goal

pub returns : goal.returns
returns c =
    let e =
    ap (take c.args.n) c.get_words.ensures ∙ take_filled (word_at c.args.words.now) c.args.n c.args.local.now ∙ ap (build (word_at c.args.words.now))
    c.requires.1 in
    rw e at c.write_own.ensures
