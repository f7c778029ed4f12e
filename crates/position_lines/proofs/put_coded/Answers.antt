-- `position_lines::put_coded` meets its contract.
use Rattle.std.proofs.Common.{arith, sym, ◌&&◌, T, eqb, eqb→eq, append_assoc, ◌/◌, ◌%◌, ◌<◌}
use Rattle.resource.proofs.Test.{both_left, both_right}
use Rattle.text.proofs.Laws.{after}
use Rattle.resource.specs.Index.{resource_at}
use Rattle.piece_codes.specs.Engine.{piece_of}
use Rattle.piece_codes.proofs.Codes.{code_runs, code_index, word_good}
use Rattle.resource_line.specs.ResourceLine.{ru_line}
use Rattle.resource_line.proofs.Whole.{start_text_lem}
use Rattle.position_lines.specs.Engine.{code_line}
use Rattle.position_lines.proofs.Coded.{code_class, whole_20}
use Rattle.position_lines.proofs.put_coded.Goals as goal

pub returns-then-n-c-clause-wrote : goal.returns-then-n-c-clause-wrote
unfolding code_line ru_line
returns-then-n-c-clause-wrote c =
    let r = resource_at (c.args.p % 4) (piece_of c.args.c) in
    let q : c.args.p % 4 < 4 = omega arith in
    let k = code_class (c.args.p % 4) c.args.c q c.requires.2 c.requires.3 in
    let i = code_index (c.args.p % 4) c.args.c q c.requires.2 c.requires.3 in
    let head = rw (c.index_at-i.ensures.0, sym i, sym k, start_text_lem (c.args.p / 4) c.args.users r) at c.put_start-a.ensures.wrote in
    let both : T (eqb c.args.n 1 && eqb c.args.c 65) = rw c.if-n-c.true tt in
    let one = eqb→eq c.args.n 1 (both_left (eqb c.args.n 1) (eqb c.args.c 65) both) in
    let whole = eqb→eq c.args.c 65 (both_right (eqb c.args.n 1) (eqb c.args.c 65) both) in
    rw append_assoc (after head (rw (sym (whole_20 c.args.n c.args.p c.args.c one whole)) at c.put_whole_20.ensures.wrote))

pub put_word_tones-requires : goal.put_word_tones-requires
put_word_tones-requires c =
    let g = word_good c.args.n c.args.c c.requires.2 c.requires.3 in (
      c.requires.0,
      c.base_of-base.ensures.1,
      rw c.word_at-w.ensures g.0,
      rw c.word_at-w.ensures g.1,
      omega
          (arith, c.put_start-a.ensures.bounded, c.requires.5),
      omega (arith, c.put_start-a.ensures.bounded, c.requires.6),
    )

pub returns-clause-wrote : goal.returns-clause-wrote
unfolding code_line ru_line
returns-clause-wrote c =
    let r = resource_at (c.args.p % 4) (piece_of c.args.c) in
    let q : c.args.p % 4 < 4 = omega arith in
    let k = code_class (c.args.p % 4) c.args.c q c.requires.2 c.requires.3 in
    let i = code_index (c.args.p % 4) c.args.c q c.requires.2 c.requires.3 in
    let head = rw (c.index_at-i.ensures.0, sym i, sym k, start_text_lem (c.args.p / 4) c.args.users r) at c.put_start-a.ensures.wrote in
    let runs = rw (c.base_of-base.ensures.0, c.word_at-w.ensures, sym (code_runs c.args.n c.args.p c.args.c c.requires.3)) at c.put_word_tones.ensures.wrote in
    rw append_assoc (after head runs)
