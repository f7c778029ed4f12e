-- `frame_words::turn_users` meets its contract.
use Rattle.std.proofs.Common.{◌+◌, ◌-◌, ◌≡◌, sym, ◌∙◌, false, arith, length, take, drop, length-drop}
use Rattle.answer.specs.Lists.{filled}
use Rattle.answer.proofs.Lists.{filled_cong}
use Rattle.answer.proofs.Grow.{part_tail, grown}
use Rattle.user_words.specs.Engine.{run_word}
use Rattle.frame_words.specs.Words.{user_word_at}
use Rattle.frame_words.specs.Engine.{user_word_of}
use Rattle.frame_words.proofs.Givers.{word_one, word_other, lone_words, front_1, front_2}
use Rattle.frame_words.proofs.Rows.{row_short, holds_1, holds_2}
use Rattle.frame_words.proofs.turn_users.Goals as goal

pub turn_formats-requires : goal.turn_formats-requires
turn_formats-requires c = (
  omega arith,
  omega arith,
  omega (arith, c.requires.4),
  row_short c.args.bw c.args.a.now c.args.b.now c.requires.1 c.args.row.now c.requires.2,
  holds_1 c.args.bw c.args.a.now c.args.b.now c.requires.1 c.args.row.now c.requires.2,
  c.requires.3,
  front_1 c.args.bw c.args.a.now c.args.b.now c.args.row.now c.args.n c.args.fields.now c.args.m _ (sym c.requires.4) c.requires.6,
)

pub turn_formats-requires-else-shared-eq0 : goal.turn_formats-requires-else-shared-eq0
turn_formats-requires-else-shared-eq0 c =
    let one : c.turn_formats.new.fields ≡ filled (user_word_at c.args.bw c.args.row.now 1 c.args.a.now) c.args.n c.args.fields.now = rw c.requires.4
    c.turn_formats.ensures in (
      omega arith,
      omega arith,
      rw (part_tail c.turn_formats.new.fields c.args.n (omega arith)) (omega (arith, c.requires.5, length-drop c.args.n c.turn_formats.new.fields)),
      row_short c.args.bw c.args.a.now c.args.b.now c.requires.1 c.args.row.now c.requires.2,
      holds_2 c.args.bw c.args.a.now c.args.b.now c.requires.1 c.args.row.now c.requires.2,
      c.requires.3,
      rw (← c.requires.5)
          (front_2 c.args.bw c.args.a.now c.args.b.now c.args.row.now c.args.n _ c.args.fields.now c.turn_formats.new.fields c.args.m one (omega arith)
          c.requires.6),
    )

pub returns-then-shared-eq0 : goal.returns-then-shared-eq0
returns-then-shared-eq0 c =
    c.turn_run.ensures
    ∙ filled_cong (run_word c.args.fields.now false) (user_word_of c.args.bw c.args.row.now c.args.a.now c.args.b.now c.args.n) (c.args.n + c.args.m)
    c.args.fields.now
    (lone_words c.args.bw c.args.a.now c.args.b.now c.args.row.now c.args.n c.args.fields.now c.args.m
    (holds_1 c.args.bw c.args.a.now c.args.b.now c.requires.1 c.args.row.now c.requires.2)
    (holds_2 c.args.bw c.args.a.now c.args.b.now c.requires.1 c.args.row.now c.requires.2)
    (rw (← c.if-shared-eq0.true) c.requires.3)
    c.requires.4
    c.requires.5
    c.requires.6)

pub returns-else-shared-eq0 : goal.returns-else-shared-eq0
returns-else-shared-eq0 c =
    let one : c.turn_formats.new.fields ≡ filled (user_word_at c.args.bw c.args.row.now 1 c.args.a.now) c.args.n c.args.fields.now = rw c.requires.4
    c.turn_formats.ensures in
    let f = user_word_at c.args.bw c.args.row.now 1 c.args.a.now in
    let g = user_word_at c.args.bw c.args.row.now 2 c.args.b.now in
    let h = user_word_of c.args.bw c.args.row.now c.args.a.now c.args.b.now c.args.n in
    let d : c.turn_formats-else-shared-eq0.new.fields ≡ filled g c.args.m (take (length c.turn_formats.new.fields - c.args.n)
    (drop c.args.n c.turn_formats.new.fields)) = rw c.requires.5 c.turn_formats-else-shared-eq0.ensures in
    grown h g c.args.fields.now c.turn_formats.new.fields _ c.args.n c.args.m (omega arith)
    (one ∙ filled_cong f h c.args.n c.args.fields.now (word_one c.args.bw c.args.a.now c.args.b.now c.args.row.now c.args.n))
    (λ i l. word_other c.args.bw c.args.a.now c.args.b.now c.args.row.now c.args.n i)
    d
