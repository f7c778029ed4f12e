-- `streams::put_streams` meets its contract.
use Rattle.std.proofs.Common.{◌≡◌, refl, true, false, List, ℕ, ◌+◌, ◌/◌, ◌<◌, arith, length, set, length-set}
use borrow.Author.Tests.{not-true}
use Rattle.answer.specs.Lists.{at, filled}
use Rattle.answer.proofs.Lists.{filled_start, filled_step}
use Rattle.answer.proofs.Every.{every_at}
use Rattle.streams.specs.Engine.{word_none, named_in, streams_in, all_named}
use Rattle.streams.proofs.put_streams.Goals as goal

-- a field that all are named with is named
is_named : (codes words : List ℕ) (x : ℕ) → all_named codes words ≡ true → x < length words → word_none (at codes x / 256) (at words x) ≡ false
unfolding all_named named_in
is_named codes words x e h = not-true _ (every_at (named_in codes words) (length words) e x h)

pub loop-x-init : goal.loop-x-init
loop-x-init c = (filled_start _ _, refl)

pub field_streams-requires : goal.field_streams-requires
field_streams-requires c = (
  c.requires.words_coded.1.turn _ (omega arith),
  c.requires.words_coded.1.few _ (omega arith),
  is_named c.args.codes.now c.args.words.now _ c.requires.words_coded.2 (omega arith),
)

pub loop-x-preserved : goal.loop-x-preserved
unfolding streams_in
loop-x-preserved c =
    let f = streams_in c.args.codes.now c.args.words.now in
    let e : set c.loop-x.out c.loop-x.x c.field_streams.result ≡ filled f (c.loop-x.x + 1) c.args.out.now =
    rw c.loop-x.invariant.0 (filled_step f c.loop-x.x c.field_streams.result c.args.out.now (omega arith) c.field_streams.ensures) in
    (e, simp length-set c.loop-x.invariant.1)
