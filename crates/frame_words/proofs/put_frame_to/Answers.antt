-- `frame_words::put_frame_to` meets its contract.
use Rattle.std.proofs.Common.{◌≡◌, ◌+◌, refl, arith, length, take}
use Rattle.std.proofs.lemmas.List.{length-take-le}
use Rattle.channel.proofs.Laws.{count_le}
use Rattle.frame_words.specs.Words.{header_of, user_word_at, words_of_row, word_count}
use Rattle.frame_words.specs.Engine.{user_word_of}
use Rattle.frame_words.proofs.Givers.{word_one, word_other}
use Rattle.frame_words.proofs.Laid.{laid}
use Rattle.frame_words.proofs.put_frame_to.Goals as goal

pub put_head-requires : goal.put_head-requires
unfolding word_count
put_head-requires g c = omega (arith, c.requires.0)

pub put_words-requires : goal.put_words-requires
unfolding word_count
put_words-requires g c =
    let W = g.W.LentWords in
    let k : length (take (c.args.n + c.args.m) c.turn_users.new.fields) ≡ c.args.n + c.args.m =
    length-take-le (c.args.n + c.args.m) c.turn_users.new.fields (omega (arith, c.turn_users.auto.fields, c.requires.1)) in
    let r = c.put_head.ensures.same_room in (
      omega (arith, r, k, c.requires.0, c.requires.5, c.requires.6),
      omega (arith, k, c.requires.5, c.requires.6, count_le c.args.bw 1 c.args.a.now, count_le c.args.bw 2 c.args.b.now),
    )

pub returns-clause-written : goal.returns-clause-written
unfolding words_of_row
returns-clause-written g c =
    let f = user_word_at c.args.bw c.args.row.now 1 c.args.a.now in
    let h = user_word_at c.args.bw c.args.row.now 2 c.args.b.now in
    let k = user_word_of c.args.bw c.args.row.now c.args.a.now c.args.b.now c.args.n in
    rw (← c.requires.5, ← c.requires.6)
    (laid g.W.LentWords.put (header_of c.args.bw c.args.row.now c.args.a.now) k f h c.args.n c.args.m c.args.fields.now c.turn_users.new.fields _ _ _
    refl
    (word_one c.args.bw c.args.a.now c.args.b.now c.args.row.now c.args.n)
    (λ i l. word_other c.args.bw c.args.a.now c.args.b.now c.args.row.now c.args.n i)
    c.turn_users.ensures
    c.put_head.ensures.written
    c.put_words.ensures.written)
