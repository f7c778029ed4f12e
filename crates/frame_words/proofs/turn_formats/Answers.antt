-- `frame_words::turn_formats` meets its contract.
use Rattle.std.proofs.Common.{ℕ, ◌+◌, ◌-◌, ◌/◌, ◌%◌, ◌^◌, ◌<◌, ◌≡◌, ◌∙◌, ap, arith, eqb, length, take, drop, length-drop}
use Rattle.answer.proofs.Grow.{part_tail, grown}
use Rattle.answer.proofs.Lists.{filled_start}
use Rattle.channel.specs.Layout.{subfields_in, count}
use Rattle.frame_words.specs.Words.{position_in, before, user_word_at}
use Rattle.user_words.specs.Engine.{run_word}
use Rattle.frame_words.proofs.Givers.{Turn, turn, count_before, before_none, run_words}
use Rattle.frame_words.proofs.turn_formats.Goals as goal

-- the turn that the loop is in, once the value's fields are counted
in-turn : (c : goal.After-fields_of-m)
    → Turn c.args.bw c.args.c c.args.s.now c.args.row.now c.loop-k.j c.loop-k.k c.fields_of-m.result
in-turn c =
    turn c.args.bw c.args.c c.args.s.now c.args.row.now c.loop-k.j c.loop-k.k c.fields_of-m.result c.requires.4
    (omega (arith, c.subfields_of-n.ensures.value)) c.loop-k.invariant.0 c.fields_of-m.ensures

pub loop-k-init : goal.loop-k-init
loop-k-init c = (before_none _ _, filled_start _ _)

pub offset_bounds-fields-j : goal.offset_bounds-fields-j
offset_bounds-fields-j c = omega (arith, (in-turn c).few)

pub slice_bounds-turn_value-count : goal.slice_bounds-turn_value-count
slice_bounds-turn_value-count c = omega (arith, (in-turn c).fits)

pub slice_bounds-turn_value-start : goal.slice_bounds-turn_value-start
slice_bounds-turn_value-start c = omega (arith, (in-turn c).fits)

pub turn_value-requires : goal.turn_value-requires
turn_value-requires c =
    let t = turn c.args.bw c.args.c c.args.s.now c.args.row.now c.loop-k.j c.loop-k.k c.fields_of-m.result c.requires.4
    (omega (arith, c.subfields_of-n.ensures.value)) c.loop-k.invariant.0 c.fields_of-m.ensures in
    rw (part_tail c.loop-k.fields c.loop-k.j (omega (arith, t.fits))) (omega (arith, t.fits, length-drop c.loop-k.j c.loop-k.fields))

pub overflow_add-j : goal.overflow_add-j
overflow_add-j c = omega (
  arith,
  (turn c.args.bw c.args.c c.args.s.now c.args.row.now c.loop-k.j c.loop-k.k c.fields_of-m.result c.requires.4
      (omega (arith, c.subfields_of-n.ensures.value)) c.loop-k.invariant.0 c.fields_of-m.ensures).few,
)

pub loop-k-preserved : goal.loop-k-preserved
loop-k-preserved c =
    let t = turn c.args.bw c.args.c c.args.s.now c.args.row.now c.loop-k.j c.loop-k.k c.fields_of-m.result c.requires.4
    (omega (arith, c.subfields_of-n.ensures.value)) c.loop-k.invariant.0 c.fields_of-m.ensures in
    let p = position_in c.args.c c.loop-k.k in
    let e = c.requires.5.format p t.inside in
    let f = user_word_at c.args.bw c.args.row.now c.args.c c.args.s.now in
    let g = run_word (take (length c.loop-k.fields - c.loop-k.j) (drop c.loop-k.j c.loop-k.fields)) (eqb (c.args.shared / 2 ^ p % 2) 1) in
    let w : (i : ℕ) → i < c.fields_of-m.result → g i ≡ f (c.loop-k.j + i) =
    λ i h.
    rw e
    (run_words c.args.bw c.args.c c.args.s.now c.loop-k.k t.there c.args.row.now c.args.fields.now c.loop-k.fields c.loop-k.j i c.loop-k.invariant.1
    c.loop-k.invariant.0
    (omega (arith, t.fits)) c.requires.6 (omega (arith, t.own))) in
    let o =
    grown f g c.args.fields.now c.loop-k.fields c.turn_value.new.fields c.loop-k.j c.fields_of-m.result (omega (arith, t.fits)) c.loop-k.invariant.1 w
    c.turn_value.ensures in
    (t.next, o)

pub returns : goal.returns
returns c =
    let e : c.loop-k.k ≡ subfields_in c.args.bw c.args.c = omega (arith, c.subfields_of-n.ensures.value) in
    let n : c.loop-k.j ≡ count c.args.bw c.args.c c.args.s.now =
    c.loop-k.invariant.0 ∙ ap (before c.args.bw c.args.s.now) e ∙ count_before c.args.bw c.args.c c.args.s.now in
    rw (← n) c.loop-k.invariant.1
