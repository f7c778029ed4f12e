-- `judge::channel_formatted` meets its contract.
use Rattle.std.proofs.Common.{◌+◌, ◌≤◌, ◌≡◌, refl, ◌∙◌, ap, arith}
use Rattle.channel.specs.Layout.{subfields_in}
use Rattle.frame_words.specs.Words.{before}
use Rattle.frame_words.proofs.Givers.{Turn, turn, count_before, before_none}
use Rattle.candidate.specs.Engine.{count_in, candidate}
use Rattle.judge.proofs.Formats.{row_holds, counts_are, turn_formats}
use Rattle.judge.proofs.channel_formatted.Goals as goal

pub loop-k-init : goal.loop-k-init
loop-k-init c = (before_none _ _, refl)

pub bounds-row-p : goal.bounds-row-p
bounds-row-p c =
    let h = row_holds c.args.bw c.args.words.now c.requires.0 c.args.c c.requires.1 c.requires.2 c.args.row.now c.requires.3 in
    h.inside c.loop-k.k (omega (arith, c.subfields_of-n.ensures.value))

pub overflow_add-first : goal.overflow_add-first
overflow_add-first c =
    let in_turn : Turn c.args.bw c.args.c (candidate c.args.bw c.args.words.now c.args.c) c.args.row.now c.loop-k.j c.loop-k.k c.fields_of-m.result =
    turn c.args.bw c.args.c _ c.args.row.now c.loop-k.j c.loop-k.k c.fields_of-m.result
    (row_holds c.args.bw c.args.words.now c.requires.0 c.args.c c.requires.1 c.requires.2 c.args.row.now c.requires.3)
    (omega (arith, c.subfields_of-n.ensures.value)) c.loop-k.invariant.0 c.fields_of-m.ensures in
    omega (arith, in_turn.few)

pub run_formatted-all-requires : goal.run_formatted-all-requires
run_formatted-all-requires c =
    let in_turn : Turn c.args.bw c.args.c (candidate c.args.bw c.args.words.now c.args.c) c.args.row.now c.loop-k.j c.loop-k.k c.fields_of-m.result =
    turn c.args.bw c.args.c _ c.args.row.now c.loop-k.j c.loop-k.k c.fields_of-m.result
    (row_holds c.args.bw c.args.words.now c.requires.0 c.args.c c.requires.1 c.requires.2 c.args.row.now c.requires.3)
    (omega (arith, c.subfields_of-n.ensures.value)) c.loop-k.invariant.0 c.fields_of-m.ensures in
    let counted : c.loop-k.j + c.fields_of-m.result ≤ count_in c.args.bw c.args.words.now c.args.c =
    omega (arith, in_turn.fits, counts_are c.args.bw c.args.words.now c.requires.0 c.args.c c.requires.1 c.requires.2) in
    omega (arith, counted)

pub overflow_add-j : goal.overflow_add-j
overflow_add-j c =
    let in_turn : Turn c.args.bw c.args.c (candidate c.args.bw c.args.words.now c.args.c) c.args.row.now c.loop-k.j c.loop-k.k c.fields_of-m.result =
    turn c.args.bw c.args.c _ c.args.row.now c.loop-k.j c.loop-k.k c.fields_of-m.result
    (row_holds c.args.bw c.args.words.now c.requires.0 c.args.c c.requires.1 c.requires.2 c.args.row.now c.requires.3)
    (omega (arith, c.subfields_of-n.ensures.value)) c.loop-k.invariant.0 c.fields_of-m.ensures in
    omega (arith, in_turn.few)

pub loop-k-preserved : goal.loop-k-preserved
loop-k-preserved c =
    let in_turn : Turn c.args.bw c.args.c (candidate c.args.bw c.args.words.now c.args.c) c.args.row.now c.loop-k.j c.loop-k.k c.fields_of-m.result =
    turn c.args.bw c.args.c _ c.args.row.now c.loop-k.j c.loop-k.k c.fields_of-m.result
    (row_holds c.args.bw c.args.words.now c.requires.0 c.args.c c.requires.1 c.requires.2 c.args.row.now c.requires.3)
    (omega (arith, c.subfields_of-n.ensures.value)) c.loop-k.invariant.0 c.fields_of-m.ensures in
    let t = in_turn in (
      t.next,
      turn_formats c.args.bw c.args.words.now c.requires.0 c.args.c c.args.first c.args.row.now c.args.shared c.loop-k.j c.loop-k.k c.fields_of-m.result
          c.loop-k.all _
          c.requires.3 c.requires.4 t c.loop-k.invariant.0 c.loop-k.invariant.1 c.run_formatted-all.ensures,
    )

pub returns : goal.returns
returns c =
    let z = candidate c.args.bw c.args.words.now c.args.c in
    let e : c.loop-k.k ≡ subfields_in c.args.bw c.args.c = omega (arith, c.subfields_of-n.ensures.value) in
    let n : c.loop-k.j ≡ count_in c.args.bw c.args.words.now c.args.c =
    c.loop-k.invariant.0 ∙ ap (before c.args.bw z) e ∙ count_before c.args.bw c.args.c z
    ∙ counts_are c.args.bw c.args.words.now c.requires.0 c.args.c c.requires.1 c.requires.2 in
    rw (← n) c.loop-k.invariant.1
