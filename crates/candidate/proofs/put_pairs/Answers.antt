-- `candidate::put_pairs` meets its contract.
use Rattle.std.proofs.Common.{ℕ, refl, ◌∙◌, ap, arith, length, rules}
use Rattle.candidate.specs.Engine.{sealed_of}
use Rattle.candidate.proofs.Parts.{block_0, block_next, pair_reach}
use Rattle.candidate.proofs.put_pairs.Goals as goal

pub loop-b-init : goal.loop-b-init
loop-b-init c = (c.requires.2, refl, λ z e f. rw (block_0 c.args.bw) e)

pub push_pair-h-requires : goal.push_pair-h-requires
push_pair-h-requires c =
    let e = pair_reach c.args.bw (length c.args.fields.now) c.loop-b.b (omega arith) in (
      omega (arith, c.block_bit.ensures.value, e.0),
      omega (arith, c.block_bit.ensures.value, e.1, c.requires.0, c.loop-b.invariant.1),
      omega (arith, c.requires.1, c.loop-b.invariant.1),
      c.loop-b.invariant.0,
      omega (arith, c.sealed-x.ensures.0),
    )

pub loop-b-preserved : goal.loop-b-preserved
loop-b-preserved c =
    let x =
    c.sealed-x.ensures.1 ∙ ap (λ (v : ℕ). sealed_of v 44)
    c.pair_of.ensures.1 in (
      c.push_pair-h.ensures.upper_bound,
      search rules,
      λ z e f.
          let n = c.push_pair-h.ensures.ends z (rw c.block_bit.ensures.value (c.loop-b.invariant.2 z e f))
          (rw (c.block_bit.ensures.value, x) (f.pairs c.loop-b.b (omega arith))) in
          rw (c.block_bit.ensures.value, block_next c.args.bw c.loop-b.b) at n,
    )
