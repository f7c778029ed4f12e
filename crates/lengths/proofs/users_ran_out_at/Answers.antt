-- `lengths::users_ran_out_at` meets its contract.
use mathlib.Core.Path.{◌∙◌, ap}
use Prim.Native.Nat.{ℕ, ◌+◌, ◌≤◌, ◌<◌}
use native.Mathlib.Omega.{arith}
use Rattle.channel.specs.Layout.{blocks}
use Rattle.lengths.proofs.RanOut.{block_there, in_first, in_second, in_check, in_tail}
use Rattle.lengths.proofs.users_ran_out_at.Goals as goal

-- 72 fields have 36 blocks
few : (n b : ℕ) → n ≤ 72 → b < blocks n → b ≤ 36
unfolding blocks
few n b l h = omega arith

pub block_bit-at-requires : goal.block_bit-at-requires
block_bit-at-requires c = few c.args.n _ c.requires.1 (block_there c.args.bw c.args.n c.args.s.now c.requires.2 c.requires.3 _ c.common_bits.ensures.value)

pub covered_bits-c-requires : goal.covered_bits-c-requires
covered_bits-c-requires c = few c.args.n _ c.requires.1 (block_there c.args.bw c.args.n c.args.s.now c.requires.2 c.requires.3 _ c.common_bits.ensures.value)

pub returns-then-r-lt22 : goal.returns-then-r-lt22
returns-then-r-lt22 c = c.block_bit-at.ensures.value ∙ in_first c.args.bw c.args.n c.args.s.now c.requires.2 c.requires.3 _ c.common_bits.ensures.value
    c.if-r-lt22.true

pub returns-then-r-c : goal.returns-then-r-c
returns-then-r-c c = ap (λ (z : ℕ). z + 22) c.block_bit-at.ensures.value
    ∙ in_second c.args.bw c.args.n c.args.s.now c.requires.2 c.requires.3 _ c.common_bits.ensures.value _ c.covered_bits-c.ensures.value c.if-r-lt22.false
    c.if-r-c.true

pub returns-then-r-c-2 : goal.returns-then-r-c-2
returns-then-r-c-2 c = ap (λ (z : ℕ). z + c.covered_bits-c.result) c.block_bit-at.ensures.value
    ∙ in_check c.args.bw c.args.n c.args.s.now c.requires.2 c.requires.3 _ c.common_bits.ensures.value _ c.covered_bits-c.ensures.value c.if-r-c.false
    c.if-r-c-2.true

pub returns-else-r-c-2 : goal.returns-else-r-c-2
returns-else-r-c-2 c = ap (λ (z : ℕ). z + c.covered_bits-c.result + 4) c.block_bit-at.ensures.value
    ∙ in_tail c.args.bw c.args.n c.args.s.now c.requires.2 c.requires.3 _ c.common_bits.ensures.value _ c.covered_bits-c.ensures.value c.if-r-c-2.false
