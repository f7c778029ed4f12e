-- `larger_line::put_runs` meets its contract.
use Rattle.kinds.specs.Kinds.{span, mask}
use Rattle.std.proofs.Common.{arith, mod-eq_of_lt, ◌≡◌, refl, sym, ◌∙◌, ℕ, zero, suc, ◌+◌, ◌*◌, ◌/◌, ◌%◌, ◌^◌, ◌≤◌, ◌<◌, lt-ltb, le-ltb}
use Rattle.text.proofs.Laws.{after}
use Rattle.resource.specs.Engine.{spread_runs}
use Rattle.records.specs.Engine.{larger_runs, places_of}
use Rattle.records.proofs.Larger.{narrow_mask, narrow_is, wide_is}
use Rattle.larger_line.proofs.Larger.{comma_append, four_segments, kind_span}
use Rattle.larger_line.proofs.put_runs.Goals as goal

-- nothing is shifted out of the word
shifted : (m w s : ℕ) → 128 ≤ m → w ≤ 15 → s < 4 → w * 2 ^ s % m ≡ w * 2 ^ s
shifted m w zero h l k = mod-eq_of_lt (omega arith)
shifted m w (suc zero) h l k = mod-eq_of_lt (omega arith)
shifted m w (suc (suc zero)) h l k = mod-eq_of_lt (omega arith)
shifted m w (suc (suc (suc zero))) h l k = mod-eq_of_lt (omega arith)
shifted m w (suc (suc (suc (suc s)))) h l k = absurd (omega arith)

pub returns-then-kind-lt7-clause-wrote : goal.returns-then-kind-lt7-clause-wrote
unfolding places_of
returns-then-kind-lt7-clause-wrote c =
    let m : c.mask_of-mask.result ≤ 15 = rw c.mask_of-mask.ensures (narrow_mask c.args.kind c.if-kind-lt7.true) in
    let e : c.mask_of-mask.result * 2 ^ (c.start_of-from.result % 4) % 4294967296 ≡ mask c.args.kind * 2 ^
    (span c.args.kind * (c.args.p / span c.args.kind) % 4) =
    shifted 4294967296 c.mask_of-mask.result (c.start_of-from.result % 4) (omega arith) m (omega arith) ∙ rw
    (c.mask_of-mask.ensures, c.start_of-from.ensures.1) refl in
    rw (narrow_is c.args.kind c.args.p c.if-kind-lt7.true) (rw e at c.put_places.ensures.wrote)

pub returns-then-kind-lt12-clause-wrote : goal.returns-then-kind-lt12-clause-wrote
returns-then-kind-lt12-clause-wrote c =
    let k : span c.args.kind ≡ 8 = rw (kind_span c.args.kind c.requires.1 c.if-kind-lt7.false, lt-ltb c.args.kind 12 c.if-kind-lt12.true) in
    let e : spread_runs c.start_of-from.result c.mask_of-mask.result 2 ≡ larger_runs c.args.kind c.args.p =
    rw (c.start_of-from.ensures.1, c.mask_of-mask.ensures, wide_is c.args.kind c.args.p c.requires.1 c.if-kind-lt7.false, k) refl in
    rw e at c.put_two_segments-a.ensures.wrote

pub returns-clause-wrote : goal.returns-clause-wrote
returns-clause-wrote c =
    let k : span c.args.kind ≡ 16 = rw (kind_span c.args.kind c.requires.1 c.if-kind-lt7.false, le-ltb c.args.kind 12 c.if-kind-lt12.false) in
    let e : spread_runs c.start_of-from.result c.mask_of-mask.result 4 ≡ larger_runs c.args.kind c.args.p =
    rw (c.start_of-from.ensures.1, c.mask_of-mask.ensures, wide_is c.args.kind c.args.p c.requires.1 c.if-kind-lt7.false, k) refl in
    let all = sym (comma_append c.args.n (spread_runs c.start_of-from.result c.mask_of-mask.result 2)
    (spread_runs (c.start_of-from.result + 8) (c.mask_of-mask.result / 256) 2)) in
    rw (all, sym (four_segments c.start_of-from.result c.mask_of-mask.result), e) at (after c.put_two_segments-a.ensures.wrote c.put_two_segments.ensures.wrote)
