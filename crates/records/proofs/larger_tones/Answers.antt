-- `records::larger_tones` meets its contract.
use Rattle.std.proofs.Common.{arith, mod-eq_of_lt, ◌≡◌, sym, ap, ◌∙◌, ℕ, zero, suc, ◌*◌, ◌/◌, ◌%◌, ◌^◌, ◌≤◌, ◌<◌}
use Rattle.resource.specs.Engine.{places_runs, spread_runs, held}
use Rattle.kinds.specs.Kinds.{span, mask}
use Rattle.records.specs.Engine.{places_of}
use Rattle.records.proofs.Larger.{narrow_mask, narrow_is, wide_is, wide_few}
use Rattle.records.proofs.larger_tones.Goals as goal

-- nothing is shifted out of the word
shifted : (m w s : ℕ) → 128 ≤ m → w ≤ 15 → s < 4 → w * 2 ^ s % m ≡ w * 2 ^ s
shifted m w zero h l k = mod-eq_of_lt (omega arith)
shifted m w (suc zero) h l k = mod-eq_of_lt (omega arith)
shifted m w (suc (suc zero)) h l k = mod-eq_of_lt (omega arith)
shifted m w (suc (suc (suc zero))) h l k = mod-eq_of_lt (omega arith)
shifted m w (suc (suc (suc (suc s)))) h l k = absurd (omega arith)

-- where its span begins, its places and its segments
spread_is : (k p b m n : ℕ) → b ≡ span k * (p / span k) → m ≡ mask k → n ≡ span k
    → spread_runs b m (n / 4) ≡ spread_runs (span k * (p / span k)) (mask k) (span k / 4)
spread_is k p b m n e f g = rw (e, f, g)

pub returns-then-kind-lt7 : goal.returns-then-kind-lt7
unfolding places_of
returns-then-kind-lt7 c =
    let m : c.mask_of-mask.result ≤ 15 = rw c.mask_of-mask.ensures (narrow_mask c.args.kind c.if-kind-lt7.true) in
    c.places_tones.ensures
    ∙ ap (λ (x : ℕ). held (places_runs (4 * (c.args.p / 4)) x))
    (shifted _ _ _ (omega arith) m (omega arith) ∙ rw (c.mask_of-mask.ensures, c.start_of-from.ensures.1))
    ∙ ap held (sym (narrow_is c.args.kind c.args.p c.if-kind-lt7.true))

pub spread_tones-requires : goal.spread_tones-requires
spread_tones-requires c =
    let e = spread_is c.args.kind c.args.p _ _ _ c.start_of-from.ensures.1 (c.from.ensures ∙ c.mask_of-mask.ensures) c.span_of.ensures.2 in
    (omega arith, omega arith, rw e (wide_few c.args.kind (span c.args.kind * (c.args.p / span c.args.kind)) c.requires.0))

pub returns : goal.returns
returns c =
    let e = spread_is c.args.kind c.args.p _ _ _ c.start_of-from.ensures.1 (c.from.ensures ∙ c.mask_of-mask.ensures) c.span_of.ensures.2 in
    c.spread_tones.ensures ∙ ap held (e ∙ sym (wide_is c.args.kind c.args.p c.requires.0 c.if-kind-lt7.false))
