-- `subcarriers::places_tones` meets its contract.
use native.Mathlib.Omega.{arith}
use mathlib.Core.Path.{◌≡◌, ◌∙◌}
use mathlib.Core.List.{[]}
use Rattle.resource.specs.declared.Tones.{Tones}
use Rattle.resource.specs.Engine.{held}
use Rattle.resource.proofs.Held.{held_count, held_eight}
use Rattle.resource.proofs.Places.{all_places, each_place}
use Rattle.subcarriers.proofs.places_tones.Goals as goal

none : {t : Tones} → t ≡ held [] → t.count ≡ 0
none e = rw e (held_count [])

pub returns-then-mask-eq15 : goal.returns-then-mask-eq15
returns-then-mask-eq15 c = let all = all_places c.args.b c.args.mask c.if-mask-eq15.true in
    c.two_runs.ensures ∙ rw (c.run_of.ensures, c.run_of-then-mask-eq15.ensures, all)

pub with_242-last-requires : goal.with_242-last-requires
with_242-last-requires c = (omega arith, rw c.no_tones.ensures (omega (arith, held_count [])), rw c.no_tones.ensures (held_eight []))

pub with_242-upper-requires : goal.with_242-upper-requires
with_242-upper-requires c = let z = none c.no_tones.ensures in (omega arith, omega (arith, z), c.with_242-last.ensures.bounded.1)

pub with_242-but_first-requires : goal.with_242-but_first-requires
with_242-but_first-requires c = let z = none c.no_tones.ensures in (omega arith, omega (arith, z), c.with_242-upper.ensures.bounded.1)

pub with_242-requires : goal.with_242-requires
with_242-requires c = let z = none c.no_tones.ensures in (omega arith, omega (arith, z), c.with_242-but_first.ensures.bounded.1)

pub returns : goal.returns
returns c = let upper = c.with_242-upper.ensures.value _ (c.with_242-last.ensures.value [] c.no_tones.ensures) in
    c.with_242.ensures.value _ (c.with_242-but_first.ensures.value _ upper)
    ∙ rw (each_place c.args.b c.args.mask c.if-mask-eq15.false)
