-- `records::first_owner` meets its contract.
use Rattle.records.proofs.Entering.{only_below}
use Rattle.records.proofs.Tables.{kind_in, kind_known, number_at}
use Rattle.records.specs.Engine.{lowest, owner_at}
use Rattle.plan.specs.Engine.{only_plan}
use Rattle.answer.specs.Lists.{at}
use Rattle.std.proofs.Common.{get_or, List, ◌≡◌, ap, ◌∙◌, ℕ, ◌≤◌, arith}
use Rattle.records.proofs.first_owner.Goals as goal

pub returns-then-is_divided : goal.returns-then-is_divided
unfolding owner_at
returns-then-is_divided c =
    ap (λ (w : List ℕ). get_or w c.args.p 0) c.requires.3
    ∙ number_at c.args.row.now c.args.p (omega arith)
    ∙ rw (← c.value_at.ensures, ← c.is_divided.ensures, c.if-is_divided.true) (omega arith)

pub lowest_of-requires : goal.lowest_of-requires
lowest_of-requires c = (kind_known c.args.kinds.now c.args.row.now c.args.p c.requires.2 c.requires.1, omega arith)

pub bounds-before-lowest_of : goal.bounds-before-lowest_of
bounds-before-lowest_of c =
    let k = kind_in c.args.kinds.now c.args.row.now c.args.p c.requires.2 c.requires.1 in
    let l : c.lowest_of.result ≤ c.args.p = rw (c.lowest_of.ensures.0, k) (only_below (at c.args.row.now) c.args.p) in
    omega arith

pub returns : goal.returns
unfolding owner_at
returns c =
    let e : c.lowest_of.result ≡ lowest (only_plan (at c.args.row.now) c.args.p) c.args.p =
    c.lowest_of.ensures.0 ∙ ap (λ (x : ℕ). lowest x c.args.p) (kind_in c.args.kinds.now c.args.row.now c.args.p c.requires.2 c.requires.1) in
    ap (λ (w : List ℕ). get_or w c.lowest_of.result 0) c.requires.3
    ∙ number_at c.args.row.now c.lowest_of.result (omega (arith, only_below (at c.args.row.now) c.args.p))
    ∙ rw (← c.value_at.ensures, ← c.is_divided.ensures, c.if-is_divided.false, ← e) (omega arith)
