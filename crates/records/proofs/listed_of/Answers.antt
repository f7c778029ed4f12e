-- `records::listed_of` meets its contract.
use Rattle.records.proofs.Entering.{bit_is}
use Rattle.records.proofs.Listing.{listed_most}
use Rattle.records.specs.Engine.{listed}
use Rattle.std.proofs.Common.{ℕ, ◌≤◌, Bool, cond, ◌≡◌, ap, ◌∙◌, eq-eqb, ne_eqb}
use Rattle.records.proofs.listed_of.Goals as goal

with_most : (r c p v : ℕ) → r ≡ listed c p v → (r ≡ listed c p v) × (r ≤ 9)
with_most r c p v e = (e, rw e (listed_most c p v))

pub returns-then-kind-eq0 : goal.returns-then-kind-eq0
unfolding listed
returns-then-kind-eq0 c = with_most c.pieces_of.result c.args.kind c.args.p c.args.v (c.pieces_of.ensures ∙ rw (eq-eqb c.args.kind 0 c.if-kind-eq0.true))

pub returns : goal.returns
unfolding listed
returns c =
    with_most c.from.result c.args.kind c.args.p c.args.v
    (c.from.ensures
    ∙ bit_is _
    ∙ ap (λ (t : Bool). cond t 1 0) c.is_lowest.ensures
    ∙ rw (ne_eqb c.args.kind 0 c.if-kind-eq0.false))
