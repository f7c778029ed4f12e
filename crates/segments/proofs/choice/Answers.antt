-- `segments::choice` meets its contract.
use Rattle.segments.proofs.Steps.{choose_named, choose_told, choose_whole}
use mathlib.Core.Bool.{true, false}
use mathlib.Core.Path.{sym, ◌∙◌}
use native.Mathlib.Omega.{arith}
use borrow.Author.Rules.{rules}
use Rattle.segments.proofs.choice.Goals as goal

pub returns-then-takes_place : goal.returns-then-takes_place
returns-then-takes_place c = (search rules, choose_named _ _ _ _ (search rules) true (sym c.takes_place.ensures ∙ c.if-takes_place.true))

pub returns-else-takes_place : goal.returns-else-takes_place
returns-else-takes_place c = (omega arith, choose_named _ _ _ _ (search rules) false (sym c.takes_place.ensures ∙ c.if-takes_place.false))

pub returns-then-tells_kind : goal.returns-then-tells_kind
returns-then-tells_kind c = (omega arith, choose_whole _ _ _ _ (search rules) (sym c.tells_kind.ensures ∙ c.if-tells_kind.true))

pub returns-then-tells_kind-2 : goal.returns-then-tells_kind-2
returns-then-tells_kind-2 c = let two = sym c.tells_kind.ensures ∙ c.if-tells_kind.false in
    let one = sym c.tells_kind-else-tells_kind.ensures ∙ c.if-tells_kind-2.true in
    (omega arith, choose_told _ _ _ _ (search rules) false true two one)

pub returns-else-tells_kind-2 : goal.returns-else-tells_kind-2
returns-else-tells_kind-2 c = let two = sym c.tells_kind.ensures ∙ c.if-tells_kind.false in
    let one = sym c.tells_kind-else-tells_kind.ensures ∙ c.if-tells_kind-2.false in
    (omega arith, choose_told _ _ _ _ (search rules) false false two one)
