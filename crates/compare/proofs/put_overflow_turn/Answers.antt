--
use Rattle.compare.specs.Engine.{overflow_pair, overflow_turn}
use Rattle.channel.specs.Fields.{overflow_widths}
use Rattle.bits.specs.Pack.{unpack}
use Rattle.answer.specs.Lists.{at}
use Rattle.std.proofs.Common.{eq-eqb, ne_eqb, ◌≡◌, sym, ◌∙◌}
use Rattle.text.proofs.Laws.{after, nothing}
use Rattle.compare.proofs.put_overflow_turn.Goals as goal

pub returns-then-x-y-clause-wrote : goal.returns-then-x-y-clause-wrote
unfolding overflow_turn overflow_pair
returns-then-x-y-clause-wrote c =
    let e : at (unpack overflow_widths c.args.v) c.args.k ≡ at (unpack overflow_widths c.args.w) c.args.k =
    sym c.overflow_field-x.ensures ∙ c.if-x-y.true ∙ c.overflow_field-y.ensures in
    rw (eq-eqb _ _ e) (nothing _ _)

pub returns-clause-wrote : goal.returns-clause-wrote
unfolding overflow_turn overflow_pair
returns-clause-wrote c =
    let both = after c.put_overflow-a.ensures.wrote c.put_overflow.ensures.wrote in
    rw (← c.overflow_field-x.ensures, ← c.overflow_field-y.ensures, ne_eqb _ _ c.if-x-y.false) both
