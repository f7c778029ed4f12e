-- `stations::first_repeated` meets its contract.
use mathlib.Core.Path.{sym, ◌∙◌}
use native.Mathlib.Omega.{arith}
use Rattle.std.proofs.lemmas.List.{length-take-le}
use Rattle.stations.specs.Engine.{station_in}
use Rattle.stations.proofs.Gathered.{none_again, few_taken, held_room, held_taken}
use Rattle.stations.proofs.Kept.{repeat_none}
use Rattle.stations.proofs.first_repeated.Goals as goal

pub returns-then-t-lt2 : goal.returns-then-t-lt2
returns-then-t-lt2 c = (omega arith, sym (repeat_none (station_in c.args.fields.now) c.args.t (omega arith)))

pub returns-then-not-any_of_few : goal.returns-then-not-any_of_few
returns-then-not-any_of_few c =
    let e = sym (few_taken c.args.fields.now c.args.t (omega arith)) ∙ sym c.any_of_few.ensures ∙ c.if-not-any_of_few.true in
    (omega arith, sym (none_again (station_in c.args.fields.now) c.args.t e))

pub returns-then-not-any_again : goal.returns-then-not-any_again
returns-then-not-any_again c =
    let ids = c.stations_of-ids.result in
    let room = held_room c.args.fields.now ids c.args.t c.stations_of-ids.ensures c.requires.0 in (
      omega arith,
      sym
          (sym (held_taken c.args.fields.now ids c.args.t c.stations_of-ids.ensures room)
          ∙ none_again _ _ (sym c.any_again.ensures ∙ c.if-not-any_again.true)
          ∙ length-take-le c.args.t ids room),
    )

pub returns : goal.returns
returns c =
    let ids = c.stations_of-ids.result in
    let room = held_room c.args.fields.now ids c.args.t c.stations_of-ids.ensures c.requires.0 in (
      omega (arith, c.first_again.ensures.0, length-take-le c.args.t ids room),
      c.first_again.ensures.1 ∙ held_taken c.args.fields.now ids c.args.t c.stations_of-ids.ensures room,
    )
