-- `listing::list_users` meets its contract.
use Rattle.std.proofs.Common.{◌∙◌, arith}
use Rattle.listing.proofs.Outcome.{refused_by, too_short, at_once, listed}
use Rattle.listing_size.proofs.Longest.{listing_within}
use Rattle.listing_lines.proofs.Shown.{few, counted, told, written}
use Rattle.text.proofs.Laws.{count}
use Rattle.listing.proofs.list_users.Goals as goal

pub returns-in-Err-clause-value : goal.returns-in-Err-clause-value
returns-in-Err-clause-value c =
    c.into.ensures
    ∙ (refused_by c.args.bw c.args.a.now c.args.b.now c.args.out.now _
    (told c.requires.0 c.check_users-seen.ensures.value c.in-Err.is)).0

pub returns-in-Err-clause-out_after : goal.returns-in-Err-clause-out_after
returns-in-Err-clause-out_after c =
    (refused_by c.args.bw c.args.a.now c.args.b.now c.args.out.now _
    (told c.requires.0 c.check_users-seen.ensures.value c.in-Err.is)).1

pub put_listing-place-requires : goal.put_listing-place-requires
put_listing-place-requires c = (
  c.requires.0.known,
  omega (arith, c.requires.1, c.check_users-seen.auto.fields),
  counted c.requires.0,
  few c.requires.0,
  c.requires.0.given.the_kinds,
)

pub returns-then-longest_of-out-clause-value : goal.returns-then-longest_of-out-clause-value
returns-then-longest_of-out-clause-value c =
    let o = told c.requires.0 c.check_users-seen.ensures.value c.in_default.is in
    let w = written c.requires.0 _ c.check_users-seen.ensures.value c.in_default.is (c.check_users-seen.ensures.fields_after c.in_default.is)
    c.put_listing-place.ensures in
    let l = listing_within c.args.bw c.args.a.now c.args.b.now o in
    c.accepted.ensures
    ∙ (at_once c.args.bw c.args.a.now c.args.b.now c.args.out.now o w
    (omega (arith, count w, l, c.longest_of.ensures))).0

pub returns-then-longest_of-out-clause-out_after : goal.returns-then-longest_of-out-clause-out_after
returns-then-longest_of-out-clause-out_after c =
    let o = told c.requires.0 c.check_users-seen.ensures.value c.in_default.is in
    let w = written c.requires.0 _ c.check_users-seen.ensures.value c.in_default.is (c.check_users-seen.ensures.fields_after c.in_default.is)
    c.put_listing-place.ensures in
    let l = listing_within c.args.bw c.args.a.now c.args.b.now o in
    (at_once c.args.bw c.args.a.now c.args.b.now c.args.out.now o w
    (omega (arith, count w, l, c.longest_of.ensures))).1

pub put_listing-need-requires : goal.put_listing-need-requires
put_listing-need-requires c = (
  c.requires.0.known,
  omega (arith, c.requires.1, c.check_users-seen.auto.fields),
  counted c.requires.0,
  few c.requires.0,
  c.requires.0.given.the_kinds,
)

pub returns-then-out-need-clause-value : goal.returns-then-out-need-clause-value
returns-then-out-need-clause-value c =
    let w = written c.requires.0 _ c.check_users-seen.ensures.value c.in_default.is (c.check_users-seen.ensures.fields_after c.in_default.is)
    c.put_listing-need.ensures in
    c.into-then-out-need.ensures
    ∙ (too_short c.args.bw c.args.a.now c.args.b.now c.args.out.now (told c.requires.0 c.check_users-seen.ensures.value c.in_default.is) w c.if-out-need.true).0

pub returns-then-out-need-clause-out_after : goal.returns-then-out-need-clause-out_after
returns-then-out-need-clause-out_after c =
    let w = written c.requires.0 _ c.check_users-seen.ensures.value c.in_default.is (c.check_users-seen.ensures.fields_after c.in_default.is)
    c.put_listing-need.ensures in
    (too_short c.args.bw c.args.a.now c.args.b.now c.args.out.now (told c.requires.0 c.check_users-seen.ensures.value c.in_default.is) w c.if-out-need.true).1

pub put_listing-place-requires-2 : goal.put_listing-place-requires-2
put_listing-place-requires-2 c = (
  c.requires.0.known,
  omega (arith, c.requires.1, c.check_users-seen.auto.fields),
  counted c.requires.0,
  few c.requires.0,
  c.requires.0.given.the_kinds,
)

pub returns-clause-value : goal.returns-clause-value
returns-clause-value c =
    let w = written c.requires.0 _ c.check_users-seen.ensures.value c.in_default.is (c.check_users-seen.ensures.fields_after c.in_default.is)
    c.put_listing-need.ensures in
    let v = written c.requires.0 _ c.check_users-seen.ensures.value c.in_default.is (c.check_users-seen.ensures.fields_after c.in_default.is)
    c.put_listing-place-2.ensures in
    c.accepted-2.ensures
    ∙ (listed c.args.bw c.args.a.now c.args.b.now c.args.out.now (told c.requires.0 c.check_users-seen.ensures.value c.in_default.is) w c.if-out-need.false v).0

pub returns-clause-out_after : goal.returns-clause-out_after
returns-clause-out_after c =
    let w = written c.requires.0 _ c.check_users-seen.ensures.value c.in_default.is (c.check_users-seen.ensures.fields_after c.in_default.is)
    c.put_listing-need.ensures in
    let v = written c.requires.0 _ c.check_users-seen.ensures.value c.in_default.is (c.check_users-seen.ensures.fields_after c.in_default.is)
    c.put_listing-place-2.ensures in
    (listed c.args.bw c.args.a.now c.args.b.now c.args.out.now (told c.requires.0 c.check_users-seen.ensures.value c.in_default.is) w c.if-out-need.false v).1
