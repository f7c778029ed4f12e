-- `responding::put_planned` meets its contract.
use Rattle.std.proofs.Common.{arith}
use Rattle.listed.specs.Listing.{frame_text}
use Rattle.listing_lines.proofs.Shown.{few, counted, told, written}
use Rattle.responding.proofs.put_planned.Goals as goal

pub returns-in-Err : goal.returns-in-Err
unfolding frame_text
returns-in-Err c = rw (told c.requires c.check_users-seen.ensures.value c.in-Err.is) (rw c.from-y.ensures at c.put_refusal.ensures.wrote)

pub put_listing-requires : goal.put_listing-requires
put_listing-requires c = (
  c.requires.known,
  omega (arith, c.requires.most1, c.requires.most2, c.check_users-seen.auto.fields),
  counted c.requires,
  few
      c.requires,
  c.requires.given.the_kinds,
)

pub returns : goal.returns
unfolding frame_text
returns c = rw (told c.requires c.check_users-seen.ensures.value c.in_default.is)
    (written c.requires _ c.check_users-seen.ensures.value c.in_default.is (c.check_users-seen.ensures.fields_after c.in_default.is) c.put_listing.ensures)
