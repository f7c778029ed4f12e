-- `listing::longest_of` meets its contract.
use Rattle.std.proofs.Common.{◌≡◌, rules}
use Rattle.listing_size.specs.Longest.{longest_at}
use Rattle.listing.proofs.longest_of.Goals as goal

pub returns-in-0 : goal.returns-in-0
unfolding longest_at
returns-in-0 c = rw c.in-0.is

pub returns-in-1 : goal.returns-in-1
unfolding longest_at
returns-in-1 c = rw c.in-1.is

pub returns-in-2 : goal.returns-in-2
unfolding longest_at
returns-in-2 c = rw c.in-2.is

pub returns-in-3 : goal.returns-in-3
unfolding longest_at
returns-in-3 c = rw c.in-3.is

pub returns-in_default : goal.returns-in_default
unfolding longest_at
returns-in_default c = let e : c.args.bw ≡ 4 = search rules in rw e
