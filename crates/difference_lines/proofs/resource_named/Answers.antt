--
use Rattle.std.proofs.Common.{ne_eqb}
use Rattle.resource.specs.Engine.{resource_named}
use Rattle.difference_lines.proofs.resource_named.Goals as goal

pub returns-in-26 : goal.returns-in-26
unfolding resource_named
returns-in-26 c = rw c.in-26.is

pub returns-in-52 : goal.returns-in-52
unfolding resource_named
returns-in-52 c = rw c.in-52.is

pub returns-in-106 : goal.returns-in-106
unfolding resource_named
returns-in-106 c = rw c.in-106.is

pub returns-in-242 : goal.returns-in-242
unfolding resource_named
returns-in-242 c = rw c.in-242.is

pub returns-in-484 : goal.returns-in-484
unfolding resource_named
returns-in-484 c = rw c.in-484.is

pub returns-in-996 : goal.returns-in-996
unfolding resource_named
returns-in-996 c = rw c.in-996.is

pub returns-in-1992 : goal.returns-in-1992
unfolding resource_named
returns-in-1992 c = rw c.in-1992.is

pub returns-in-132 : goal.returns-in-132
unfolding resource_named
returns-in-132 c = rw c.in-132.is

pub returns-in-726 : goal.returns-in-726
unfolding resource_named
returns-in-726 c = rw c.in-726.is

pub returns-in-1480 : goal.returns-in-1480
unfolding resource_named
returns-in-1480 c = rw c.in-1480.is

pub returns-in-2988 : goal.returns-in-2988
unfolding resource_named
returns-in-2988 c = rw c.in-2988.is

pub returns-in-2476 : goal.returns-in-2476
unfolding resource_named
returns-in-2476 c = rw c.in-2476.is

pub returns-in_default : goal.returns-in_default
unfolding resource_named
returns-in_default c = rw (
  ne_eqb _ 26 c.in_default.in_default-own.rest.0.0.0.0.0.0.0.0.0.0.0.1,
  ne_eqb _ 52 c.in_default.in_default-own.rest.0.0.0.0.0.0.0.0.0.0.1,
  ne_eqb _ 106 c.in_default.in_default-own.rest.0.0.0.0.0.0.0.0.0.1,
  ne_eqb _ 242 c.in_default.in_default-own.rest.0.0.0.0.0.0.0.0.1,
  ne_eqb _ 484 c.in_default.in_default-own.rest.0.0.0.0.0.0.0.1,
  ne_eqb _ 996 c.in_default.in_default-own.rest.0.0.0.0.0.0.1,
  ne_eqb _ 1992 c.in_default.in_default-own.rest.0.0.0.0.0.1,
  ne_eqb _ 132 c.in_default.in_default-own.rest.0.0.0.0.1,
  ne_eqb _ 726 c.in_default.in_default-own.rest.0.0.0.1,
  ne_eqb _ 1480 c.in_default.in_default-own.rest.0.0.1,
  ne_eqb _ 2988 c.in_default.in_default-own.rest.0.1,
  ne_eqb _ 2476 c.in_default.in_default-own.rest.1,
)
