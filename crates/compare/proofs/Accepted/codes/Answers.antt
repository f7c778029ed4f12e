--
use Rattle.compare.proofs.Groups.{entered}
use Rattle.compare.proofs.Accepted.codes.Goals as goal

pub returns-clause-codes1 : goal.returns-clause-codes1
returns-clause-codes1 c = entered _ _ _ 1 _ c.codes_of-codes.ensures c.fields_of-codes1.ensures

pub returns-clause-codes2 : goal.returns-clause-codes2
returns-clause-codes2 c = entered _ _ _ 2 _ c.codes_of-codes.ensures c.fields_of-codes2.ensures
