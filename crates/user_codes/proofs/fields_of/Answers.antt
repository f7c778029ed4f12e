-- `user_codes::fields_of` meets its contract.
use Rattle.user_codes.proofs.Codes.{owned_codes}
use Rattle.user_codes.proofs.fields_of.Goals as goal

pub returns : goal.returns
returns c =
    owned_codes c.args.bw c.args.s.now c.args.row.now c.owners_of-owners.result c.args.codes.now c.fields_with.result c.args.channel c.args.n c.requires.0
    c.owners_of-owners.ensures
    c.fields_with.ensures
