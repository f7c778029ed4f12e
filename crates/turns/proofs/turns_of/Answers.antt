-- `turns::turns_of` meets its contract.
use Rattle.std.proofs.Common.{refl}
use Rattle.turns.proofs.Owned.{room, numbered, held_few, made}
use Rattle.turns.proofs.turns_of.Goals as goal

pub enter_turns-requires-clause-m_bound : goal.enter_turns-requires-clause-m_bound
enter_turns-requires-clause-m_bound c =
    let a = room c.args.row.now c.requires.row_len_bound.0 c.requires.row_len_bound.2 c.args.m c.args.n c.requires.m_value.0 c.requires.m_value.1 _ _
    c.owners_of-first.ensures c.owners_of-second.ensures in (
      a.0,
      a.1,
      refl,
      numbered c.args.row.now c.requires.row_len_bound.0 c.requires.row_len_bound.2 c.args.m c.args.n c.requires.m_value.0 c.requires.m_value.1
          _ _ c.owners_of-first.ensures c.owners_of-second.ensures,
    )

pub add_users-requires-clause-m_bound : goal.add_users-requires-clause-m_bound
add_users-requires-clause-m_bound c =
    let a = room c.args.row.now c.requires.row_len_bound.0 c.requires.row_len_bound.2 c.args.m c.args.n c.requires.m_value.0 c.requires.m_value.1 _ _
    c.owners_of-first.ensures c.owners_of-second.ensures in (
      a.0,
      a.1,
      numbered c.args.row.now c.requires.row_len_bound.0 c.requires.row_len_bound.2 c.args.m c.args.n c.requires.m_value.0 c.requires.m_value.1 _ _
          c.owners_of-first.ensures c.owners_of-second.ensures,
    )

pub add_users-requires-clause-turns_len : goal.add_users-requires-clause-turns_len
add_users-requires-clause-turns_len c =
    let a = room c.args.row.now c.requires.row_len_bound.0 c.requires.row_len_bound.2 c.args.m c.args.n c.requires.m_value.0 c.requires.m_value.1 _ _
    c.owners_of-first.ensures c.owners_of-second.ensures in
    held_few c.args.row.now c.requires.row_len_bound.0 c.requires.row_len_bound.2 c.args.m c.args.n c.requires.m_value.0 c.requires.m_value.1 _ _
    c.owners_of-first.ensures c.owners_of-second.ensures _ _ c.enter_turns.ensures.turns_after c.enter_turns.ensures.met_after

pub returns : goal.returns
returns c = made c.args.row.now c.requires.row_len_bound.0 c.requires.row_len_bound.2 c.args.m c.args.n c.requires.m_value.0 c.requires.m_value.1 _ _
    c.owners_of-first.ensures c.owners_of-second.ensures _ _ _ c.enter_turns.ensures.turns_after c.enter_turns.ensures.met_after c.add_users.ensures
