-- What is walked is held in eight values and 72 User fields.
use Rattle.std.proofs.Common.{◌≡◌, ◌≤◌, length, ℕ, List}
use Rattle.position.specs.declared.Channel.{Channel}
use Rattle.position.specs.Walk.{whole}
use Rattle.position.proofs.Whole.{whole_count, whole_values, whole_users}
use Rattle.vectors.proofs.walks.walk.Goals as goal

room : (bw : ℕ) (s : List ℕ) (x : Channel) → x ≡ whole bw s → (x.count ≤ 72) × (length x.values ≡ 8) × (length x.users ≡ 72)
room bw s x e = rw e (whole_count bw s, whole_values bw s, whole_users bw s)

pub print_channel-requires : goal.print_channel-requires
print_channel-requires g c = room _ _ _ c.walk_through.ensures
