-- What reading at a bit, and walking a whole channel, comes to.
--
-- 01, "Bandwidth and channels": "A reading position that carries its channel's bytes with it is wanted, after the same walk stands over
-- plain bytes and a bit number." Everything here is said of a channel's bytes and a bit number, by the definitions of `bits` and `channel`.
use Rattle.std.specs.Prelude.{ℕ, ◌+◌, ◌-◌, ◌*◌, ◌/◌, ◌%◌, cond, List, length, replicate, eqb, ltb, Result, Ok, Err}
use Rattle.answer.specs.Lists.{filled}
use Rattle.bits.specs.Bits.{field, lacks}
use Rattle.resource.specs.Values.{fields_of}
use Rattle.channel.specs.Layout.{overflow, common, subfields, value_at, value, total, count, user_at, end_of}
use Rattle.position.specs.declared.Lacks.{Lacks}
use Rattle.position.specs.declared.CommonField.{CommonField}
use Rattle.position.specs.declared.Channel.{Channel}
use Rattle.position.specs.declared.Users.{Users}

-- ---- a read: the value of the n bits from `at` and the bit after them, or how many of the n lie past the end
unfoldable pub read_at : List ℕ → ℕ → ℕ → Result (ℕ × ℕ) Lacks
read_at s at n = cond (eqb (lacks s at n) 0) (Ok (field s at n, at + n)) (Err (record { bits = lacks s at n }))

-- how many bits there are from `at` on
unfoldable pub left_at : List ℕ → ℕ → ℕ
left_at s at = 8 * length s - at

-- ---- the walk, of a channel that the bandwidth has

-- "User blocks of two fields of 22 bits": the 22 bits of User field i
unfoldable pub user : ℕ → List ℕ → ℕ → ℕ
user bw s i = field s (user_at bw i) 22

-- "common field cut short", or else "User blocks cut short": by how many bits. By none exactly where answers 3 and 9 pass
-- (`proofs/Lacking.antt`: `lacking_uncut`, `uncut_lacking`).
unfoldable pub first_lacking : ℕ → ℕ → ℕ
first_lacking c u = cond (ltb 0 c) c u

-- all that it holds, by `channel`'s definitions; bits past the end are 0, as in `bits`. The number of a channel that the bandwidth has makes no
-- difference to its count (`proofs/Whole.antt`: `count_any`).
unfoldable pub whole : ℕ → List ℕ → Channel
whole bw s = record {
  overflow = overflow s;
  values = filled (value bw s) (subfields bw) (replicate 8 0);
  count = count bw 1 s;
  users = filled (user bw s) (count bw 1 s) (replicate 72 0);
  end = end_of bw (count bw 1 s);
  lacking = first_lacking (lacks s 0 (common bw)) (lacks s 0 (end_of bw (count bw 1 s)));
}

-- ---- its two parts, from any bit of the channel on; from the first one they are `whole` (`proofs/Whole.antt`: `walk_whole`)

-- a common field that starts at `at`
unfoldable pub value_from : List ℕ → ℕ → ℕ → ℕ → ℕ
value_from s at bw k = field s (at + value_at bw k) 9

unfoldable pub common_at : List ℕ → ℕ → ℕ → CommonField
common_at s at bw = record {
  overflow = field s at 17;
  values = filled (value_from s at bw) (subfields bw) (replicate 8 0);
  count = total (λ k. fields_of (value_from s at bw k)) (subfields bw);
  next = at + common bw;
}

-- User blocks that start at `at`: field i, and the bit after the last block of n fields
unfoldable pub user_from : List ℕ → ℕ → ℕ → ℕ
user_from s at i = field s (at + 54 * (i / 2) + 22 * (i % 2)) 22

unfoldable pub end_from : ℕ → ℕ → ℕ
end_from at n = at + 54 * (n / 2) + 32 * (n % 2)

unfoldable pub users_at : List ℕ → ℕ → ℕ → Users
users_at s at n = record { users = filled (user_from s at) n (replicate 72 0); next = end_from at n }

-- they and the common field before them
unfoldable pub blocks_at : List ℕ → ℕ → CommonField → Channel
blocks_at s at c = record {
  overflow = c.overflow;
  values = c.values;
  count = c.count;
  users = filled (user_from s at) c.count (replicate 72 0);
  end = end_from at c.count;
  lacking = first_lacking (lacks s 0 at) (lacks s 0 (end_from at c.count));
}
