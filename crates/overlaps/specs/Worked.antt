-- The pairs of a list and their number, as functions. An engine works them out, and nobody has to believe it: beside them stands that they
-- are 02's (`Worked`), and `proofs/Worked.antt` shows it of all lists whose entries are accepted (`worked`).
use Rattle.std.specs.Prelude.{◌≡◌, List, ℕ, ◌*◌, ◌≤◌, ◌<◌, T, length}
use Rattle.answer.specs.Tally.{tally}
use Rattle.trigger_values.specs.UserInfo.{value_in}
use Rattle.trigger_values.specs.Values.{taken}
use Rattle.overlaps.specs.Overlaps.{entries_in, info_at, Reported}
use Rattle.masks.specs.Engine.{hit, pairs_to}
use Rattle.overlaps.specs.Engine.{mask_at}

unfoldable pub pair_count : List ℕ → ℕ
pair_count es = tally (hit (mask_at es) (entries_in es)) (32 * entries_in es)

unfoldable pub pair_bytes : List ℕ → List ℕ
pair_bytes es = pairs_to (mask_at es) (entries_in es) (32 * entries_in es)

-- of a list of at most 32 entries whose values the bandwidth takes
pub record Worked (bw : ℕ) (es : List ℕ) : Type 0 where
  pub two_each : length (pair_bytes es) ≡ 2 * pair_count es
  pub reported : bw ≤ 2 → entries_in es ≤ 32 → ((i : ℕ) → i < entries_in es → T (taken bw (value_in (info_at es i))))
      → Reported bw es (pair_count es) (pair_bytes es)
