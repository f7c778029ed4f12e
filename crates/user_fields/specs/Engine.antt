-- Engine: what is gathered over the User blocks of a channel. The contracts of the code cite it; nobody has to believe it: `proofs/Fields.antt`.
use Rattle.std.specs.Prelude.{Bool, List, ℕ}
use Rattle.answer.specs.Every.{every}
use Rattle.block.specs.Check.{right}
use Rattle.channel.specs.Layout.{block_at, covered, blocks}

-- block b of n fields is right
unfoldable pub block_right : ℕ → List ℕ → ℕ → ℕ → Bool
block_right bw s n b = right s (block_at bw b) (covered n b)

-- all blocks of n fields are
unfoldable pub users_right : ℕ → List ℕ → ℕ → Bool
users_right bw s n = every (block_right bw s n) (blocks n)
