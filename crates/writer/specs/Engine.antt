-- Engine: the User words made fields where they stand. The contracts of the code cite it; nobody has to believe it: `proofs/Steps.antt`.
use Rattle.std.specs.Prelude.{◌≡◌, List, ℕ, ◌+◌, ◌≤◌, ◌<◌, length}
use Rattle.answer.specs.Lists.{at}
use Rattle.words.specs.Engine.{user_field}
use Rattle.candidate.specs.Engine.{count_in, needed}
use Rattle.judge.specs.Engine.{row_in, Begun}

-- v has the words of w, from the eleventh on as fields
pub record Turned (w v : List ℕ) : Type 0 where
  pub turned : (i : ℕ) → 10 ≤ i → i < length w → at v i ≡ user_field (at w i)

-- what both channels are put from: the row, the User fields f, n of them channel 1's, the bytes needed, the overflow, and the parts of channel 1's common field
pub record Given (bw : ℕ) (w row f : List ℕ) (n need v x y : ℕ) : Type 0 where
  pub known : bw ≤ 4
  pub the_row : row ≡ row_in bw w
  pub count_1 : n ≡ count_in bw w 1
  pub count_all : length f ≡ count_in bw w 1 + count_in bw w 2
  pub each : (i : ℕ) → i < length f → at f i ≡ user_field (at w (10 + i))
  pub enough : need ≡ needed bw w
  pub begun : Begun bw w v x y
