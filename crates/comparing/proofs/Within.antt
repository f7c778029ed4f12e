-- The program's text is never longer than `compare_size`: no comparison is, and the three lines of 22 are short.
use mathlib.Core.List.{List}
use Prim.Native.Nat.{ℕ, ◌≤◌}
use native.Mathlib.Omega.{arith}
use lib.ListN.{length, length-append}
use Rattle.answer.specs.Answer.{no}
use Rattle.text.specs.Text.{Wrote}
use Rattle.text.proofs.Laws.{count, dec_short}
use Rattle.captures.specs.Worked.{SaidTwo, wrong_six, frames, said_two}
use Rattle.lines.specs.Lines.{refusal_text}
use Rattle.listed.specs.Listing.{refusal_of}
use Rattle.compare_size.specs.Size.{compare_size}
use Rattle.compared.specs.Program.{said_of_two, compared_text}
use Rattle.compare_size.proofs.Within.{comparison_within}

wrong_short : (k : ℕ) → length (refusal_of (no 22 0 k)) ≤ 84
unfolding refusal_text
wrong_short k = simp length-append (omega (arith, dec_short 22, dec_short 0, dec_short k))

pub program_within : (s : List ℕ) → length (compared_text s) ≤ compare_size
unfolding compared_text compare_size
program_within s = go (said_two s)
  where
    go : (x : SaidTwo) → length (said_of_two x) ≤ compare_size
    go (wrong_six k) = omega (arith, wrong_short k)
    go (frames bw a b bw' a' b') = comparison_within bw a b bw' a' b'

-- which is how many bytes `respond` says it wrote
pub respond_within : {d e : List ℕ} {r : ℕ} (s : List ℕ) → Wrote d 0 (compared_text s) e r → r ≤ 29466
unfolding compare_size
respond_within s w = omega (arith, count w, program_within s)
