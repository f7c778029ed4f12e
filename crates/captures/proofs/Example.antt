-- Texts, and what they say.
use mathlib.Core.Path.{◌≡◌, refl}
use mathlib.Core.List.{[], ◌∷◌}
use Rattle.answer.specs.Lists.{build}
use Rattle.text.specs.Text.{codes}
use Rattle.input.specs.Engine.{first_three, three_lines, byte_of}
use Rattle.captures.specs.Engine.{six_lines, two_parsed}
use Rattle.captures.specs.Worked.{wrong_six, frames, said_two}

two_frames : said_two (codes "bw=2\ncc1=0A\ncc2=\nbw=9\ncc1=\ncc2=FF10\n") ≡ frames 2 (10 ∷ []) [] 9 [] (255 ∷ 16 ∷ [])
unfolding said_two two_parsed six_lines first_three three_lines byte_of build
two_frames = refl

-- one capture alone: line 4 is not there
one_alone : said_two (codes "bw=2\ncc1=0A\ncc2=\n") ≡ wrong_six 4
unfolding said_two two_parsed six_lines first_three three_lines
one_alone = refl

small_letter : said_two (codes "bw=2\ncc1=0A\ncc2=\nbw=9\ncc1=\ncc2=ff\n") ≡ wrong_six 6
unfolding said_two two_parsed six_lines first_three three_lines
small_letter = refl

text_after : said_two (codes "bw=2\ncc1=0A\ncc2=\nbw=9\ncc1=\ncc2=\n\n") ≡ wrong_six 7
unfolding said_two two_parsed six_lines first_three three_lines
text_after = refl
