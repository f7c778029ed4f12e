-- Engine: the line of a User field from the number that the code keeps of it (`user_codes/specs/Engine.antt`). The contracts of the code cite it;
-- nobody has to believe it: `compare/proofs/Coded.antt`.
use Rattle.std.specs.Prelude.{List, ◌++◌, ℕ, ◌+◌, ◌/◌, ◌%◌}
use Rattle.resource.specs.Engine.{resource_named}
use Rattle.text.specs.Text.{codes, keyed}
use Rattle.resource_line.specs.ResourceLine.{ru_name}
use Rattle.lines.specs.Lines.{id_text}
use Rattle.compared.specs.Text.{bits_text, side_text}

-- what a User field's line says of its bits
unfoldable pub bits_part : ℕ → ℕ → List ℕ
bits_part i f = keyed (codes "user=") (i + 1) ++ codes " sta=" ++ id_text (f % 2048) ++ codes " bits=" ++ bits_text f ++ codes " "

-- the line of the i-th User field of frame s, by its number
unfoldable pub code_line : ℕ → ℕ → ℕ → List ℕ
code_line s i x =
    side_text s
    ++ bits_part i (x % 4194304)
    ++ ru_name (x / 4194304 / 4096 / 256 % 256) (resource_named (x / 4194304 % 4096) (x / 4194304 / 4096 % 256))
    ++ codes "\n"
