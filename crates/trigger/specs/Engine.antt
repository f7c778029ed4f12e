-- Engine: how the code puts the 40 bits of a record together. The contracts of the code cite it; nobody has to believe it: `Worked.antt`
-- says what it comes to.
use Rattle.std.specs.Prelude.{List, [], ◌∷◌, ℕ}
use Rattle.answer.specs.Lists.{at}
use Rattle.bits.specs.Pack.{pack}
use Rattle.trigger_values.specs.UserInfo.{info_widths}
use Rattle.record_refusals.specs.Engine.{value_named}

-- of a record's eight numbers w, B0 and PS160 being 0
unfoldable pub info_with : List ℕ → ℕ
info_with w = pack info_widths (at w 0 ∷ 0 ∷ value_named w ∷ at w 3 ∷ at w 4 ∷ at w 5 ∷ at w 6 ∷ at w 7 ∷ 0 ∷ [])
