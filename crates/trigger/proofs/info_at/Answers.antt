-- `trigger::info_at` meets its contract: the two windows are one field.
use Rattle.std.proofs.Common.{◌≡◌, sym, ◌∙◌, ℕ, ◌+◌, ◌*◌, arith}
use Rattle.bits.proofs.Fields.{field_split}
use Rattle.trigger.proofs.info_at.Goals as goal

pub returns : goal.returns
returns c =
    two c.from.result c.from-2.result (c.from.ensures ∙ c.field_at-low.ensures) (c.from-2.ensures ∙ c.field_at-high.ensures)
    ∙ sym (field_split c.args.entries.now (40 * c.args.i) 15 25)
  where
    two : (a b : ℕ) {x y : ℕ} → a ≡ x → b ≡ y → a + 32768 * b ≡ x + y * 32768
    two a b e f = omega (arith, e, f)
