--
use Rattle.std.proofs.Common.{◌≡◌, ◌∙◌, ap, arith, Option, ℕ}
use Rattle.std.specs.Option.{unwrap_or}
use Rattle.compare.specs.Engine.{code_in72}
use Rattle.compare.proofs.Coded.{in72}
use Rattle.compare.proofs.code_of.Goals as goal

pub returns : goal.returns
returns c =
    c.unwrap_or.ensures ∙ ap (λ (o : Option ℕ). unwrap_or o 0) c.copied.ensures ∙ c.get.ensures.lookup.4 (omega arith) 0
    ∙ in72 _ _ c.told-codes
