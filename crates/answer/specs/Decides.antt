-- A test that decides a fact.
use Rattle.std.specs.Prelude.{◌≡◌, Bool, true, false}

-- t is true where A holds, and false where it does not
pub record Decides (t : Bool) (A : Type 0) : Type 0 where
  pub yes : t ≡ true → A
  pub no : t ≡ false → A → ⊥
