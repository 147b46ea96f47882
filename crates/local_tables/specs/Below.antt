-- The key just below another one.
use Rattle.std.specs.Prelude.{IsTrue}
use Rattle.cell_world.specs.Texts.{Text, is_key_form}
use Rattle.cell_world.specs.Keys as keys

-- The greatest key before another one.
pub record IsJustBelow (lower key : Text) : Type 0 where
  -- it is before it
  pub less : IsTrue (keys.below lower key)
  -- and no key between them
  pub greatest : (x : Text) → IsTrue (is_key_form x) → IsTrue (keys.below x key) → IsTrue (keys.at_most x lower)
