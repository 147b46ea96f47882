-- A history that grows, as contracts see it.
use Rattle.std.specs.Prelude.{ℕ, List}
use Rattle.plain_model.specs.declared.history.Entry.{Entry}

pub record Journaled : Type 0 where
  pub entries : List Entry  -- in order
  pub room : ℕ  -- for how many more
