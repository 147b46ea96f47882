-- What was read of a source.
use Rattle.std.specs.Prelude.{◌≡◌, ℕ, ◌≤◌, ◌<◌, ◌++◌, Option, Some, None, length}
use Rattle.cell_world.specs.Texts.{Text}

-- the most bytes of a script
abbrev pub script_limit : ℕ
script_limit = 1048576

-- where it is told, it is this
abbrev pub IfTold : Option Text → Text → Type 0
IfTold None bytes = Unit {0}
IfTold (Some told) bytes = told ≡ bytes

-- where it is told: these bytes were left, and now the rest is
abbrev pub WereTaken : Option Text → Option Text → Text → Type 0
WereTaken None after bytes = after ≡ None
WereTaken (Some left) after bytes = (rest : Text) × (after ≡ Some rest) × (left ≡ bytes ++ rest)

-- it had more bytes than these, told or not
pub record HasMore (most : ℕ) (left : Option Text) : Type 0 where
  -- what was left
  pub bytes : Text
  pub told : IfTold left bytes  -- where that is told
  pub long : most < length bytes  -- is more than these

-- at most so many bytes were taken, told or not
pub record TookAtMost (most : ℕ) (left after : Option Text) : Type 0 where
  -- what was taken
  pub taken : Text
  pub were : WereTaken left after taken  -- these and no others
  pub few : length taken ≤ most  -- is no more than these
