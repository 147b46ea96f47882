-- What a word says.
use Rattle.std.specs.Prelude.{ℕ}
use Rattle.cell_world.specs.Texts.{Text}
use Rattle.cell_world.specs.declared.cells.MapKind.{MapKind}
use Rattle.cell_world.specs.declared.cells.KeyType.{KeyType}
use Rattle.cell_world.specs.declared.cells.Token.{Token}
use Rattle.plain_model.specs.declared.commands.HighText.{HighText}
use Rattle.plain_model.specs.declared.commands.Side.{Side}

pub data Value : Type 0 where
  -- a name, a location, a key or the value of a row: its bytes
  OfBytes : Text → Value
  OfKind : MapKind → Value
  OfType : KeyType → Value
  OfHigh : HighText → Value
  OfToken : Token → Value
  OfNumber : ℕ → Value
  OfSide : Side → Value
