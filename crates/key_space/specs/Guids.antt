-- Which bytes a guid has.
use Rattle.std.specs.Prelude.{◌≡◌, length, IsTrue}
use Rattle.cell_world.specs.Texts.{Text, are_bytes}

-- sixteen bytes, in the order of a guid's text
pub record IsGuid (bytes : Text) : Type 0 where
  pub all_bytes : IsTrue (are_bytes bytes)
  pub count : length bytes ≡ 16
