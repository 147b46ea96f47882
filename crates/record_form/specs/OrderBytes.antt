-- The bytes in whose order the cells of one kind stand.
use Rattle.std.specs.Prelude.{ℕ, zero, suc, List, [], ◌∷◌, ◌++◌}
use Rattle.std.specs.Int.{w32, w64, to_be_bytes}
use Rattle.cell_world.specs.Texts.{Text}
use Rattle.cell_world.specs.declared.cells.CellKey.{CellKey}
use Rattle.cell_world.specs.declared.cells.CellKey.TheVariants as at

-- a name, a table or a location, in which no 00 stands: its bytes and 00
abbrev pub ended : Text → List ℕ
ended text = text ++ 0 ∷ []

-- a key: its bytes with each 00 as 00 ff, and then 00 00
abbrev pub escaped : Text → List ℕ
escaped [] = 0 ∷ 0 ∷ []
escaped (zero ∷ bytes) = 0 ∷ 255 ∷ escaped bytes
escaped (suc b ∷ bytes) = suc b ∷ escaped bytes

-- the key fields without the kind, one after the other
abbrev pub ordered : CellKey → List ℕ
ordered (at.Map name) = ended name
ordered (at.Shard name location) = ended name ++ ended location
ordered (at.Table name table) = ended name ++ ended table
ordered (at.Piece name low) = ended name ++ escaped low
ordered (at.Log number) = to_be_bytes w64 number
ordered (at.Job number) = to_be_bytes w32 number
ordered at.Counter = []
ordered (at.SiteState location) = ended location
ordered (at.Local name low number) = ended name ++ (escaped low ++ to_be_bytes w64 number)
ordered (at.Row row) = ended row.map ++ (escaped row.key ++ (ended row.table ++ to_be_bytes w64 row.number))
