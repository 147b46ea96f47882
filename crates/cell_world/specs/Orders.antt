-- The orders in which cells stand: those of one kind, and cell order.
use Rattle.std.specs.Prelude.{ℕ, List, [], ◌∷◌, Option, Some, None}
use Rattle.std.specs.Ordering.{nat_cmp, ordering_then}
use Rattle.std.specs.Cmp.Lexicographic.{slice_cmp}
use Rattle.std.specs.declared.cmp.Ordering.{Ordering}
use Rattle.cell_world.specs.Texts.{Text}
use Rattle.cell_world.specs.ByteOrder.{byte_cmp}
use Rattle.cell_world.specs.declared.cells.CellKey.{CellKey}
use Rattle.cell_world.specs.declared.cells.CellKey.TheVariants as at
use Rattle.cell_world.specs.declared.cells.RowName.{RowName}

-- ---- cells of one kind

-- by map, and then by location, by table or by low key
abbrev pub pair_cmp : Text × Text → Text × Text → Ordering
pair_cmp a b = ordering_then (byte_cmp a.0 b.0) (byte_cmp a.1 b.1)

-- by map, low key and number
abbrev pub local_cmp : Text × (Text × ℕ) → Text × (Text × ℕ) → Ordering
local_cmp a b = ordering_then (byte_cmp a.0 b.0) (ordering_then (byte_cmp a.1.0 b.1.0) (nat_cmp a.1.1 b.1.1))

-- by map, key, table and number
abbrev pub row_cmp : RowName → RowName → Ordering
row_cmp a b = ordering_then (byte_cmp a.map b.map) (ordering_then (byte_cmp a.key b.key) (ordering_then (byte_cmp a.table b.table) (nat_cmp a.number b.number)))

-- ---- cell order

abbrev pub kind_number : CellKey → ℕ
kind_number (at.Map name) = 1
kind_number (at.Shard name location) = 2
kind_number (at.Table name table) = 3
kind_number (at.Piece name low) = 4
kind_number (at.Log number) = 5
kind_number (at.Job number) = 6
kind_number at.Counter = 7
kind_number (at.SiteState location) = 8
kind_number (at.Local name low number) = 9
kind_number (at.Row row) = 10

-- the key's fields in order; a number is a list of one
abbrev pub fields_of : CellKey → List Text
fields_of (at.Map name) = name ∷ []
fields_of (at.Shard name location) = name ∷ location ∷ []
fields_of (at.Table name table) = name ∷ table ∷ []
fields_of (at.Piece name low) = name ∷ low ∷ []
fields_of (at.Log number) = (number ∷ []) ∷ []
fields_of (at.Job number) = (number ∷ []) ∷ []
fields_of at.Counter = []
fields_of (at.SiteState location) = location ∷ []
fields_of (at.Local name low number) = name ∷ low ∷ (number ∷ []) ∷ []
fields_of (at.Row row) = row.map ∷ row.key ∷ row.table ∷ (row.number ∷ []) ∷ []

-- by kind, and then by the key's fields
abbrev pub cell_cmp : CellKey → CellKey → Ordering
cell_cmp a b = ordering_then (nat_cmp (kind_number a) (kind_number b)) (slice_cmp byte_cmp (fields_of a) (fields_of b))

-- the map of a cell, for the kinds of which the first key field is one beside others
abbrev pub map_of : CellKey → Option Text
map_of (at.Shard name location) = Some name
map_of (at.Table name table) = Some name
map_of (at.Piece name low) = Some name
map_of (at.Local name low number) = Some name
map_of (at.Row row) = Some row.map
map_of key = None
