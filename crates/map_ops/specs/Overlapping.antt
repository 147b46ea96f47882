-- Whether a mapping shares a key with a span, and the two mappings that decide it.
use Rattle.std.specs.Prelude.{◌≡◌, Bool, false, Option, Some, None}
use Rattle.std.specs.FinMap as map
use Rattle.std.specs.List.{list_any}
use Rattle.std.specs.Ordering.{is_lt}
use Rattle.cell_world.specs.Texts.{Text}
use Rattle.cell_world.specs.Finding.{IsFromOn}
use Rattle.cell_world.specs.Orders.{cell_cmp}
use Rattle.cell_world.specs.Stores.{Store, Mappings, own_key, Stands}
use Rattle.cell_world.specs.declared.cells.Cell.{Cell}
use Rattle.cell_world.specs.declared.cells.CellKey.{CellKey}
use Rattle.cell_world.specs.declared.operations.Piece.{Piece}
use Rattle.cell_world.specs.declared.spans.Span.{Span}
use Rattle.plain_model.specs.Refusing.{overlaps_in, if_there}

-- a mapping of the map shares a key with the span
abbrev pub has_overlap : Mappings → Text → Span → Bool
has_overlap mappings name span = list_any (overlaps_in name span) (map.values mappings)

-- this mapping does, if there is one
abbrev pub is_overlapping : Text → Span → Option Piece → Bool
is_overlapping name span piece = if_there (overlaps_in name span) piece

-- The first cell of the key's kind, of whatever map, that is at or above the key.
abbrev pub IsFirstFrom : Store → CellKey → Option Cell → Type 0
IsFirstFrom s key None = (c : Cell) → Stands s c → IsFromOn key c → ⊥
IsFirstFrom s key (Some first) = Stands s first × IsFromOn key first × ((c : Cell) → Stands s c → IsFromOn key c → is_lt (cell_cmp (own_key c) (own_key first)) ≡ false)
