-- The first cell of a kind from a key on.
use Rattle.std.specs.Prelude.{◌≡◌, Bool, true, false, Option, Some, None, ◌∷◌, [], ◌^◌, ◌-◌, replicate}
use Rattle.std.specs.Ordering.{is_lt}
use Rattle.std.specs.declared.cmp.Ordering.TheVariants.{Less}
use Rattle.std.specs.declared.ops.Bound.{Bound}
use Rattle.std.specs.declared.ops.Bound.TheVariants.{Included, Excluded}
use Rattle.cell_world.specs.Texts.{Text}
use Rattle.cell_world.specs.Orders.{cell_cmp, kind_number}
use Rattle.cell_world.specs.Stores.{Store, own_key, Stands}
use Rattle.cell_world.specs.declared.limits.TheConstants.{NAME_BYTES}
use Rattle.cell_world.specs.declared.cells.Cell.{Cell}
use Rattle.cell_world.specs.declared.cells.Cell.TheVariants as cell
use Rattle.cell_world.specs.declared.cells.RowName.{RowName}
use Rattle.cell_world.specs.declared.cells.CellKey.{CellKey}
use Rattle.world_memory.specs.declared.contents.SiteKey.{SiteKey}

-- at or above a key, or past it
abbrev pub IsOn : Bool → CellKey → CellKey → Type 0
IsOn true key k = cell_cmp key k ≡ Less
IsOn false key k = is_lt (cell_cmp k key) ≡ false

-- the cell is of the same kind as the key, and at or above it, or past it
pub record IsFrom (key : CellKey) (past : Bool) (c : Cell) : Type 0 where
  pub kind : kind_number (own_key c) ≡ kind_number key
  pub order : IsOn past key (own_key c)

-- the least of these cells in a store
abbrev pub IsFirst : Store → CellKey → Bool → Option Cell → Type 0
IsFirst s key past None = (c : Cell) → Stands s c → IsFrom key past c → ⊥
IsFirst s key past (Some found) = Stands s found × IsFrom key past found × ((c : Cell) → Stands s c → IsFrom key past c → is_lt (cell_cmp (own_key c) (own_key found)) ≡ false)

-- where a search begins
abbrev pub begin_at : Bool → SiteKey → Bound SiteKey
begin_at true from = Excluded from
begin_at false from = Included from

-- ---- rows

abbrev pub row_named : Cell → Option RowName
row_named (cell.Row row bytes) = Some row
row_named c = None

-- the name of a row, if this is one
abbrev pub row_within : Option Cell → Option RowName
row_within None = None
row_within (Some c) = row_named c

-- a row name that is at or below all rows of the key; with `past`, at or above all of them
abbrev pub beside : Bool → Text → Text → RowName
beside true map key = record { map = map; key = key; table = replicate NAME_BYTES 122; number = 2 ^ 64 - 1 }
beside false map key = record { map = map; key = key; table = 65 ∷ []; number = 0 }
