-- What a world's calls find in a store.
use Rattle.std.specs.Prelude.{◌≡◌, ◌⊎◌, ℕ, ◌≤◌, Bool, false, List, [], ◌∷◌, length, Option, Some, None, IsSome, IsTrue, if◌then◌else◌}
use Rattle.std.specs.FinMap as map
use Rattle.std.specs.Ordering.{is_lt, is_gt}
use Rattle.std.specs.declared.cmp.Ordering.TheVariants.{Less}
use Rattle.cell_world.specs.Texts.{Text}
use Rattle.cell_world.specs.Lists.{IsOneOf}
use Rattle.cell_world.specs.Keys.{below, at_most}
use Rattle.cell_world.specs.Orders.{kind_number, map_of, cell_cmp}
use Rattle.cell_world.specs.Stores.{Store, Rows, own_key, Stands}
use Rattle.cell_world.specs.declared.cells.Cell.{Cell}
use Rattle.cell_world.specs.declared.cells.CellKey.{CellKey}

-- ---- floor: the greatest cell of the same kind and map that is at or below the key

pub record IsAtOrBelow (key : CellKey) (c : Cell) : Type 0 where
  pub kind : kind_number (own_key c) ≡ kind_number key  -- of the same kind
  pub map : map_of (own_key c) ≡ map_of key  -- and the same map
  pub order : is_gt (cell_cmp (own_key c) key) ≡ false  -- not above the key

abbrev pub IsFloor : Store → CellKey → Option Cell → Type 0
IsFloor s key None = (c : Cell) → Stands s c → IsAtOrBelow key c → ⊥
IsFloor s key (Some found) = Stands s found × IsAtOrBelow key found × ((c : Cell) → Stands s c → IsAtOrBelow key c → is_gt (cell_cmp (own_key c) (own_key found)) ≡ false)

-- ---- scan: the first cells at or above the key of the same kind, of whatever map, in cell order

pub record IsFromOn (key : CellKey) (c : Cell) : Type 0 where
  pub kind : kind_number (own_key c) ≡ kind_number key  -- of the same kind
  pub order : is_lt (cell_cmp (own_key c) key) ≡ false  -- not below the key

-- each is before the next
abbrev pub Rises : List Cell → Type 0
Rises [] = Unit {0}
Rises (c ∷ []) = Unit {0}
Rises (c ∷ d ∷ cs) = (cell_cmp (own_key c) (own_key d) ≡ Less) × Rises (d ∷ cs)

-- the first `limit` of them, or all where there are fewer
pub record IsScan (s : Store) (key : CellKey) (limit : ℕ) (found : List Cell) : Type 0 where
  -- they are in cell order, none twice
  pub rises : Rises found
  -- each stands, and is one of those looked for
  pub stand : (c : Cell) → IsOneOf found c → Stands s c × IsFromOn key c
  -- no more than asked for
  pub at_most : length found ≤ limit
  -- a cell that isn't among them comes after all of them, and there are `limit` of them
  pub all : (c : Cell) → Stands s c → IsFromOn key c → IsOneOf found c ⊎ ((length found ≡ limit) × ((d : Cell) → IsOneOf found d → cell_cmp (own_key d) (own_key c) ≡ Less))

-- ---- next_key: the least key with a row cell of the map that is at or above this one, or above it

pub record IsRowKey (rows : Rows) (name from : Text) (past : Bool) (key : Text) : Type 0 where
  -- some row cell of the map stands under the key
  pub table : Text
  pub number : ℕ
  pub stands : IsSome (map.get rows (record { map = name; key = key; table = table; number = number }))
  -- which is at or above the one given, or past it
  pub above : IsTrue (if past then below from key else at_most from key)

abbrev pub IsNextKey : Rows → Text → Text → Bool → Option Text → Type 0
IsNextKey rows name from past None = (key : Text) → IsRowKey rows name from past key → ⊥
IsNextKey rows name from past (Some found) = IsRowKey rows name from past found × ((key : Text) → IsRowKey rows name from past key → IsTrue (at_most found key))
