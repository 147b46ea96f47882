-- Where a site that was away and the global store differ, what is stray there, and what `attach` keeps of its cells.
use Rattle.std.specs.Prelude.{Bool, true, false, ◌&&◌, ◌||◌, not, List, [], ◌∷◌, ◌++◌, Option, Some, None, option_map, if◌then◌else◌, find, filter, flat_map}
use Rattle.std.specs.List.{list_any}
use Rattle.std.specs.FinMap as map
use Rattle.std.specs.FinSet as set
use Rattle.cell_world.specs.Texts.{Text}
use Rattle.cell_world.specs.Keys.{same, below, contains, overlaps, low_of}
use Rattle.cell_world.specs.KeyForms.{is_span_of}
use Rattle.cell_world.specs.Stores.{Store, Maps, Shards, Tables, Mappings, Locals, local_key}
use Rattle.cell_world.specs.Plain.{PlainState, Owner, owner}
use Rattle.cell_world.specs.Meaning.{is_at}
use Rattle.cell_world.specs.declared.operations.Piece.{Piece}
use Rattle.cell_world.specs.declared.cells.LocalRow.{LocalRow}
use Rattle.cell_world.specs.declared.cells.RowName.{RowName}
use Rattle.cell_world.specs.declared.cells.MapKind.{MapKind}
use Rattle.cell_world.specs.declared.cells.MapKind.TheVariants as kind
use Rattle.cell_world.specs.declared.cells.KeyType.{KeyType}
use Rattle.cell_world.specs.declared.cells.Away.{Away}
use Rattle.cell_world.specs.declared.cells.Mark.{Mark}
use Rattle.cell_world.specs.declared.cells.Mark.TheVariants as mark
use Rattle.cell_world.specs.declared.cells.Status.{Status}
use Rattle.cell_world.specs.declared.cells.Status.TheVariants.{Online, Offline}
use Rattle.cell_world.specs.declared.spans.High.TheVariants.{At, Max}
use Rattle.cell_world.specs.declared.spans.Span.{Span}
use Rattle.cell_world.specs.declared.spans.Span.TheVariants.{Range, Point}
use Rattle.plain_model.specs.declared.replies.Label.TheVariants.{GlobalOnly, ShardOnly, Both}
use Rattle.plain_model.specs.declared.replies.Difference.{Difference}

-- ---- what the two sides say

-- the mappings of a map at a location
abbrev pub mappings_at : Mappings → Text → Text → List Piece
mappings_at mappings location name = filter (λ p. same name p.map && same p.location location) (map.values mappings)

-- the local rows of a map
abbrev pub local_rows_of : Locals → Text → List LocalRow
local_rows_of locals name = filter (λ row. same name row.map) (map.values locals)

-- the status of the first mapping that contains the key
abbrev pub global_status : List Piece → Text → Option Status
global_status pieces key = option_map (λ p. p.status) (find (λ p. contains p.span key) pieces)

-- the status of the first local row that contains the key
abbrev pub local_status : List LocalRow → Text → Option Status
local_status rows key = option_map (λ row. row.status) (find (λ row. contains row.span key) rows)

-- ---- the parts of the key space

-- the keys at which a span begins and ends
abbrev pub cuts_of : Span → List Text
cuts_of (Range low (At high)) = low ∷ high ∷ []
cuts_of (Range low Max) = low ∷ []
cuts_of (Point at) = at ∷ []

-- the key in its place in a list in order, once
abbrev pub in_place : Text → List Text → List Text
in_place key [] = key ∷ []
in_place key (k ∷ ks) = if below key k then key ∷ k ∷ ks else if same key k then k ∷ ks else k ∷ in_place key ks

-- the keys in order, each once
abbrev pub in_order : List Text → List Text
in_order [] = []
in_order (key ∷ keys) = in_place key (in_order keys)

-- the keys at which the key space is cut: all ends of the mappings and of the local rows
abbrev pub cut_keys : List Piece → List LocalRow → List Text
cut_keys pieces rows = in_order (flat_map (λ p. cuts_of p.span) pieces ++ flat_map (λ row. cuts_of row.span) rows)

-- from each cut up to the next, and from the last one on; no span begins before the first
abbrev pub parts_between : List Text → List Span
parts_between [] = []
parts_between (low ∷ []) = Range low Max ∷ []
parts_between (low ∷ high ∷ more) = Range low (At high) ∷ parts_between (high ∷ more)

abbrev pub points_at : List Text → List Span
points_at [] = []
points_at (at ∷ more) = Point at ∷ points_at more

-- the parts in key order: of a range map those between the cuts, of a list map the points
abbrev pub parts_of : MapKind → List Text → List Span
parts_of kind.Range cuts = parts_between cuts
parts_of kind.List cuts = points_at cuts

-- ---- differences

-- The difference of a part whose global status and local status are these: none where they are one.
abbrev pub difference_at : Span → Option Status → Option Status → List Difference
difference_at part None None = []
difference_at part (Some global) None = record { span = part; label = GlobalOnly; global = Some global; shard = None } ∷ []
difference_at part None (Some shard) = record { span = part; label = ShardOnly; global = None; shard = Some shard } ∷ []
difference_at part (Some Online) (Some Online) = []
difference_at part (Some Offline) (Some Offline) = []
difference_at part (Some global) (Some shard) = record { span = part; label = Both; global = Some global; shard = Some shard } ∷ []

abbrev pub differing : List Piece → List LocalRow → List Span → List Difference
differing pieces rows [] = []
differing pieces rows (part ∷ parts) = difference_at part (global_status pieces (low_of part)) (local_status rows (low_of part)) ++ differing pieces rows parts

-- the differences between mappings and local rows, in key order
abbrev pub differences_of : MapKind → List Piece → List LocalRow → List Difference
differences_of kind pieces rows = differing pieces rows (parts_of kind (cut_keys pieces rows))

-- There are none of a map that doesn't stand, and none at an attached site.
abbrev pub differences_where : Option (MapKind × KeyType) → Option Away → List Piece → List LocalRow → List Difference
differences_where None away pieces rows = []
differences_where (Some m) None pieces rows = []
differences_where (Some m) (Some away) pieces rows = differences_of m.0 pieces rows

-- the differences of a site and a map
abbrev pub differences : PlainState → Text → Text → List Difference
differences s location name = differences_where (map.get s.maps name) (map.get s.away location) (mappings_at s.mappings location name) (local_rows_of (s.held location).locals name)

-- ---- stray rows

-- The row's map doesn't stand or doesn't have its table, or its key isn't owned by this site.
abbrev pub is_stray : Maps → Tables → Owner → Text → RowName → Bool
is_stray maps tables owner_of location row =
    not (map.contains_key maps row.map) || (not (set.contains tables (row.map, row.table)) || not (is_at location (owner_of row.map row.key)))

-- the stray rows that a site holds, in cell order
abbrev pub stray_rows : PlainState → Text → List RowName
stray_rows s location = filter (is_stray s.maps s.tables (owner s) location) (map.keys (s.held location).rows)

-- ---- what `attach` keeps

abbrev pub is_old : Mark → Bool
is_old (mark.Old p) = true
is_old mark.New = false
is_old mark.Plain = false

-- The span is one of the map's kind and key type; of a map that doesn't stand none is.
abbrev pub fits_map : Option (MapKind × KeyType) → Span → Bool
fits_map None span = false
fits_map (Some m) span = is_span_of m.0 m.1 span

-- The row isn't marked Old, the site is a shard of its map, and its span is one of its map.
abbrev pub may_stay : Maps → Shards → Text → LocalRow → Bool
may_stay maps shards location row = not (is_old row.mark) && (set.contains shards (row.map, location) && fits_map (map.get maps row.map) row.span)

abbrev pub overlaps_one : LocalRow → List LocalRow → Bool
overlaps_one row kept = list_any (λ other. same row.map other.map && overlaps row.span other.span) kept

-- of the rows, taken in order, those that overlap no earlier one that is kept; after those kept so far
abbrev pub kept_rows : List LocalRow → List LocalRow → List LocalRow
kept_rows kept [] = kept
kept_rows kept (row ∷ rows) = if overlaps_one row kept then kept_rows kept rows else kept_rows (kept ++ row ∷ []) rows

-- a kept row becomes Plain and gets the number 0
abbrev pub as_plain : LocalRow → LocalRow
as_plain row = record row { number = 0; mark = mark.Plain }

abbrev pub plain_rows : List LocalRow → Locals
plain_rows [] = map.empty
plain_rows (row ∷ rows) = map.insert (plain_rows rows) (local_key (as_plain row)) (as_plain row)

-- the local rows that are kept: in order of map, low key and number each that may stay and overlaps no earlier one
abbrev pub clean_locals : Maps → Shards → Text → Locals → Locals
clean_locals maps shards location locals = plain_rows (kept_rows [] (filter (may_stay maps shards location) (map.values locals)))

-- What `attach` makes of a site's cells: of the local rows those that are kept, and all other cells as they are.
abbrev pub clean : PlainState → Text → Store → Store
clean s location store = record store { locals = clean_locals s.maps s.shards location store.locals }
