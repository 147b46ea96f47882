-- The counted local row over a key, and how a search from the key downwards finds it.
use Rattle.std.specs.Prelude.{◌≡◌, ◌⊎◌, ℕ, Bool, true, false, ◌&&◌, not, length, filter, find, Option, Some, None, option_map, Result, Ok, Err, IsTrue, if◌then◌else◌}
use Rattle.std.specs.FinMap as fin
use Rattle.std.specs.Ordering.{is_gt}
use Rattle.std.specs.declared.cmp.Ordering.TheVariants.{Less}
use Rattle.cell_world.specs.Texts.{Text}
use Rattle.cell_world.specs.Keys.{same, contains, low_of, at_most}
use Rattle.cell_world.specs.Spelled.{IsLocalRow}
use Rattle.cell_world.specs.Stores.{Log, Locals, own_key}
use Rattle.cell_world.specs.Orders.{cell_cmp}
use Rattle.cell_world.specs.Meaning.{counts}
use Rattle.cell_world.specs.Sound.{HasLocal}
use Rattle.cell_world.specs.declared.cells.Cell.TheVariants as cell
use Rattle.cell_world.specs.declared.cells.CellKey.{CellKey}
use Rattle.cell_world.specs.declared.cells.CellKey.TheVariants as at
use Rattle.cell_world.specs.declared.cells.LocalRow.{LocalRow}
use Rattle.cell_world.specs.declared.cells.Status.{Status}
use Rattle.cell_world.specs.declared.cells.Mark.{Mark}
use Rattle.cell_world.specs.declared.cells.Mark.TheVariants.{Plain, Old, New}
use Rattle.global_tables.specs.declared.faults.StepFault.{StepFault}
use Rattle.local_tables.specs.declared.judging.Look.{Look}
use Rattle.local_tables.specs.declared.judging.Look.TheVariants.{Ends, Goes}

-- ---- the counted row over a key

-- the row is of the map, and contains the key
abbrev pub is_over : Text → Text → LocalRow → Bool
is_over name key row = same name row.map && contains row.span key

-- the status of the counted row that contains the key, or none
abbrev pub resolved : Log → Locals → Text → Text → Option Status
resolved log locals name key = option_map (λ (row : LocalRow). row.status) (find (λ row. counts log row && is_over name key row) (fin.values locals))

-- At most one row of the map counts over a key.
pub record CountApart (log : Log) (locals : Locals) (name : Text) : Type 0 where
  -- each that counts contains its own low key
  pub proper : (a : LocalRow) → HasLocal locals a → counts log a ≡ true → a.map ≡ name → IsTrue (contains a.span (low_of a.span))
  -- two that count over a key are one
  pub once : (a b : LocalRow) (key : Text) → HasLocal locals a → HasLocal locals b → counts log a ≡ true → counts log b ≡ true → a.map ≡ name → b.map ≡ name → IsTrue (contains a.span key) → IsTrue (contains b.span key) → a ≡ b

-- ---- reads of the log

-- whether a Plain row counts needs no read, and whether a marked one does needs one
abbrev pub log_reads : Mark → ℕ
log_reads Plain = 0
log_reads (Old number) = 1
log_reads New = 1

abbrev pub is_marked : Mark → Bool
is_marked Plain = false
is_marked (Old number) = true
is_marked New = true

-- how many marked rows contain the key
abbrev pub marks_over : Locals → Text → Text → ℕ
marks_over locals name key = length (filter (λ row. is_marked row.mark && is_over name key row) (fin.values locals))

-- ---- the search

-- the row isn't above the key
abbrev pub is_up_to : CellKey → LocalRow → Bool
is_up_to from row = not (is_gt (cell_cmp (own_key (cell.Local row)) from))

-- how many of the marked rows that contain the key are not above where the search stands
abbrev pub marks_left : Locals → Text → Text → CellKey → ℕ
marks_left locals name key from = length (filter (λ row. (is_marked row.mark && is_over name key row) && is_up_to from row) (fin.values locals))

-- the search stands at a local key of the map, whose low key isn't above the one that is looked for
pub record IsFrom (name key : Text) (from : CellKey) : Type 0 where
  pub low : Text
  pub number : ℕ
  pub is : from ≡ at.Local name low number
  pub below : IsTrue (at_most low key)

-- no counted row over the key is above where the search stands
abbrev pub NoneAbove : Log → Locals → Text → Text → CellKey → Type 0
NoneAbove log locals name key from = (q : LocalRow) → HasLocal locals q → counts log q ≡ true → is_over name key q ≡ true → is_up_to from q ≡ true

abbrev pub IsBefore : LocalRow → LocalRow → Type 0
IsBefore q row = cell_cmp (own_key (cell.Local q)) (own_key (cell.Local row)) ≡ Less

-- the next one of the map is at or below this key
pub record IsBelowRow (row : LocalRow) (next : CellKey) : Type 0 where
  pub low : Text
  pub number : ℕ
  pub is : next ≡ at.Local row.map low number
  pub lower : IsTrue (at_most low (low_of row.span))
  pub less : is_up_to next row ≡ false
  pub all : (q : LocalRow) → IsLocalRow q → q.map ≡ row.map → IsBefore q row → is_up_to next q ≡ true

-- the map has none below it
abbrev pub IsLowest : LocalRow → Type 0
IsLowest row = (q : LocalRow) → IsLocalRow q → q.map ≡ row.map → IsBefore q row → ⊥

-- on to the next row below
abbrev pub GoesBelow : LocalRow → Look → Type 0
GoesBelow row (Ends None) = IsLowest row
GoesBelow row (Ends (Some status)) = ⊥
GoesBelow row (Goes next) = IsBelowRow row next

-- what a row says of a key
abbrev pub Judges : Log → Text → LocalRow → Look → Type 0
Judges log key row (Ends (Some status)) = IsTrue (contains row.span key) × (counts log row ≡ true) × (status ≡ row.status)
Judges log key row (Ends None) = ((contains row.span key ≡ false) × (row.mark ≡ Plain)) ⊎ (((contains row.span key && counts log row) ≡ false) × IsLowest row)
Judges log key row (Goes next) = ((contains row.span key && counts log row) ≡ false) × IsBelowRow row next

abbrev pub reads_over : Text → LocalRow → ℕ
reads_over key row = if contains row.span key then log_reads row.mark else 0

-- where one step of the search leads
abbrev pub Looks : Log → Locals → Text → Text → Look → Type 0
Looks log locals name key (Ends status) = status ≡ resolved log locals name key
Looks log locals name key (Goes next) = NoneAbove log locals name key next

abbrev pub StaysFrom : Text → Text → Look → Type 0
StaysFrom name key (Ends status) = Unit {0}
StaysFrom name key (Goes next) = IsFrom name key next

-- how many marked rows over the key may still be judged
abbrev pub left_after : Locals → Text → Text → Result Look StepFault → ℕ
left_after locals name key (Ok (Goes next)) = marks_left locals name key next
left_after locals name key (Ok (Ends status)) = 0
left_after locals name key (Err fault) = 0
