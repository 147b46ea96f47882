-- Why bytes are no cell.
use Rattle.std.specs.Prelude.{ℕ, List}
use Rattle.text_scan.specs.Places.{Leaves}
use Rattle.record_form.specs.Layout.{IsSpelling}
use Rattle.record_form.specs.declared.faults.CellFault.{CellFault}
use Rattle.record_form.specs.declared.faults.CellFault.TheVariants.{Place, Memory}

-- The place is the first byte at which no spelling goes on, or the length where the bytes end too early. Memory is short only for a cell that is spelled.
abbrev pub IsCellFault : List ℕ → CellFault → Type 0
IsCellFault bytes (Place place) = Leaves IsSpelling bytes place
IsCellFault bytes Memory = IsSpelling bytes
