-- A change that is copied edit by edit.
use Rattle.std.proofs.Common.{◌<◌, ℕ, suc, zero, List, [], ◌∷◌, length, get_or, arith}
use Rattle.cell_world.specs.Spelled.{IsEdit, AreEdits}
use Rattle.cell_world.specs.declared.changes.Edit.{Edit}

-- each of the edits is one
pub edit_within : (edits : List Edit) (i : ℕ) (d : Edit) → AreEdits edits → i < length edits → IsEdit (get_or edits i d)
edit_within [] i d all less = absurd (omega arith)
edit_within (e ∷ es) zero d all less = all.0
edit_within (e ∷ es) (suc i) d all less = edit_within es i d all.1 (omega arith)
