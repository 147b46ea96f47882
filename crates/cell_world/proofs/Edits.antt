-- Changes put nothing but cells.
use Rattle.std.specs.Prelude.{◌≡◌, Bool, true, false, List, [], ◌∷◌, ◌++◌, if◌then◌else◌}
use Rattle.std.proofs.Common.{sym, subst}
use Rattle.cell_world.specs.Spelled.{IsEdit, AreEdits}
use Rattle.cell_world.specs.declared.changes.Edit.{Edit}

-- A change with one edit more at its end still does.
pub one_more : (edits : List Edit) (edit : Edit) → AreEdits edits → IsEdit edit → AreEdits (edits ++ edit ∷ [])
one_more [] edit all one = (one, tt)
one_more (e ∷ es) edit all one = (all.0, one_more es edit all.1 one)

-- It does whether or not there was memory for the edit.
pub tried : (added : Bool) (old new : List Edit) (edit : Edit) → new ≡ (if added then old ++ edit ∷ [] else old) → AreEdits old → IsEdit edit → AreEdits new
tried true old new edit is all one = subst AreEdits (sym is) (one_more old edit all one)
tried false old new edit is all one = subst AreEdits (sym is) all
