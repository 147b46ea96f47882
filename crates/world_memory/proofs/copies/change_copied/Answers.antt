use Rattle.std.proofs.Common.{sym, subst, IsTrue}
use Rattle.cell_world.specs.Spelled.{IsEdit, AreEdits, is_spelled}
use Rattle.cell_world.specs.declared.changes.Edit.TheVariants.{Put}
use Rattle.world_memory.proofs.Changes.{edit_within}
use Rattle.world_memory.proofs.copies.change_copied.Goals as goal

pub put-requires : goal.put-requires
put-requires c =
    let all : AreEdits c.as_slice-edits.result.now = subst AreEdits (sym c.as_slice-edits.ensures) c.known.ensures in
    let one : IsEdit c.edit-item.result = subst IsEdit (sym c.edit-item.is) (edit_within c.as_slice-edits.result.now c.loop-edit.edit-index c.edit-item.result all c.loop-edit-test.true) in
    let put : IsEdit (Put c.in-Put.cell) = subst IsEdit c.in-Put.is one in
    subst (λ x. IsTrue (is_spelled x)) (sym c.in_ok-cell_copied-in-Put.ensures) put.spelled
