use Rattle.std.proofs.Common.{◌≡◌, true≢false, refl, sym, ap, [], ◌∷◌}
use Rattle.std.specs.Prelude.{IsTrue}
use Rattle.cell_world.specs.Sweep.{reaches}
use Rattle.cell_world.specs.declared.cells.Mark.TheVariants.{Plain, Old, New}
use Rattle.cell_world.specs.declared.cells.Status.TheVariants.{Online, Offline}
use Rattle.world_examples.specs.Examples.{local_row}
use Rattle.world_examples.specs.Sounds.{move_logged}
use Rattle.world_examples.proofs.ShortTables.{local_in}
use Rattle.world_examples.proofs.Marking.{each_row, is_plain}
use Rattle.world_examples.proofs.steps.rows_swept_plain.Goals as goal

pub returns-clause-accepted : goal.returns-clause-accepted
returns-clause-accepted c = each_row (local_row 0 5 0 Offline Plain ∷ local_row 5 9 0 Online (Old 7) ∷ []) tt (λ row. IsTrue (reaches move_logged row) → row.mark ≡ Plain) ((λ r. refl), ((λ r. absurd (true≢false (sym r))), tt))

pub returns-clause-old : goal.returns-clause-old
returns-clause-old c = λ h. true≢false (sym (ap is_plain (h (local_row 0 5 0 Offline (Old 1)) (local_in (local_row 0 5 0 Offline (Old 1) ∷ []) tt (local_row 0 5 0 Offline (Old 1)) refl) refl)))

pub returns-clause-new : goal.returns-clause-new
returns-clause-new c = λ h. true≢false (sym (ap is_plain (h (local_row 0 5 1 Offline New) (local_in (local_row 0 5 1 Offline New ∷ []) tt (local_row 0 5 1 Offline New) refl) refl)))

pub returns-clause-of_another : goal.returns-clause-of_another
returns-clause-of_another c = λ h. true≢false (sym (ap is_plain (h (local_row 3 9 0 Online (Old 7)) (local_in (local_row 3 9 0 Online (Old 7) ∷ []) tt (local_row 3 9 0 Online (Old 7)) refl) refl)))
