use Rattle.std.proofs.Common.{◌≡◌, ℕ, true≢false, refl, sym, ap, ◌∙◌, [], ◌∷◌, arith, is_some}
use Rattle.cell_world.specs.Marked.{IsOld}
use Rattle.cell_world.specs.declared.cells.Mark.TheVariants.{Plain, Old}
use Rattle.cell_world.specs.declared.cells.Status.TheVariants.{Offline}
use Rattle.world_examples.specs.Examples.{site_a, free_piece, local_row}
use Rattle.world_examples.proofs.Marking.{old_number, not_marked, source_done, out_of_log, in_log}
use Rattle.world_examples.proofs.stages.stage_source_done.Goals as goal

pub returns-clause-accepted : goal.returns-clause-accepted
returns-clause-accepted c = (in_log, (source_done, tt))

pub returns-clause-not_in_log : goal.returns-clause-not_in_log
returns-clause-not_in_log c = λ h. true≢false (sym (ap is_some h.0) ∙ ap is_some out_of_log)

pub returns-clause-unmarked : goal.returns-clause-unmarked
returns-clause-unmarked c = λ h. not_marked (local_row 0 5 0 Offline Plain ∷ []) tt (IsOld 1) (free_piece 0 5 site_a Offline) ((λ m e. let number : ◌≡◌ {A = ℕ} 0 1 = ap old_number e in omega arith), tt) (h.1.0.olds.0 refl)

pub returns-clause-marked_otherwise : goal.returns-clause-marked_otherwise
returns-clause-marked_otherwise c = λ h. not_marked (local_row 0 5 0 Offline (Old 7) ∷ []) tt (IsOld 1) (free_piece 0 5 site_a Offline) ((λ m e. let number : ◌≡◌ {A = ℕ} 7 1 = ap old_number e in omega arith), tt) (h.1.0.olds.0 refl)
