use Rattle.std.proofs.Common.{◌≡◌, ℕ, ◌<◌, true≢false, refl, sym, ap, ◌∙◌, [], ◌∷◌, arith, is_some}
use Rattle.cell_world.specs.declared.cells.Away.TheVariants.{Detached}
use Rattle.cell_world.specs.declared.cells.Mark.TheVariants.{Plain}
use Rattle.cell_world.specs.declared.cells.Status.TheVariants.{Offline}
use Rattle.world_examples.specs.Examples.{site_a, local_row}
use Rattle.world_examples.proofs.ImageParts.{a_attached, b_attached}
use Rattle.world_examples.proofs.ShortTables.{local_in, not_attached}
use Rattle.world_examples.proofs.Marking.{old_number, is_new, old_row, new_row, out_of_log, in_log, no_mark}
use Rattle.world_examples.proofs.stages.stage_settled.Goals as goal

pub returns-clause-accepted : goal.returns-clause-accepted
returns-clause-accepted c = ((out_of_log, omega arith), ((λ a. no_mark [] tt tt), ((λ a. no_mark (local_row 0 5 1 Offline Plain ∷ []) tt (((λ e. let number : ◌≡◌ {A = ℕ} 0 1 = ap old_number e in omega arith), (λ e. true≢false (sym (ap is_new e.0)))), tt)), tt)))

pub returns-clause-site_away : goal.returns-clause-site_away
returns-clause-site_away c = ((out_of_log, omega arith), ((λ a. absurd (not_attached ((site_a, Detached) ∷ []) tt site_a refl a)), ((λ a. no_mark (local_row 0 5 1 Offline Plain ∷ []) tt (((λ e. let number : ◌≡◌ {A = ℕ} 0 1 = ap old_number e in omega arith), (λ e. true≢false (sym (ap is_new e.0)))), tt)), tt)))

pub returns-clause-in_log : goal.returns-clause-in_log
returns-clause-in_log c = λ h. true≢false (sym (ap is_some in_log) ∙ ap is_some h.0.0)

pub returns-clause-number_not_given : goal.returns-clause-number_not_given
returns-clause-number_not_given c = λ h. let below : 1 < 1 = h.0.1 in omega arith

pub returns-clause-old_left : goal.returns-clause-old_left
returns-clause-old_left c = λ h. (h.1.0 a_attached old_row (local_in (old_row ∷ []) tt old_row refl)).0 refl

pub returns-clause-new_left : goal.returns-clause-new_left
returns-clause-new_left c = λ h. (h.1.1.0 b_attached new_row (local_in (new_row ∷ []) tt new_row refl)).1 (refl, refl)
