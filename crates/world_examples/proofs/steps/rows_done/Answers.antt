use Rattle.std.proofs.Common.{◌≡◌, ℕ, false, true≢false, refl, sym, ap, inl, [], ◌∷◌, arith}
use Rattle.cell_world.specs.Keys.{contains}
use Rattle.cell_world.specs.declared.cells.Mark.TheVariants.{Plain, Old, New}
use Rattle.cell_world.specs.declared.cells.Status.TheVariants.{Online, Offline}
use Rattle.world_examples.specs.Examples.{int_key, site_a, site_b, free_piece, local_row}
use Rattle.world_examples.proofs.ImageParts.{offline_not_online}
use Rattle.world_examples.proofs.Marking.{old_number, is_new, old_row, new_row, each_row}
use Rattle.world_examples.proofs.Sweeping.{done_at_source, done_at_target, not_done, zero_not_one}
use Rattle.world_examples.proofs.steps.rows_done.Goals as goal

pub returns-clause-source : goal.returns-clause-source
returns-clause-source c = done_at_source (old_row ∷ local_row 5 9 0 Online (Old 7) ∷ []) tt ((λ r. inl refl), ((λ r. absurd (true≢false (sym r))), tt))

pub returns-clause-target : goal.returns-clause-target
returns-clause-target c = done_at_target

pub returns-clause-unmarked : goal.returns-clause-unmarked
returns-clause-unmarked c = not_done (local_row 0 5 0 Offline Plain ∷ []) tt site_a (local_row 0 5 0 Offline Plain) refl refl (λ e. zero_not_one (ap old_number e)) (λ e. true≢false (sym (ap is_new e.0)))

pub returns-clause-old_of_another : goal.returns-clause-old_of_another
returns-clause-old_of_another c = not_done (local_row 3 9 0 Online (Old 7) ∷ []) tt site_a (local_row 3 9 0 Online (Old 7)) refl refl (λ e. let seven : ◌≡◌ {A = ℕ} 7 1 = ap old_number e in omega arith) (λ e. true≢false (sym (ap is_new e.0)))

pub returns-clause-new_of_another : goal.returns-clause-new_of_another
returns-clause-new_of_another c = not_done (local_row 3 9 7 Online New ∷ []) tt site_a (local_row 3 9 7 Online New) refl refl (λ e. true≢false (ap is_new e)) (λ e. let seven : ◌≡◌ {A = ℕ} 7 1 = e.1 in omega arith)

pub returns-clause-no_new_row : goal.returns-clause-no_new_row
returns-clause-no_new_row c = λ h. each_row [] tt (λ row. ⊥) tt new_row (h.made (free_piece 0 5 site_b Offline) (inl refl) refl)

pub returns-clause-status_of_the_new_row : goal.returns-clause-status_of_the_new_row
returns-clause-status_of_the_new_row c = λ h. offline_not_online (each_row (local_row 0 5 1 Online New ∷ []) tt (λ row. row.status ≡ Online) (refl, tt) new_row (h.made (free_piece 0 5 site_b Offline) (inl refl) refl))

pub returns-clause-span_of_the_new_row : goal.returns-clause-span_of_the_new_row
returns-clause-span_of_the_new_row c = λ h. true≢false (each_row (local_row 0 4 1 Offline New ∷ []) tt (λ row. contains row.span (int_key 4) ≡ false) (refl, tt) new_row (h.made (free_piece 0 5 site_b Offline) (inl refl) refl))
