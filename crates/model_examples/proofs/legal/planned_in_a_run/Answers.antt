use Rattle.std.proofs.Common.{◌≡◌, true, false, is_some, sym, ap, ◌∙◌, arith, refl, subst, Some, Option, [], ◌∷◌, ⊎_elim}
use Rattle.std.specs.FinMap as fin
use Rattle.std.proofs.lemmas.Cmp.{nat_cmp_total}
use Rattle.cell_world.specs.declared.operations.JobRow.{JobRow}
use Rattle.cell_world.specs.declared.operations.Phase.TheVariants.{Copying}
use Rattle.cell_world.specs.declared.spans.High.TheVariants.{At}
use Rattle.plain_model.specs.ByMoments.{standing}
use Rattle.plain_model.specs.Legal.{IsPlanned}
use Rattle.plain_model.specs.Timelines.{Happened}
use Rattle.plain_model.specs.Worked.{small_key}
use Rattle.plain_model.proofs.LegalAtMoments.{legal_by_moments}
use Rattle.model_examples.specs.Values.{silent, nothing_going, tried, move_op, move_commit, copying_image, copying_trail}
use Rattle.world_examples.specs.Examples.{job_at}
use Rattle.model_examples.specs.Runs.{named_step}
use Rattle.plain_model.specs.declared.history.Entry.{Entry}
use Rattle.plain_model.specs.declared.commands.Command.TheVariants as command
use Rattle.model_examples.proofs.JobStates.{job_stands}
use Rattle.model_examples.proofs.Planned.{move_changes_jobs, move_is_no_finish}
use Rattle.model_examples.proofs.MoveRun.{the_move_run}
use Rattle.model_examples.proofs.legal.planned_in_a_run.Goals as goal

abbrev silent_step_0 : Entry
silent_step_0 = silent 1 (command.Step 1)

pub returns-clause-the_move : goal.returns-clause-the_move
returns-clause-the_move c = legal_by_moments (copying_trail (tried move_op true ∷ move_commit ∷ [])) 0 nothing_going (named_step ∷ []) (omega arith) the_move_run

pub returns-clause-never_without_its_log : goal.returns-clause-never_without_its_log
returns-clause-never_without_its_log c legal =
    let f = legal.follows 0 _ refl in
    let planned : IsPlanned copying_image (Happened move_commit ∷ []) (standing (copying_trail (move_commit ∷ [])) 0 (legal.connections 0)) silent_step_0 (standing (copying_trail (move_commit ∷ [])) 1 (legal.connections 1)) (Some (job_at 0 (Copying (At (small_key 5)))))
    = subst (λ (job : Option JobRow). IsPlanned copying_image (Happened move_commit ∷ []) (standing (copying_trail (move_commit ∷ [])) 0 (legal.connections 0)) silent_step_0 (standing (copying_trail (move_commit ∷ [])) 1 (legal.connections 1)) job) (job_stands 0 (Copying (At (small_key 5)))) f.planned in
    ⊎_elim (λ same. move_changes_jobs same.1) (⊎_elim
    (λ f. move_is_no_finish _ _ refl f.step)
    (λ made. ⊎_elim (λ none. absurd none) (λ none. absurd none) made.1.planned)) planned

pub returns-clause-never_unnamed : goal.returns-clause-never_unnamed
returns-clause-never_unnamed c legal = let e : false ≡ true = sym (ap is_some (fin.get-remove nat_cmp_total (fin.insert fin.empty 1 move_op) 1 1)) ∙ (legal.follows 0 _ refl).none_owed 1 refl in cc
