use Rattle.std.proofs.Common.{◌≡◌, Bool, false, refl, sym, ap, ◌∙◌, Some, None, ◌∷◌, []}
use Rattle.std.specs.Ordering.{nat_cmp}
use Rattle.cell_world.specs.Jobs.{Step, Replace, job_step}
use Rattle.cell_world.specs.Meaning.{meaning}
use Rattle.cell_world.specs.declared.cells.Status.TheVariants.{Online, Offline}
use Rattle.cell_world.specs.declared.operations.Extra.TheVariants as extra
use Rattle.cell_world.specs.declared.operations.Phase.TheVariants.{Idle, Copying}
use Rattle.cell_world.specs.declared.spans.High.TheVariants.{At}
use Rattle.plain_model.specs.JobSteps.{is_moved}
use Rattle.plain_model.specs.Worked.{small_key}
use Rattle.model_examples.specs.Values.{numbered_jobs, fresh_image}
use Rattle.world_examples.specs.Examples.{site_a, job_at, job_piece}
use Rattle.model_examples.proofs.Lookups.{get_of, differ}
use Rattle.cell_world.specs.declared.cells.Away.TheVariants.{Detached}
use Rattle.plain_model.specs.declared.replies.Refusal.TheVariants as refused
use Rattle.model_examples.proofs.NearStates.{is_away}
use Rattle.model_examples.proofs.JobStates.{is_job, job_stands}
use Rattle.model_examples.proofs.Planned.{fresh_step, plans_the_move}
use Rattle.model_examples.proofs.legal.planned_operations.Goals as goal

-- the step puts phase Moved
abbrev puts_moved : Step → Bool
puts_moved (Replace olds news (extra.JobPut job)) = is_moved job.phase
puts_moved other = false

pub returns-clause-the_move : goal.returns-clause-the_move
returns-clause-the_move c = plans_the_move

pub returns-clause-never_of_another_job : goal.returns-clause-never_of_another_job
returns-clause-never_of_another_job c f = let e : None ≡ Some f.job = sym (get_of nat_cmp (numbered_jobs (job_at 0 (Copying (At (small_key 5))) ∷ [])) tt 2) ∙ f.stands in cc

pub returns-clause-never_another_step : goal.returns-clause-never_another_step
returns-clause-never_another_step c f =
    differ puts_moved _ _ (sym f.row ∙ ap (job_step (meaning fresh_image)) (sym (is_job 0 Idle f.job f.stands)) ∙ fresh_step) refl refl

pub returns-clause-never_to_another_end : goal.returns-clause-never_to_another_end
returns-clause-never_to_another_end c f =
    let e : Replace (job_piece 0 10 site_a Online ∷ []) (job_piece 0 10 site_a Offline ∷ []) (extra.JobPut (job_at 0 (Copying (At (small_key 10)))))
    ≡ Replace (job_piece 0 10 site_a Online ∷ []) (job_piece 0 3 site_a Online ∷ job_piece 3 10 site_a Online ∷ []) extra.None
    = sym fresh_step ∙ ap (job_step (meaning fresh_image)) (is_job 0 Idle f.job f.stands) ∙ f.row in cc

pub returns-clause-never_from_a_detached_source : goal.returns-clause-never_from_a_detached_source
returns-clause-never_from_a_detached_source c f = let accepted = f.accepted in let e : Some refused.Detached ≡ None = rw (job_stands 0 (Copying (At (small_key 5))), is_away Detached) at accepted in cc
