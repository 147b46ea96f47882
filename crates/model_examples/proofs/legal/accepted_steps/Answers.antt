use Rattle.std.proofs.Common.{◌≡◌, false, true, refl, sym, ◌∙◌, ap, Some, None, is_some, ⊎_elim, [], ◌∷◌}
use Rattle.std.specs.FinMap as fin
use Rattle.std.specs.Ordering.{nat_cmp}
use Rattle.cell_world.specs.ByteOrder.{byte_cmp}
use Rattle.cell_world.specs.declared.cells.Away.TheVariants.{Detached}
use Rattle.cell_world.specs.declared.operations.Phase.TheVariants.{Idle}
use Rattle.plain_model.specs.declared.replies.Refusal.TheVariants as refused
use Rattle.model_examples.specs.Values.{numbered_jobs, all_moved_state}
use Rattle.world_examples.specs.Examples.{site_a, site_b, job_at, away_of}
use Rattle.plain_model.specs.Refusing.{AcceptsJob}
use Rattle.cell_world.specs.Stores.{Jobs}
use Rattle.model_examples.proofs.Lookups.{get_of}
use Rattle.model_examples.proofs.JobStates.{job_stands, no_job}
use Rattle.model_examples.proofs.NearStates.{is_away}
use Rattle.model_examples.proofs.legal.accepted_steps.Goals as goal

pub returns-clause-attached : goal.returns-clause-attached
returns-clause-attached c = rw (job_stands 10 Idle, fin.get-empty byte_cmp site_a, fin.get-empty byte_cmp site_b) refl

pub returns-clause-never_of_another_job : goal.returns-clause-never_of_another_job
returns-clause-never_of_another_job c f = let e : Some refused.NoJob ≡ None = rw (get_of nat_cmp (numbered_jobs (job_at 10 Idle ∷ [])) tt 2) at f in cc

pub returns-clause-never_from_a_detached_source : goal.returns-clause-never_from_a_detached_source
returns-clause-never_from_a_detached_source c f = let e : Some refused.Detached ≡ None = rw (job_stands 10 Idle, is_away Detached) at f in cc

detached : AcceptsJob (record all_moved_state { away = away_of ((site_a, Detached) ∷ []) }) 1 → ⊥
detached f = let e : Some refused.Detached ≡ None = rw (job_stands 10 Idle, is_away Detached) at f in cc

pub returns-clause-never_a_finish_with_a_detached_source : goal.returns-clause-never_a_finish_with_a_detached_source
returns-clause-never_a_finish_with_a_detached_source c = ⊎_elim
    (λ same. let e : false ≡ true = sym (ap is_some (no_job 1)) ∙ ap (λ (jobs : Jobs). is_some (fin.get jobs 1)) same.1 ∙ ap is_some (job_stands 10 Idle) in cc)
    (⊎_elim (λ f. detached f.accepted) (λ made. made.1.planned))
