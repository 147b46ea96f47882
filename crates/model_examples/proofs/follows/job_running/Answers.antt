use Rattle.std.proofs.Common.{◌≡◌, true, false, refl, sym, ap, ◌∙◌, is_some, ◌∷◌, []}
use Rattle.std.specs.Ordering.{nat_cmp}
use Rattle.std.specs.FinMap as fin
use Rattle.cell_world.specs.declared.cells.Status.TheVariants.{Online}
use Rattle.cell_world.specs.declared.operations.JobRow.{JobRow}
use Rattle.cell_world.specs.declared.operations.Phase.TheVariants.{Idle}
use Rattle.world_examples.specs.Examples.{site_a, job_at, job_piece}
use Rattle.model_examples.proofs.JobStates.{job_stands, n_is_more}
use Rattle.model_examples.proofs.follows.job_running.Goals as goal

pub returns-clause-at_a_step : goal.returns-clause-at_a_step
returns-clause-at_a_step c = record { same = refl; stands = ap is_some (job_stands 0 Idle) }

pub returns-clause-at_a_run : goal.returns-clause-at_a_run
returns-clause-at_a_run c = record { same = refl; stands = ap is_some (job_stands 0 Idle) }

pub returns-clause-never_without_the_job : goal.returns-clause-never_without_the_job
returns-clause-never_without_the_job c f = let e : false ≡ true = sym (ap is_some (fin.get-empty {X = JobRow} nat_cmp 1)) ∙ f.stands in cc

pub returns-clause-never_with_a_change : goal.returns-clause-never_with_a_change
returns-clause-never_with_a_change c f = n_is_more (job_piece 0 10 site_a Online ∷ []) (job_at 0 Idle ∷ []) f.same
