use Rattle.std.proofs.Common.{◌≡◌, ℕ, true, refl, sym, ap, ◌∙◌, subst, Option, Some, None, [], ◌∷◌}
use Rattle.std.specs.FinMap as fin
use Rattle.cell_world.specs.ByteOrder.{byte_cmp}
use Rattle.cell_world.specs.declared.operations.JobRow.{JobRow}
use Rattle.cell_world.specs.declared.operations.Phase.TheVariants.{Idle, Copying}
use Rattle.cell_world.specs.declared.spans.High.TheVariants.{At}
use Rattle.cell_world.specs.Orders.{pair_cmp}
use Rattle.cell_world.specs.declared.cells.Away.TheVariants.{Detached}
use Rattle.cell_world.specs.declared.cells.Status.TheVariants.{Online}
use Rattle.plain_model.specs.declared.commands.Command.TheVariants as command
use Rattle.plain_model.specs.declared.replies.Refusal.TheVariants as refused
use Rattle.plain_model.specs.JobSteps.{is_moved, is_finish_step}
use Rattle.plain_model.specs.Refusing.{if_there, AcceptsJob}
use Rattle.plain_model.specs.Worked.{small_key}
use Rattle.model_examples.specs.Values.{all_moved_state}
use Rattle.world_examples.specs.Examples.{job_at, job_piece, keyed_pieces, site_a, site_b, away_of}
use Rattle.model_examples.proofs.Lookups.{differ, entries_of}
use Rattle.model_examples.proofs.NearStates.{is_away}
use Rattle.model_examples.proofs.JobStates.{splits_at_3, no_job, job_stands, moves, only_moves, move_shows, is_batch_moved}
use Rattle.model_examples.proofs.follows.steps_of_jobs.Goals as goal

pub returns-clause-move_there : goal.returns-clause-move_there
returns-clause-move_there c = record { job = job_at 0 (Copying (At (small_key 5))); asked = job_stands 0 (Copying (At (small_key 5))); step = moves; accepted = λ finish. rw (job_stands 0 (Copying (At (small_key 5))), fin.get-empty byte_cmp site_a, fin.get-empty byte_cmp site_b) refl }

pub returns-clause-never_without_a_change : goal.returns-clause-never_without_a_change
returns-clause-never_without_a_change c f = differ is_batch_moved _ _ (only_moves _ f.job f.asked f.step) move_shows (ap (if_there (λ (job : JobRow). is_moved job.phase)) (job_stands 0 (Copying (At (small_key 5)))))

pub returns-clause-never_two_steps_at_once : goal.returns-clause-never_two_steps_at_once
returns-clause-never_two_steps_at_once c f = differ is_batch_moved _ _ (only_moves _ f.job f.asked f.step) move_shows (ap (if_there (λ (job : JobRow). is_moved job.phase)) (job_stands 5 Idle))

pub returns-clause-never_of_a_job_that_is_gone : goal.returns-clause-never_of_a_job_that_is_gone
returns-clause-never_of_a_job_that_is_gone c f = let e : None ≡ Some f.job = sym (no_job 1) ∙ f.asked in cc

pub returns-clause-split_at_another_end : goal.returns-clause-split_at_another_end
returns-clause-split_at_another_end c = record { job = job_at 0 Idle; asked = job_stands 0 Idle; step = splits_at_3; accepted = λ finish. rw (job_stands 0 Idle, fin.get-empty byte_cmp site_a, fin.get-empty byte_cmp site_b) refl }

is_the_finish : is_finish_step (record all_moved_state { away = away_of ((site_a, Detached) ∷ []) }) (command.Step 1) ≡ true
is_the_finish = rw (job_stands 10 Idle, entries_of pair_cmp (keyed_pieces (job_piece 0 10 site_b Online ∷ [])) tt) refl

accepts_it : AcceptsJob (record all_moved_state { away = away_of ((site_a, Detached) ∷ []) }) 1 → ⊥
accepts_it f = let e : Some refused.Detached ≡ None = rw (job_stands 10 Idle, is_away Detached) at f in cc

pub returns-clause-never_a_finish_from_a_detached_source : goal.returns-clause-never_a_finish_from_a_detached_source
returns-clause-never_a_finish_from_a_detached_source c f =
    let same : Some (job_at 10 Idle) ≡ Some f.job = sym (job_stands 10 Idle) ∙ f.asked in
    let number : 1 ≡ f.job.number = ap (λ (o : Option JobRow). job_number o) same in
    accepts_it (subst (AcceptsJob (record all_moved_state { away = away_of ((site_a, Detached) ∷ []) })) (sym number) (f.accepted is_the_finish))
  where
    job_number : Option JobRow → ℕ
    job_number None = 0
    job_number (Some job) = job.number
