use Rattle.std.proofs.Common.{◌≡◌, ◌≤◌, true, false, refl, sym, ap, ◌∙◌, Some, None, ◌∷◌, [], inr, ⊎_elim, inl}
use Rattle.std.specs.Ordering.{nat_cmp}
use Rattle.std.specs.FinMap as fin
use Rattle.std.proofs.lemmas.Bool.{le-leb}
use Rattle.cell_world.specs.Orders.{pair_cmp}
use Rattle.cell_world.specs.Plain.{PlainState, holds_nothing}
use Rattle.cell_world.specs.declared.cells.Status.TheVariants.{Online}
use Rattle.cell_world.specs.declared.operations.JobRow.{JobRow}
use Rattle.cell_world.specs.declared.operations.Phase.TheVariants.{Idle}
use Rattle.plain_model.specs.declared.commands.Command.TheVariants as command
use Rattle.plain_model.specs.declared.replies.Reply.TheVariants as reply
use Rattle.plain_model.specs.declared.replies.Refusal.TheVariants as refused
use Rattle.plain_model.specs.Refusing.{refusal}
use Rattle.plain_model.specs.Steps.{refused_or_done}
use Rattle.model_examples.specs.Values.{make_map, empty_state}
use Rattle.world_examples.specs.Examples.{map_n, site_a, site_b, job_at, job_piece, keyed_pieces}
use Rattle.model_examples.proofs.Lookups.{entries_of}
use Rattle.model_examples.proofs.Maps.{makes_m}
use Rattle.model_examples.proofs.JobStates.{job_stands, m_stands, n_is_more, step_accepted, step_answers}
use Rattle.model_examples.proofs.follows.full_of_numbers.Goals as goal

no_job_refused : refusal empty_state 1 (command.Step 1) ≡ Some refused.NoJob
unfolding refusal
no_job_refused = rw (fin.get-empty {X = JobRow} nat_cmp 1) refl

pub returns-clause-at_a_step : goal.returns-clause-at_a_step
returns-clause-at_a_step c = inr (record {
  same = refl;
  accepted = step_accepted (job_piece 0 10 site_a Online ∷ []) 0 Idle;
  takes = refl;
  no_finish = rw (job_stands 0 Idle, entries_of pair_cmp (keyed_pieces (job_piece 0 10 site_a Online ∷ [])) tt, m_stands, entries_of pair_cmp (keyed_pieces (job_piece 0 10 site_a Online ∷ [])) tt) refl;
})

pub returns-clause-never_at_the_finish : goal.returns-clause-never_at_the_finish
returns-clause-never_at_the_finish c = ⊎_elim
    (λ p. let e : reply.Done 1 ≡ reply.Refused refused.Full = step_answers p.held (job_piece 0 10 site_b Online ∷ []) 10 Idle _ _ p.step in cc)
    (λ n. let e : true ≡ false = rw (job_stands 10 Idle, entries_of pair_cmp (keyed_pieces (job_piece 0 10 site_b Online ∷ [])) tt) at n.no_finish in cc)

pub returns-clause-never_of_a_command_without_a_number : goal.returns-clause-never_of_a_command_without_a_number
returns-clause-never_of_a_command_without_a_number c = ⊎_elim
    (λ p. let e : reply.Ok ≡ reply.Refused refused.Full = ap (λ r. r.1) (sym (makes_m p.held) ∙ p.step) in cc)
    (λ n. let e : false ≡ true = n.takes in cc)

pub returns-clause-never_where_another_refusal_holds : goal.returns-clause-never_where_another_refusal_holds
returns-clause-never_where_another_refusal_holds c = ⊎_elim
    (λ p. let e : reply.Refused refused.NoJob ≡ reply.Refused refused.Full = ap (λ r. (refused_or_done p.held empty_state 1 (command.Step 1) r).1) (sym no_job_refused) ∙ ap (λ r. r.1) p.step in cc)
    (λ n. let e : Some refused.NoJob ≡ None = sym no_job_refused ∙ n.accepted in cc)

pub returns-clause-never_with_a_change : goal.returns-clause-never_with_a_change
returns-clause-never_with_a_change c = ⊎_elim
    (λ p. let e : reply.Done 1 ≡ reply.Refused refused.Full = step_answers p.held (job_piece 0 10 site_a Online ∷ []) 0 Idle _ _ p.step in cc)
    (λ n. n_is_more (job_piece 0 10 site_a Online ∷ []) (job_at 0 Idle ∷ []) n.same)

-- there are 64 maps
full_refusal : (s : PlainState) → fin.get s.maps map_n ≡ None → 64 ≤ fin.len s.maps → refusal s 1 (make_map map_n) ≡ Some refused.Full
unfolding refusal
full_refusal s none many = rw (none, le-leb 64 (fin.len s.maps) many) refl

pub returns-clause-sixty_four_maps : goal.returns-clause-sixty_four_maps
returns-clause-sixty_four_maps c s none many = inl (record { held = holds_nothing; step = ap (refused_or_done holds_nothing s 1 (make_map map_n)) (full_refusal s none many) })
