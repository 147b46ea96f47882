use Rattle.std.proofs.Common.{◌≡◌, true, false, refl, sym, ap, ◌∙◌, subst, ◌∷◌, [], inl, inr, ⊎_elim, Some}
use Rattle.std.proofs.lemmas.Cmp.{nat_cmp_total}
use Rattle.std.specs.FinMap as fin
use Rattle.cell_world.specs.Keys.{same}
use Rattle.cell_world.specs.Images.{Image}
use Rattle.cell_world.specs.declared.operations.Op.{Op}
use Rattle.cell_world.specs.Jobs.{Replace}
use Rattle.cell_world.specs.Orders.{pair_cmp, row_cmp}
use Rattle.cell_world.specs.Plain.{PlainState, Connection, Connections}
use Rattle.cell_world.specs.declared.cells.Status.TheVariants.{Online, Offline}
use Rattle.cell_world.specs.declared.operations.Piece.{Piece}
use Rattle.cell_world.specs.declared.operations.JobRow.{JobRow}
use Rattle.cell_world.specs.declared.operations.Extra.TheVariants as extra
use Rattle.cell_world.specs.declared.operations.Phase.TheVariants.{Idle, Copying, Moved}
use Rattle.cell_world.specs.declared.spans.High.TheVariants.{At}
use Rattle.plain_model.specs.declared.commands.Command.TheVariants as command
use Rattle.plain_model.specs.declared.replies.Reply.TheVariants as reply
use Rattle.plain_model.specs.JobSteps.{TakesJobStep, stepped, is_moved}
use Rattle.plain_model.specs.OnTrail.{WasTried, TakesOffline, FaultOnTrail, FaultInJob, IsOfflineNow}
use Rattle.plain_model.specs.Refusing.{if_there}
use Rattle.plain_model.specs.Steps.{ended_under}
use Rattle.plain_model.specs.Timelines.{Happened}
use Rattle.plain_model.specs.Worked.{small_key}
use Rattle.model_examples.specs.Values.{two_sites, naming, fresh_connected, job_offline_op, tried, answered, one_connection, copying_state}
use Rattle.world_examples.specs.Examples.{site_a, site_b, job_at, job_piece, keyed_pieces}
use Rattle.model_examples.proofs.Lookups.{entries_of, differ}
use Rattle.model_examples.proofs.JobStates.{m_stands, job_stands, the_move, is_batch_moved}
use Rattle.model_examples.proofs.Faults.{is_live, ends_connections, ends_in_the_job}
use Rattle.model_examples.proofs.Planned.{no_entries}
use Rattle.model_examples.proofs.on_trail.causes_in_a_job.Goals as goal

abbrev copying : JobRow
copying = job_at 0 (Copying (At (small_key 5)))

abbrev with_live : PlainState
with_live = record copying_state { connections = one_connection true }

abbrev with_ended : PlainState
with_ended = record copying_state { connections = one_connection false }

-- the move makes another phase
not_moved : TakesJobStep with_live with_ended copying → ⊥
not_moved t =
    let row : the_move ≡ t.step = rw (m_stands, entries_of pair_cmp (keyed_pieces (job_piece 0 5 site_a Offline ∷ job_piece 5 10 site_a Online ∷ [])) tt) at t.row in
    let e = ap (stepped with_live copying) row ∙ t.after in
    differ (if_there is_batch_moved) _ _ e
    (ap (if_there (λ (job : JobRow). is_moved job.phase)) (fin.get-insert nat_cmp_total copying_state.jobs 1 (job_at 0 (Moved (At (small_key 5)))) 1))
    (ap (if_there (λ (job : JobRow). is_moved job.phase)) (job_stands 0 (Copying (At (small_key 5)))))

-- and it is no offline
no_offline : (p : Piece) → IsOfflineNow with_live copying p → ⊥
no_offline p now =
    let e : the_move ≡ Replace (p ∷ []) (record p { status = Offline } ∷ []) now.0 = rw (m_stands, entries_of pair_cmp (keyed_pieces (job_piece 0 5 site_a Offline ∷ job_piece 5 10 site_a Online ∷ [])) tt) at now.1 in
    let old : job_piece 0 5 site_a Offline ≡ p = cc in
    let new : job_piece 0 5 site_b Offline ≡ record p { status = Offline } = cc in
    differ (same site_b) site_b site_a (ap (λ (q : Piece). q.location) new ∙ ap (λ (q : Piece). q.location) (sym old)) refl refl

pub returns-clause-never_ended_at_the_move : goal.returns-clause-never_ended_at_the_move
returns-clause-never_ended_at_the_move c f =
    let g : FaultInJob two_sites [] (answered 1 (command.Step 1) reply.Fault) with_live with_ended copying = subst (FaultOnTrail two_sites [] (answered 1 (command.Step 1) reply.Fault) with_live with_ended (command.Step 1)) (job_stands 0 (Copying (At (small_key 5)))) f in
    ⊎_elim
    (λ e. differ is_live _ _ (sym e) refl refl)
    (⊎_elim not_moved (λ h. ⊎_elim (no_offline h.0) (λ tried. tried) h.1))
    g.cause

-- ---- the offline of the whole range

abbrev fresh : JobRow
fresh = job_at 0 Idle

-- now the batch end is the end of the range, since there are no rows
offline_now : IsOfflineNow (fresh_connected true) fresh (job_piece 0 10 site_a Online)
offline_now = (
  extra.JobPut (job_at 0 (Copying (At (small_key 10)))),
  rw (entries_of pair_cmp (keyed_pieces (job_piece 0 10 site_a Online ∷ [])) tt, m_stands, entries_of pair_cmp (keyed_pieces (job_piece 0 10 site_a Online ∷ [])) tt, no_entries row_cmp) refl,
)

pub returns-clause-ended_at_the_offline : goal.returns-clause-ended_at_the_offline
returns-clause-ended_at_the_offline c = rw (job_stands 0 Idle) (record { tried = λ p none. absurd none; cause = inr (inr (job_piece 0 10 site_a Online, inl offline_now, sym ends_in_the_job)) })

-- only the job's mapping was to be taken offline
only_tried : (p : Piece) → WasTried two_sites 1 (λ (image : Image) (op : Op). TakesOffline 1 p op) (Happened (tried job_offline_op false) ∷ []) → job_piece 0 10 site_a Online ≡ p
only_tried p was = ⊎_elim (λ some. ⊎_elim (λ takes. by takes.old) (λ none. absurd none) some) (λ none. absurd none) was
  where
    by : job_piece 0 10 site_a Online ∷ [] ≡ p ∷ [] → job_piece 0 10 site_a Online ≡ p
    by e = cc

pub returns-clause-ended_where_it_was_tried : goal.returns-clause-ended_where_it_was_tried
returns-clause-ended_where_it_was_tried c = rw (job_stands 0 Idle) (record {
  tried = λ p was. sym ends_connections ∙ ap (λ (p : Piece). ended_under (Some p) (one_connection true)) (only_tried p was);
  cause = inr (inr (job_piece 0 10 site_a Online, inl offline_now, sym ends_in_the_job));
})

pub returns-clause-never_left_open_where_it_was_tried : goal.returns-clause-never_left_open_where_it_was_tried
returns-clause-never_left_open_where_it_was_tried c f =
    let g : FaultInJob two_sites (Happened (tried job_offline_op false) ∷ []) (naming (answered 1 (command.Step 1) reply.Fault) 1) (fresh_connected true) (fresh_connected true) fresh
    = subst (FaultOnTrail two_sites (Happened (tried job_offline_op false) ∷ []) (naming (answered 1 (command.Step 1) reply.Fault) 1) (fresh_connected true) (fresh_connected true) (command.Step 1)) (job_stands 0 Idle) f in
    differ (λ (connections : Connections). if_there (λ (x : Connection). x.live) (connections 1 1)) _ _ (g.tried (job_piece 0 10 site_a Online) (inl (inl (record { numbered = refl; old = refl; new = refl })))) refl refl
