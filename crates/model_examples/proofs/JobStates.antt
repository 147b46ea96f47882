-- What the states of job 1 say: its row, the mappings, and what a step that was taken made of them.
use Rattle.std.proofs.Common.{◌≡◌, not, ℕ, Bool, true, refl, sym, ap, ◌∙◌, subst, Some, None, List, [], ◌∷◌, is_some, false, cond}
use Rattle.std.specs.Ordering.{nat_cmp, eq_by_cmp}
use Rattle.std.proofs.lemmas.Cmp.{nat_cmp_total}
use Rattle.std.specs.FinMap as fin
use Rattle.std.specs.FinMap.{nat_cmp-IsAntisymmetric}
use Rattle.cell_world.specs.Texts.{Text}
use Rattle.cell_world.specs.Stores.{Mappings, Jobs}
use Rattle.cell_world.specs.ByteOrder.{byte_cmp}
use Rattle.cell_world.specs.Orders.{pair_cmp}
use Rattle.cell_world.specs.Plain.{PlainState, Held, Connections, nobody, owner}
use Rattle.cell_world.specs.Jobs.{Step, TableRow, UpTo, Replace, Gives, IsBatchEnd, table_row, batch_row, cursor_piece}
use Rattle.cell_world.specs.Keys.{end_below}
use Rattle.cell_world.specs.declared.cells.KeyType.TheVariants.{Int}
use Rattle.cell_world.specs.declared.cells.MapKind.TheVariants as kind
use Rattle.cell_world.specs.declared.cells.Status.TheVariants.{Online, Offline}
use Rattle.cell_world.specs.declared.operations.Piece.{Piece}
use Rattle.cell_world.specs.declared.operations.JobRow.{JobRow}
use Rattle.cell_world.specs.declared.operations.Extra.TheVariants as extra
use Rattle.cell_world.specs.declared.operations.Phase.{Phase}
use Rattle.cell_world.specs.declared.operations.Phase.TheVariants.{Copying, Moved, Idle}
use Rattle.cell_world.specs.declared.spans.High.{High}
use Rattle.cell_world.specs.declared.spans.High.TheVariants.{At}
use Rattle.cell_world.proofs.OrderLaws.{pairs_total, exact_text_pairs}
use Rattle.plain_model.specs.declared.commands.Command.TheVariants as command
use Rattle.plain_model.specs.declared.replies.Reply.{Reply}
use Rattle.plain_model.specs.declared.replies.Reply.TheVariants as reply
use Rattle.plain_model.specs.JobSteps.{TakesJobStep, IsOfflineStep, stepped, finished, is_moved}
use Rattle.plain_model.specs.Refusing.{refusal, if_there}
use Rattle.plain_model.specs.Steps.{plain_step, refused_or_done}
use Rattle.plain_model.specs.Worked.{small_key, small_range, mapping_over}
use Rattle.model_examples.specs.Values.{numbered_jobs, with_map, state_with_jobs, copying_state, after_move, fresh_state, after_split, all_moved_state, finished_state}
use Rattle.world_examples.specs.Examples.{map_m, map_n, site_a, site_b, entries_m, maps_m, keyed_pieces, jobs_of, job_at, job_piece}
use Rattle.model_examples.proofs.Lookups.{get_of, entries_of, differ}
use Rattle.model_examples.proofs.Maps.{has_map, has_it}

-- ---- the map

pub m_stands : fin.get maps_m map_m ≡ Some (kind.Range, Int)
m_stands = get_of byte_cmp entries_m tt map_m

pub n_is_more : (pieces : List Piece) (jobs : List JobRow) → state_with_jobs pieces jobs ≡ with_map (state_with_jobs pieces jobs) map_n → ⊥
n_is_more pieces jobs e = differ (has_map map_n) _ _ (sym e) (has_it (state_with_jobs pieces jobs) map_n) (ap is_some (get_of byte_cmp entries_m tt map_n))

-- ---- the job

pub no_job : (number : ℕ) → fin.get (jobs_of []) number ≡ None
no_job number = get_of nat_cmp (numbered_jobs []) tt number

module _ (cursor : ℕ) (phase : Phase) where
  pub job_stands : fin.get (jobs_of (job_at cursor phase ∷ [])) 1 ≡ Some (job_at cursor phase)
  job_stands = get_of nat_cmp (numbered_jobs (job_at cursor phase ∷ [])) tt 1

  pub is_job : (job : JobRow) → fin.get (jobs_of (job_at cursor phase ∷ [])) 1 ≡ Some job → job_at cursor phase ≡ job
  is_job job stands = let there : Some (job_at cursor phase) ≡ Some job = sym job_stands ∙ stands in cc

  -- the job that a `step 1` asks for
  pub asked_for : (number : ℕ) (job : JobRow) → command.Step 1 ≡ command.Step number → fin.get (jobs_of (job_at cursor phase ∷ [])) number ≡ Some job → job_at cursor phase ≡ job
  asked_for number job asked stands = let is : number ≡ 1 = cc in is_job job (ap (fin.get (jobs_of (job_at cursor phase ∷ []))) (sym is) ∙ stands)

-- `step 1` isn't refused
pub step_accepted : (pieces : List Piece) (cursor : ℕ) (phase : Phase) → refusal (state_with_jobs pieces (job_at cursor phase ∷ [])) 1 (command.Step 1) ≡ None
unfolding refusal
step_accepted pieces cursor phase = rw (job_stands cursor phase, fin.get-empty byte_cmp site_a, fin.get-empty byte_cmp site_b) refl

-- and so the plain step gives no refusal
pub step_answers : (held_then : Held) (pieces : List Piece) (cursor : ℕ) (phase : Phase) (B : PlainState) (answer : Reply)
    → plain_step held_then (state_with_jobs pieces (job_at cursor phase ∷ [])) 1 (command.Step 1) ≡ (B, answer) → reply.Done 1 ≡ answer
step_answers held_then pieces cursor phase B answer e =
    ap (λ r. (refused_or_done held_then (state_with_jobs pieces (job_at cursor phase ∷ [])) 1 (command.Step 1) r).1) (sym (step_accepted pieces cursor phase)) ∙ ap (λ r. r.1) e

-- ---- the move of the batch

-- job 1 is in phase Moved
abbrev pub is_batch_moved : PlainState → Bool
is_batch_moved s = if_there (λ (job : JobRow). is_moved job.phase) (fin.get s.jobs 1)

abbrev pub the_move : Step
the_move = Replace (job_piece 0 5 site_a Offline ∷ []) (job_piece 0 5 site_b Offline ∷ []) (extra.JobPut (job_at 0 (Moved (At (small_key 5)))))

pub moves : TakesJobStep copying_state after_move (job_at 0 (Copying (At (small_key 5))))
moves = record {
  step = the_move;
  row = rw (m_stands, entries_of pair_cmp (keyed_pieces (job_piece 0 5 site_a Offline ∷ job_piece 5 10 site_a Online ∷ [])) tt) refl;
  after = refl;
}

-- the next step of the copied batch is its move, and no other
pub only_moves : (B : PlainState) (job : JobRow) → fin.get copying_state.jobs 1 ≡ Some job → TakesJobStep copying_state B job → after_move ≡ B
only_moves B job stands takes =
    let t : TakesJobStep copying_state B (job_at 0 (Copying (At (small_key 5)))) = subst (TakesJobStep copying_state B) (sym (is_job 0 (Copying (At (small_key 5))) job stands)) takes in
    let row : the_move ≡ t.step = rw (m_stands, entries_of pair_cmp (keyed_pieces (job_piece 0 5 site_a Offline ∷ job_piece 5 10 site_a Online ∷ [])) tt) at t.row in
    let e : Some after_move ≡ Some B = ap (stepped copying_state (job_at 0 (Copying (At (small_key 5))))) row ∙ t.after in cc

pub move_shows : is_batch_moved after_move ≡ true
move_shows = ap (if_there (λ (job : JobRow). is_moved job.phase)) (fin.get-insert nat_cmp_total copying_state.jobs 1 (job_at 0 (Moved (At (small_key 5)))) 1)

-- ---- the offline of the whole range, and a split at another key

pub fresh_owner : (connections : Connections) → cursor_piece (owner (record fresh_state { connections = connections })) (job_at 0 Idle) ≡ Some (job_piece 0 10 site_a Online)
fresh_owner connections = rw (m_stands, entries_of pair_cmp (keyed_pieces (job_piece 0 10 site_a Online ∷ [])) tt) refl

-- the row of the table depends on the batch end
pub fresh_row : (connections : Connections) → table_row (owner (record fresh_state { connections = connections })) fresh_state.mappings (job_at 0 Idle) ≡ UpTo (batch_row (job_at 0 Idle) (job_piece 0 10 site_a Online))
fresh_row connections = rw (entries_of pair_cmp (keyed_pieces (job_piece 0 10 site_a Online ∷ [])) tt, m_stands, entries_of pair_cmp (keyed_pieces (job_piece 0 10 site_a Online ∷ [])) tt) refl

-- every end up to 10 may be one
pub may_end : (connections : Connections) (end : High) → end_below (At (small_key 0)) end ≡ true → end_below (At (small_key 10)) end ≡ false → IsBatchEnd (owner (record fresh_state { connections = connections })) (job_at 0 Idle) end
may_end connections end above within = record { above = above; piece = job_piece 0 10 site_a Online; owned = fresh_owner connections; within = ap not within }

pub splits_at_3 : TakesJobStep fresh_state after_split (job_at 0 Idle)
splits_at_3 = record {
  step = Replace (job_piece 0 10 site_a Online ∷ []) (job_piece 0 3 site_a Online ∷ job_piece 3 10 site_a Online ∷ []) extra.None;
  row = subst (λ (row : TableRow). Gives (IsBatchEnd (owner fresh_state) (job_at 0 Idle)) row (Replace (job_piece 0 10 site_a Online ∷ []) (job_piece 0 3 site_a Online ∷ job_piece 3 10 site_a Online ∷ []) extra.None)) (sym (fresh_row nobody))
      (At (small_key 3), may_end nobody (At (small_key 3)) refl refl, refl);
  after = refl;
}

pub takes_offline : (connections : Connections) → IsOfflineStep (record fresh_state { connections = connections }) (job_at 0 Idle) (job_piece 0 10 site_a Online)
takes_offline connections = record {
  put = extra.JobPut (job_at 0 (Copying (At (small_key 10))));
  row = subst (λ (row : TableRow). Gives (IsBatchEnd (owner (record fresh_state { connections = connections })) (job_at 0 Idle)) row (Replace (job_piece 0 10 site_a Online ∷ []) (job_piece 0 10 site_a Offline ∷ []) (extra.JobPut (job_at 0 (Copying (At (small_key 10))))))) (sym (fresh_row connections))
      (At (small_key 10), may_end connections (At (small_key 10)) refl refl, refl);
}

-- ---- the finish

pub finishes : finished all_moved_state (job_at 10 Idle) ≡ finished_state
finishes = rw (entries_of pair_cmp (keyed_pieces (job_piece 0 10 site_b Online ∷ [])) tt)
    (ap (λ (mappings : Mappings). record all_moved_state { mappings = mappings; jobs = fin.remove all_moved_state.jobs 1 }) free
    ∙ ap (λ (jobs : Jobs). record finished_state { jobs = jobs }) no_more)
  where
    pieces : List ((Text × Text) × Piece)
    pieces = keyed_pieces (record (mapping_over (small_range 0 10) Online) { location = site_b } ∷ [])

    free : fin.from_entries pieces ≡ finished_state.mappings
    free = fin.same_map pairs_total exact_text_pairs _ _ (λ key. fin.get-from_entries pairs_total pieces key ∙ sym (get_of pair_cmp pieces tt key))

    either : (is : Bool) → cond is None (cond is (Some (job_at 10 Idle)) None) ≡ None
    either true = refl
    either false = refl

    no_more : fin.remove all_moved_state.jobs 1 ≡ finished_state.jobs
    no_more = fin.same_map nat_cmp_total nat_cmp-IsAntisymmetric _ _ (λ number.
        fin.get-remove nat_cmp_total all_moved_state.jobs 1 number
        ∙ ap (cond (eq_by_cmp nat_cmp number 1) None) (get_of nat_cmp (numbered_jobs (job_at 10 Idle ∷ [])) tt number)
        ∙ either (eq_by_cmp nat_cmp number 1)
        ∙ sym (no_job number))
