-- The next step of a job as an image tells it, and the operations that do it.
use Rattle.std.proofs.Common.{◌≡◌, Bool, true, false, cond, refl, sym, ap, ◌∙◌, Some, None, Option, is_some, List, [], ◌∷◌, length, arith}
use Rattle.std.specs.Prelude.{option_and_then}
use Rattle.std.proofs.lemmas.Cmp.{nat_cmp_total}
use Rattle.std.specs.FinMap as fin
use Rattle.std.specs.declared.cmp.Ordering.{Ordering}
use Rattle.cell_world.specs.Orders.{pair_cmp, row_cmp}
use Rattle.cell_world.specs.ByteOrder.{byte_cmp}
use Rattle.cell_world.specs.Images.{Image, Shard, global}
use Rattle.cell_world.specs.Jobs.{Replace, Finish, table_row, batch_end, with_end, job_step}
use Rattle.cell_world.specs.Meaning.{meaning, owner_of, is_attached_at}
use Rattle.cell_world.specs.Plain.{PlainState, owner}
use Rattle.cell_world.specs.Stores.{Rows, Jobs}
use Rattle.cell_world.specs.Texts.{Text}
use Rattle.cell_world.specs.declared.cells.RowName.{RowName}
use Rattle.cell_world.specs.declared.cells.Status.TheVariants.{Online, Offline}
use Rattle.cell_world.specs.declared.operations.Piece.{Piece}
use Rattle.cell_world.specs.declared.operations.JobRow.{JobRow}
use Rattle.cell_world.specs.declared.operations.Extra.TheVariants as extra
use Rattle.cell_world.specs.declared.operations.Phase.TheVariants.{Idle, Copying, Moved}
use Rattle.cell_world.specs.declared.spans.High.TheVariants.{At}
use Rattle.image_laws.proofs.MeaningLaws.{get-rows}
use Rattle.cell_world.proofs.OrderLaws.{rows_total, exact_rows}
use Rattle.cell_world.proofs.StoreLaws.{get-insert_same, get-remove_same}
use Rattle.plain_model.specs.JobSteps.{stepped, is_moved}
use Rattle.plain_model.specs.Legal.{IsPlannedIn}
use Rattle.plain_model.specs.Refusing.{if_there}
use Rattle.plain_model.specs.Worked.{small_key}
use Rattle.model_examples.specs.Values.{copying_image, fresh_image, copying_state, after_move, move_op}
use Rattle.world_examples.specs.Examples.{site_a, site_b, keyed_pieces, job_at, job_piece}
use Rattle.model_examples.proofs.Lookups.{entries_of, differ}
use Rattle.model_examples.proofs.JobStates.{m_stands, job_stands, move_shows}

no_length : {A : Type 0} (es : List A) → length es ≡ 0 → es ≡ []
no_length [] e = refl
no_length (x ∷ es) e = absurd (omega arith)

-- an empty table has no entries
pub no_entries : {K X : Type 0} (R : K → K → Ordering) → fin.entries (fin.empty {X = X} {R = R}) ≡ []
no_entries {K} {X} R = no_length (fin.entries (fin.empty {X = X} {R = R})) (sym (fin.len-entries (fin.empty {X = X} {R = R})) ∙ fin.len-empty R X)

-- where no shard has a row there is none
pub no_rows : (image : Image) → ((location : Text) → (image.at (Shard location)).rows ≡ fin.empty) → (meaning image).rows ≡ fin.empty
no_rows image bare = fin.same_map rows_total exact_rows _ _ (λ row. get-rows image row ∙ at (owner_of image row.map row.key) row ∙ sym (fin.get-empty row_cmp row))
  where
    attached : Text → Bool
    attached location = is_attached_at image.locations (global image).away location

    either : (b : Bool) (rows : Rows) → rows ≡ fin.empty → (row : RowName) → cond b (fin.get rows row) None ≡ None
    either true rows none row = ap (λ (rows : Rows). fin.get rows row) none ∙ fin.get-empty row_cmp row
    either false rows none row = refl

    at : (o : Option Piece) (row : RowName) → option_and_then (λ p. cond (attached p.location) (fin.get (image.at (Shard p.location)).rows row) None) o ≡ None
    at None row = refl
    at (Some p) row = either (attached p.location) (image.at (Shard p.location)).rows (bare p.location) row

-- the whole range is one batch, since there are no rows: it is taken offline
pub fresh_step : job_step (meaning fresh_image) (job_at 0 Idle) ≡ Replace (job_piece 0 10 site_a Online ∷ []) (job_piece 0 10 site_a Offline ∷ []) (extra.JobPut (job_at 0 (Copying (At (small_key 10)))))
fresh_step =
    ap (λ (rows : Rows). with_end (table_row (owner (meaning fresh_image)) (meaning fresh_image).mappings (job_at 0 Idle)) (batch_end (owner (meaning fresh_image)) rows (job_at 0 Idle))) (no_rows fresh_image (λ location. refl))
    ∙ rw (entries_of pair_cmp (keyed_pieces (job_piece 0 10 site_a Online ∷ [])) tt, m_stands, entries_of pair_cmp (keyed_pieces (job_piece 0 10 site_a Online ∷ [])) tt, no_entries row_cmp) refl

-- the copied batch is moved
pub plans_the_move : IsPlannedIn copying_image 1 move_op
plans_the_move = record {
  job = job_at 0 (Copying (At (small_key 5)));
  stands = job_stands 0 (Copying (At (small_key 5)));
  row = rw (m_stands, entries_of pair_cmp (keyed_pieces (job_piece 0 5 site_a Offline ∷ job_piece 5 10 site_a Online ∷ [])) tt) refl;
  accepted = rw (job_stands 0 (Copying (At (small_key 5))), fin.get-empty byte_cmp site_a, fin.get-empty byte_cmp site_b) refl;
}

-- the move changes the job
pub move_changes_jobs : after_move.jobs ≡ copying_state.jobs → ⊥
move_changes_jobs e = differ (λ jobs. if_there (λ (job : JobRow). is_moved job.phase) (fin.get jobs 1)) _ _ e move_shows (ap (if_there (λ (job : JobRow). is_moved job.phase)) (job_stands 0 (Copying (At (small_key 5)))))

-- the job stands
abbrev pub has_job : PlainState → Bool
has_job s = is_some (fin.get s.jobs 1)

-- and isn't its finish
pub move_is_no_finish : (A B : PlainState) → B.jobs ≡ after_move.jobs → stepped A (job_at 0 (Copying (At (small_key 5)))) Finish ≡ Some B → ⊥
move_is_no_finish A B jobs e = differ (if_there has_job) _ _ (sym e)
    (ap (λ (jobs : Jobs). is_some (fin.get jobs 1)) jobs ∙ ap is_some (get-insert_same nat_cmp_total copying_state.jobs 1 (job_at 0 (Moved (At (small_key 5))))))
    (ap is_some (get-remove_same nat_cmp_total A.jobs 1))
