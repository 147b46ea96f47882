-- A run in which the copied batch is moved: the operation is logged, then the stores change, and then the step is entered.
use Rattle.std.proofs.Common.{◌≡◌, true, is_some, refl, sym, ap, ◌∙◌, Some, inl, inr, [], ◌∷◌}
use Rattle.std.specs.FinMap as fin
use Rattle.cell_world.specs.ByteOrder.{byte_cmp}
use Rattle.cell_world.specs.Images.{Image, Global}
use Rattle.cell_world.specs.Meaning.{meaning}
use Rattle.cell_world.specs.Orders.{pair_cmp}
use Rattle.cell_world.specs.Plain.{nobody}
use Rattle.cell_world.specs.Stores.{Rows}
use Rattle.cell_world.specs.declared.cells.Status.TheVariants.{Online, Offline}
use Rattle.cell_world.specs.declared.operations.JobRow.{JobRow}
use Rattle.cell_world.specs.declared.operations.Phase.TheVariants.{Copying}
use Rattle.cell_world.specs.declared.spans.High.TheVariants.{At}
use Rattle.plain_model.specs.JobSteps.{TakesJobStep, stepped}
use Rattle.plain_model.specs.Legal.{Legal, IsPlanned}
use Rattle.plain_model.specs.Timelines.{Happened, Entered, image_of}
use Rattle.plain_model.specs.Worked.{small_key}
use Rattle.plain_model.proofs.NearLaws.{near_itself, near_of}
use Rattle.model_examples.specs.Values.{logging, nothing_going, tried, move_op, move_commit, copying_image, copying_trail}
use Rattle.world_examples.specs.Examples.{site_a, site_b, keyed_pieces, job_at, job_piece}
use Rattle.model_examples.specs.Runs.{named_step}
use Rattle.plain_model.specs.OnTrail.{InLog, NoneOwed}
use Rattle.plain_model.proofs.OwedLaws.{none_at_first, none_after_log, open_unnamed, tried_or_open}
use Rattle.model_examples.proofs.JobStates.{m_stands, job_stands, the_move}
use Rattle.model_examples.proofs.Lookups.{entries_of}
use Rattle.model_examples.proofs.Operations.{in_log}
use Rattle.model_examples.proofs.Planned.{no_rows, plans_the_move}

abbrev job : JobRow
job = job_at 0 (Copying (At (small_key 5)))

-- when it was logged, and when it was done
abbrev logged_image : Image
logged_image = image_of copying_image (Happened (tried move_op true) ∷ [])

abbrev moved_image : Image
moved_image = image_of copying_image (Happened move_commit ∷ Happened (tried move_op true) ∷ [])

-- at each moment the stores are without rows
at_rest : meaning logged_image ≡ meaning copying_image
at_rest = ap (λ (rows : Rows). record (meaning copying_image) { rows = rows }) (no_rows logged_image (λ location. refl) ∙ sym (no_rows copying_image (λ location. refl)))

done : stepped (meaning copying_image) job the_move ≡ Some (meaning moved_image)
done = ap (λ (rows : Rows). Some (record (meaning moved_image) { rows = rows })) (no_rows copying_image (λ location. refl) ∙ sym (no_rows moved_image (λ location. refl)))

takes : TakesJobStep (meaning copying_image) (meaning moved_image) job
takes = record {
  step = the_move;
  row = rw (m_stands, entries_of pair_cmp (keyed_pieces (job_piece 0 5 site_a Offline ∷ job_piece 5 10 site_a Online ∷ [])) tt) refl;
  after = done;
}

planned : IsPlanned copying_image (Happened move_commit ∷ Happened (tried move_op true) ∷ []) (meaning copying_image) named_step (meaning moved_image) (Some job)
planned = inr (inr (move_op, record { logged = in_log move_op; planned = inr (inl (inl (refl, plans_the_move))); step = done }))

-- its number is open, and stands in the log
logged_stands : NoneOwed copying_image (Happened (tried move_op true) ∷ [])
logged_stands = none_after_log copying_image [] (logging move_op) move_op refl (ap is_some (in_log move_op)) (λ number is. absurd cc)

-- after the entry that names it none is owed
named_at_once : NoneOwed copying_image (Entered named_step ∷ Happened move_commit ∷ Happened (tried move_op true) ∷ [])
named_at_once number is =
    let o = open_unnamed number (Happened move_commit ∷ Happened (tried move_op true) ∷ []) named_step is in
    tried_or_open number [] Global (logging move_op) true move_op (InLog moved_image number) refl o.0 (λ same. absurd (o.1 same)) (λ before. absurd cc)

pub the_move_run : Legal 0 (copying_trail (tried move_op true ∷ move_commit ∷ [])) nothing_going (named_step ∷ [])
the_move_run = record {
  timeline = Entered named_step ∷ Happened move_commit ∷ Happened (tried move_op true) ∷ [];
  happened = refl;
  entries = refl;
  connections = nobody;
  unfolds = (
    nobody,
    ((refl, near_itself (meaning copying_image), (refl, refl), none_at_first copying_image), near_of _ _ at_rest, refl, logged_stands),
    record {
      moment = refl;
      follows = record { job = job; asked = job_stands 0 (Copying (At (small_key 5))); step = takes; accepted = λ finish. rw (job_stands 0 (Copying (At (small_key 5))), fin.get-empty byte_cmp site_a, fin.get-empty byte_cmp site_b) refl };
      on_trail = tt;
      planned = rw (job_stands 0 (Copying (At (small_key 5)))) planned;
      own = inr (inr (inl (inl (refl, plans_the_move))));
      none_owed = named_at_once;
    },
  );
  stands = refl;
  none_owed = named_at_once;
  promises = (tt, tt);
  named = (tt, ((record { session = 1; at_operation = refl }, tt), tt));
}
