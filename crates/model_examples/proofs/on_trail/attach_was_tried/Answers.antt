use Rattle.std.proofs.Common.{◌≡◌, true, false, sym, ap, ◌∙◌, Some, refl, [], ◌∷◌, inr, ⊎_elim}
use Rattle.std.specs.FinMap as fin
use Rattle.cell_world.specs.Plain.{PlainState, Held}
use Rattle.cell_world.specs.declared.cells.Away.TheVariants.{Detached, Suspect}
use Rattle.model_examples.specs.Values.{away_state, one_row, row_cells, keyed_locals}
use Rattle.world_examples.specs.Examples.{site_a}
use Rattle.cell_world.specs.Images.{Shard, Reopened}
use Rattle.cell_world.specs.Orders.{local_cmp}
use Rattle.plain_model.specs.declared.commands.Command.TheVariants as command
use Rattle.plain_model.specs.OnTrail.{kept_of}
use Rattle.plain_model.specs.Steps.{plain_step}
use Rattle.plain_model.specs.Timelines.{Happened}
use Rattle.plain_model.proofs.NearLaws.{near_of}
use Rattle.model_examples.proofs.Lookups.{entries_of}
use Rattle.model_examples.proofs.Recoveries.{attaches}
use Rattle.model_examples.proofs.NearStates.{is_away}
use Rattle.model_examples.proofs.on_trail.attach_was_tried.Goals as goal

pub returns-clause-never_done_without_a_reopening : goal.returns-clause-never_done_without_a_reopening
returns-clause-never_done_without_a_reopening c = ⊎_elim
    (λ near. let e : Some Suspect ≡ Some Detached = sym (is_away Suspect) ∙ ap (λ (s : PlainState). fin.get s.away site_a) near.same ∙ is_away Detached in cc)
    (λ done. let e : false ≡ true = done.0 in cc)

-- what is kept of the reopened cells
keeps_the_row : kept_of (away_state Detached) site_a (Happened (Reopened (Shard site_a) row_cells) ∷ []) ≡ one_row
keeps_the_row = rw (entries_of local_cmp (keyed_locals []) tt) refl

pub returns-clause-done_after_a_reopening : goal.returns-clause-done_after_a_reopening
returns-clause-done_after_a_reopening c = inr (
  refl,
  near_of _ _ (sym
      (ap (λ (h : Held). (plain_step h (away_state Detached) 1 (command.Attach site_a)).0) keeps_the_row ∙ ap (λ r. r.0) (attaches one_row))),
)
