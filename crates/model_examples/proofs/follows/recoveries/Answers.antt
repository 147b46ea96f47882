use Rattle.std.proofs.Common.{◌≡◌, sym, ap, ◌∙◌, Some, None}
use Rattle.std.specs.FinMap as fin
use Rattle.cell_world.specs.ByteOrder.{byte_cmp, byte_cmp_total}
use Rattle.cell_world.specs.declared.cells.Away.TheVariants.{Detached, Suspect}
use Rattle.cell_world.proofs.StoreLaws.{get-insert_same}
use Rattle.plain_model.specs.declared.replies.Reply.TheVariants as reply
use Rattle.plain_model.specs.declared.replies.Refusal.TheVariants as refused
use Rattle.model_examples.specs.Values.{empty_state, away_state, one_row}
use Rattle.world_examples.specs.Examples.{site_a}
use Rattle.model_examples.proofs.NearStates.{is_away}
use Rattle.model_examples.proofs.Recoveries.{detaches, attaches, attached_already}
use Rattle.model_examples.proofs.follows.recoveries.Goals as goal

pub returns-clause-detached : goal.returns-clause-detached
returns-clause-detached c = record { held = one_row; step = detaches one_row }

pub returns-clause-attached : goal.returns-clause-attached
returns-clause-attached c = record { held = one_row; step = attaches one_row }

pub returns-clause-never_still_attached : goal.returns-clause-never_still_attached
returns-clause-never_still_attached c f =
    let e : Some Detached ≡ None = sym (get-insert_same byte_cmp_total empty_state.away site_a Detached) ∙ ap (λ r. fin.get r.0.away site_a) (sym (detaches f.held) ∙ f.step) ∙ fin.get-empty byte_cmp site_a in cc

pub returns-clause-never_still_detached : goal.returns-clause-never_still_detached
returns-clause-never_still_detached c f =
    let e : Some Suspect ≡ Some Detached = sym (get-insert_same byte_cmp_total (away_state Detached).away site_a Suspect) ∙ ap (λ r. fin.get r.0.away site_a) (sym (attaches f.held) ∙ f.step) ∙ is_away Detached in cc

pub returns-clause-never_what_is_attached : goal.returns-clause-never_what_is_attached
returns-clause-never_what_is_attached c f = let e : reply.Refused refused.Attached ≡ reply.Ok = ap (λ r. r.1) (sym (attached_already f.held) ∙ f.step) in cc
