-- The commands `detach` and `attach` on states without cells.
use Rattle.std.proofs.Common.{◌≡◌, refl}
use Rattle.std.specs.Ordering.{nat_cmp}
use Rattle.std.specs.FinMap as fin
use Rattle.cell_world.specs.ByteOrder.{byte_cmp}
use Rattle.cell_world.specs.Plain.{Held}
use Rattle.cell_world.specs.declared.cells.Away.{Away}
use Rattle.cell_world.specs.declared.cells.Away.TheVariants.{Detached}
use Rattle.cell_world.specs.declared.operations.JobRow.{JobRow}
use Rattle.plain_model.specs.declared.commands.Command.TheVariants as command
use Rattle.plain_model.specs.declared.replies.Reply.TheVariants as reply
use Rattle.plain_model.specs.declared.replies.Refusal.TheVariants as refused
use Rattle.plain_model.specs.Refusing.{refusal}
use Rattle.plain_model.specs.Steps.{plain_step, attach, detach}
use Rattle.model_examples.specs.Values.{empty_state, away_state}
use Rattle.world_examples.specs.Examples.{site_a}
use Rattle.model_examples.proofs.NearStates.{is_away}
use Rattle.model_examples.proofs.Planned.{no_entries}

pub detaches : (held_then : Held) → plain_step held_then empty_state 1 (command.Detach site_a) ≡ (detach empty_state site_a held_then, reply.Ok)
unfolding refusal
detaches held_then = rw (fin.get-empty {X = Away} byte_cmp site_a, no_entries {X = JobRow} nat_cmp) refl

pub attaches : (held_then : Held) → plain_step held_then (away_state Detached) 1 (command.Attach site_a) ≡ (attach (away_state Detached) site_a held_then, reply.Ok)
unfolding refusal
attaches held_then = rw (is_away Detached) refl

pub attached_already : (held_then : Held) → plain_step held_then empty_state 1 (command.Attach site_a) ≡ (empty_state, reply.Refused refused.Attached)
unfolding refusal
attached_already held_then = rw (fin.get-empty {X = Away} byte_cmp site_a) refl
