-- A change that is made wherever its command is accepted is planned for each later image that stands for the same.
use Rattle.std.proofs.Common.{◌≡◌, ℕ, true, List, None, ap, ◌∙◌}
use Rattle.cell_world.specs.Images.{Image, after_one}
use Rattle.cell_world.specs.Meaning.{meaning}
use Rattle.cell_world.specs.Plain.{PlainState, with_connections}
use Rattle.cell_world.specs.Sound.{Sound}
use Rattle.cell_world.specs.declared.changes.Edit.{Edit}
use Rattle.cell_world.specs.declared.operations.Reach.{Reach}
use Rattle.op_log.specs.ShortChanges.{ShortChange}
use Rattle.plain_model.specs.declared.commands.Command.{Command}
use Rattle.plain_model.specs.declared.replies.Reply.{Reply}
use Rattle.plain_model.specs.OnTrail.{reach_of_command}
use Rattle.plain_model.specs.Refusing.{refusal}
use Rattle.plain_model.specs.ShortCommands.{short_commit, IsShortChange}
use Rattle.map_ops.specs.Planning.{Refuses, NoneInWay, PlansChange}

-- The change makes what the plain step makes, for any session, and is one of the short changes.
pub record IsMade (c : Command) (reached : Reach) (change : List Edit) (r : Reply) (image : Image) : Type 0 where
  pub changes : (session : ℕ) → IsShortChange session c change r image
  pub short : ShortChange image reached (after_one image (short_commit change true))

-- What the plain step accepts it accepts wherever the stores stand for the same.
pub accepts_later : (c : Command) (image later : Image) → meaning later ≡ meaning image → Refuses c None image → Refuses c None later
accepts_later c image later same accepts session connections =
    ap (λ (s : PlainState). refusal (with_connections s connections) session c) same ∙ accepts session connections

-- So a change is planned, which is made on each such image where the command is accepted and no logged operation is in its way.
pub planned_later : (c : Command) (reached : Reach) (change : List Edit) (r : Reply) (image : Image) → reached ≡ reach_of_command (meaning image) c → Refuses c None image
    → ((later : Image) → Sound later → meaning later ≡ meaning image → Refuses c None later → NoneInWay later reached → IsMade c reached change r later)
    → PlansChange c reached change r image
planned_later c reached change r image reaches accepts made = record {
  reaches = reaches;
  accepts = accepts;
  changes = λ later sound same clear. (made later sound same (accepts_later c image later same accepts) clear).changes;
  short = λ later sound same clear. (made later sound same (accepts_later c image later same accepts) clear).short;
}
