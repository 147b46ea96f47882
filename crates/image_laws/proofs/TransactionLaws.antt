-- Whatever transactions of operations are made, and wherever they stop, the image is sound.
use Rattle.std.proofs.Common.{sym, subst, List, [], ◌∷◌}
use Rattle.cell_world.specs.Images.{Image, global}
use Rattle.cell_world.specs.Sound.{Sound}
use Rattle.image_laws.proofs.LogKeepsSound.{log_keeps_sound}
use Rattle.cell_world.specs.Marked.{jobs_after}
use Rattle.image_laws.specs.Transactions.{Transaction, Logging, Stepping, Committing, Settling, Undoing, Dropping, IsRun}
use Rattle.image_laws.proofs.CommitImages.{commit_sound}
use Rattle.image_laws.proofs.JobCommits.{parts}
use Rattle.image_laws.proofs.StepImages.{step_sound, undo_sound, unlogged_sound, settle_sound}

pub one_sound : (image after : Image) → Sound image → Transaction image after → Sound after
one_sound image after s (Logging op lawful number room clear is) = subst Sound (sym is) (log_keeps_sound image s op lawful number room clear)
one_sound image after s (Stepping op logged location here unborn last stepped is) = subst Sound (sym is) (step_sound image s op logged location here unborn last stepped)
one_sound image after s (Committing op logged marked is) =
    let law = s.logged.lawful op logged in
    subst Sound (sym is) (commit_sound image s op law (jobs_after (global image).jobs op.extra) logged marked (parts image s op law))
one_sound image after s (Settling number out location here last settled is) = subst Sound (sym is) (settle_sound image s number out location here last settled)
one_sound image after s (Undoing op logged location here last swept is) = subst Sound (sym is) (undo_sound image s op logged location here last swept)
one_sound image after s (Dropping op logged undone is) = subst Sound (sym is) (unlogged_sound image s op logged undone)

pub run_sound : (images : List Image) (image last : Image) → Sound image → IsRun image images last → Sound last
run_sound [] image last s is = subst Sound (sym is) s
run_sound (next ∷ more) image last s run = run_sound more next last (one_sound image next s run.0) run.1
