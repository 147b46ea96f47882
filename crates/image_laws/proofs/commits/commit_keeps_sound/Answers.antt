use Rattle.std.proofs.Common.{ap}
use Rattle.cell_world.specs.Images.{Global, global, with_store}
use Rattle.cell_world.specs.Marked.{jobs_after}
use Rattle.image_laws.proofs.CommitEdits.{changed-commit}
use Rattle.image_laws.proofs.CommitImages.{commit_sound}
use Rattle.image_laws.proofs.JobCommits.{parts}
use Rattle.image_laws.proofs.commits.commit_keeps_sound.Goals as goal

pub returns-clause-sound : goal.returns-clause-sound
returns-clause-sound c image sound op logged marked = let law = sound.logged.lawful op logged in commit_sound image sound op law (jobs_after (global image).jobs op.extra) logged marked (parts image sound op law)

pub returns-clause-edits : goal.returns-clause-edits
returns-clause-edits c image op = ap (with_store image Global) (changed-commit (global image) op)
