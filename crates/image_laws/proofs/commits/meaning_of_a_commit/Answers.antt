use Rattle.cell_world.specs.Images.{global}
use Rattle.cell_world.specs.Marked.{jobs_after}
use Rattle.image_laws.proofs.CommitImages.{commit_meaning}
use Rattle.image_laws.proofs.commits.meaning_of_a_commit.Goals as goal

pub returns : goal.returns
returns c image sound op law = commit_meaning image sound op law (jobs_after (global image).jobs op.extra)
