use Rattle.cell_world.specs.Images.{global}
use Rattle.cell_world.specs.Marked.{jobs_after}
use Rattle.image_laws.proofs.StaysLawful.{apart_of}
use Rattle.image_laws.proofs.CommitImages.{made_lawful}
use Rattle.image_laws.proofs.JobCommits.{parts}
use Rattle.op_log.proofs.laws.operations_stay_lawful.Goals as goal

pub returns : goal.returns
returns c image sound op other mine theirs clear = made_lawful image sound op mine (jobs_after (global image).jobs op.extra) other theirs (apart_of op other clear) (parts image sound op mine)
