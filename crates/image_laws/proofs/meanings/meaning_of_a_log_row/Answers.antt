use Rattle.image_laws.proofs.LogKeepsSound.{meaning-log}
use Rattle.image_laws.proofs.meanings.meaning_of_a_log_row.Goals as goal

pub returns : goal.returns
returns c = meaning-log
