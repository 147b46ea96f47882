use Rattle.image_laws.proofs.TransactionLaws.{run_sound}
use Rattle.image_laws.proofs.keeping.transactions_keep_sound.Goals as goal

pub returns : goal.returns
returns c = run_sound
