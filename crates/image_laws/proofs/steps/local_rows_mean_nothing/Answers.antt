use Rattle.image_laws.proofs.LocalImages.{local_meaning}
use Rattle.image_laws.proofs.steps.local_rows_mean_nothing.Goals as goal

pub returns : goal.returns
returns c = local_meaning
