use Rattle.image_laws.proofs.UnderWayLaws.{next_unborn}
use Rattle.image_laws.proofs.progress.next_number_is_unborn.Goals as goal

pub returns : goal.returns
returns c = next_unborn
