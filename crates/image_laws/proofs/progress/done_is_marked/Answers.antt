use Rattle.image_laws.proofs.StepImages.{source_done, target_done}
use Rattle.image_laws.proofs.progress.done_is_marked.Goals as goal

pub returns-clause-source : goal.returns-clause-source
returns-clause-source c = source_done

pub returns-clause-target : goal.returns-clause-target
returns-clause-target c = target_done
