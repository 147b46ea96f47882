use Rattle.op_steps.proofs.AdvanceMeaning.{stage_marked}
use Rattle.op_steps.proofs.laws.stages_are_marked.Goals as goal

pub returns : goal.returns
returns c = stage_marked
