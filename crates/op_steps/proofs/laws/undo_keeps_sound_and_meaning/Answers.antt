use Rattle.op_steps.proofs.MeaningLaws.{undo_each, undo_all_each}
use Rattle.op_steps.proofs.laws.undo_keeps_sound_and_meaning.Goals as goal

pub returns-clause-one : goal.returns-clause-one
returns-clause-one c = undo_each

pub returns-clause-all : goal.returns-clause-all
returns-clause-all c = undo_all_each (λ op. Unit {0})
