use Rattle.op_steps.proofs.BeginLaws.{begun_course}
use Rattle.op_steps.proofs.MeaningLaws.{begin_each}
use Rattle.op_steps.proofs.laws.beginning_keeps_sound_and_meaning.Goals as goal

pub returns-clause-course : goal.returns-clause-course
returns-clause-course c = begun_course

pub returns-clause-each : goal.returns-clause-each
returns-clause-each c = begin_each
