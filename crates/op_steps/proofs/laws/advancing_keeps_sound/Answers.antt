use Rattle.op_steps.proofs.AdvanceMeaning.{advance_each, advance_meaning, course_from}
use Rattle.op_steps.proofs.laws.advancing_keeps_sound.Goals as goal

pub returns-clause-sound : goal.returns-clause-sound
returns-clause-sound c = advance_each

pub returns-clause-meaning : goal.returns-clause-meaning
returns-clause-meaning c = advance_meaning

pub returns-clause-course : goal.returns-clause-course
returns-clause-course c = course_from
