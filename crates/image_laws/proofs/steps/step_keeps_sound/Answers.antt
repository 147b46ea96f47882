use Rattle.cell_world.specs.Images.{global}
use Rattle.cell_world.specs.Sound.{locals_at}
use Rattle.image_laws.proofs.StepImages.{step_sound}
use Rattle.image_laws.proofs.StepLaws.{stepped_done}
use Rattle.image_laws.proofs.steps.step_keeps_sound.Goals as goal

pub returns-clause-sound : goal.returns-clause-sound
returns-clause-sound c = step_sound

pub returns-clause-done : goal.returns-clause-done
returns-clause-done c image op location after stepped = stepped_done (global image).log op location (locals_at image location) stepped.middle after stepped.swept stepped.born
