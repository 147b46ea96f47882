use Rattle.cell_world.specs.Images.{global}
use Rattle.cell_world.specs.Sound.{locals_at}
use Rattle.image_laws.proofs.StepImages.{undo_sound}
use Rattle.image_laws.proofs.StepLaws.{undone_cleared}
use Rattle.image_laws.proofs.UnderWayLaws.{cleared_stays}
use Rattle.image_laws.proofs.steps.undo_keeps_sound.Goals as goal

pub returns-clause-sound : goal.returns-clause-sound
returns-clause-sound c = undo_sound

pub returns-clause-swept : goal.returns-clause-swept
returns-clause-swept c image op location after = undone_cleared (global image).log op (locals_at image location) after

pub returns-clause-elsewhere : goal.returns-clause-elsewhere
returns-clause-elsewhere c = cleared_stays
