use Rattle.cell_world.specs.Images.{global}
use Rattle.cell_world.specs.Meaning.{next_operation}
use Rattle.cell_world.specs.Sound.{locals_at}
use Rattle.image_laws.proofs.StaysLawful.{apart_of}
use Rattle.image_laws.proofs.OthersStay.{done_swept, done_born, done_settled}
use Rattle.cell_world.proofs.MappingLaws.{sound_mappings}
use Rattle.image_laws.proofs.SoundParts.{are_logged, births_apart}
use Rattle.image_laws.proofs.progress.others_stay_done.Goals as goal

pub returns-clause-swept : goal.returns-clause-swept
returns-clause-swept c image sound op other logged clear location here done mark after =
    done_swept (global image).maps (global image).mappings (sound_mappings image sound) (global image).log (next_operation image) (are_logged image sound) op other logged (apart_of op other clear) location (locals_at image location) (sound.locals location here) done mark after

pub returns-clause-born : goal.returns-clause-born
returns-clause-born c image sound op other logged also ne location before after born = done_born op other location before after ne (births_apart image sound op other logged also ne) born

pub returns-clause-settled : goal.returns-clause-settled
returns-clause-settled c op number location before after settled = done_settled number before after settled op location
