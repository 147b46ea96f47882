use Rattle.image_laws.proofs.MeaningLaws.{get-rows}
use Rattle.image_laws.proofs.meanings.owners_have_the_rows.Goals as goal

pub returns : goal.returns
returns c = get-rows
