use Rattle.cell_world.proofs.ImageLaws.{earlier_images}
use Rattle.image_laws.proofs.stores.images_stay.Goals as goal

pub returns : goal.returns
returns c = earlier_images
