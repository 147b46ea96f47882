use Rattle.image_laws.proofs.Places.{site_attached}
use Rattle.image_laws.proofs.sites.sites_of_operations_are_attached.Goals as goal

pub returns : goal.returns
returns c = site_attached
