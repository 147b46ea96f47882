use Rattle.image_laws.proofs.CatalogChanges.{grown_serves}
use Rattle.image_laws.proofs.catalogs.grown_catalogs_serve.Goals as goal

pub returns : goal.returns
returns c = grown_serves
