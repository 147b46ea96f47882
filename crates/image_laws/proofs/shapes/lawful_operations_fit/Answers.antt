use Rattle.image_laws.proofs.FitLaws.{fit_of_lawful}
use Rattle.image_laws.proofs.shapes.lawful_operations_fit.Goals as goal

pub returns : goal.returns
returns c = fit_of_lawful
