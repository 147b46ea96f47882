use Rattle.image_laws.proofs.StepLaws.{unborn_swept}
use Rattle.image_laws.proofs.OthersStay.{unborn_born, unborn_settled}
use Rattle.image_laws.proofs.progress.others_stay_unborn.Goals as goal

pub returns-clause-swept : goal.returns-clause-swept
returns-clause-swept c = unborn_swept

pub returns-clause-born : goal.returns-clause-born
returns-clause-born c = unborn_born

pub returns-clause-settled : goal.returns-clause-settled
returns-clause-settled c number other before after settled = unborn_settled other before after settled number
