use Rattle.plain_model.proofs.OpenGoing.{none_owed_at_rest}
use Rattle.plain_model.proofs.headline_laws.none_is_owed_at_rest.Goals as goal

pub returns : goal.returns
returns c = none_owed_at_rest
