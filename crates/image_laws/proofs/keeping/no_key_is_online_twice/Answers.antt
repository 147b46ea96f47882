use Rattle.image_laws.proofs.UnderWayLaws.{online_once}
use Rattle.image_laws.proofs.keeping.no_key_is_online_twice.Goals as goal

pub returns : goal.returns
returns c = online_once
