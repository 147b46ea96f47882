use Rattle.text_scan.proofs.Places.{one_place}
use Rattle.text_scan.proofs.laws.a_text_has_one_place.Goals as goal

pub returns : goal.returns
returns c = one_place
