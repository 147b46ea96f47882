use Rattle.text_scan.proofs.Places.{place_in}
use Rattle.text_scan.proofs.laws.same_texts_same_places.Goals as goal

pub returns : goal.returns
returns c = place_in
