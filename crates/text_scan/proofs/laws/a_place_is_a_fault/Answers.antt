use Rattle.text_scan.proofs.Places.{no_text}
use Rattle.text_scan.proofs.laws.a_place_is_a_fault.Goals as goal

pub returns : goal.returns
returns c = no_text
