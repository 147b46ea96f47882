use Rattle.text_scan.proofs.Places.{one_leaving, no_leaving}
use Rattle.record_form.specs.Layout.{IsSpelling}
use Rattle.record_form.proofs.laws.bytes_have_one_place.Goals as goal

pub returns-clause-one : goal.returns-clause-one
returns-clause-one c = one_leaving IsSpelling

pub returns-clause-fault : goal.returns-clause-fault
returns-clause-fault c = no_leaving IsSpelling
