use Rattle.cell_world.specs.Spelled.{IsCell}
use Rattle.record_form.specs.Layout.{spelling}
use Rattle.record_form.specs.Kinds.{cell_at}
use Rattle.record_form.proofs.Whole.{one_reading}
use Rattle.record_form.proofs.CellTexts.{cell_reader}
use Rattle.record_form.proofs.laws.no_spelling_begins_another.Goals as goal

pub returns : goal.returns
returns c = one_reading cell_at spelling IsCell cell_reader
