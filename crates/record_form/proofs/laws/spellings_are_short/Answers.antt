use Rattle.record_form.proofs.Lengths.{spelling_short}
use Rattle.record_form.proofs.laws.spellings_are_short.Goals as goal

pub returns : goal.returns
returns c = spelling_short
