use Rattle.std.proofs.Common.{◌≡◌, take}
use Rattle.image_laws.specs.LocalSteps.{settle}
use Rattle.image_laws.specs.RowEdits.{edits_by}
use Rattle.local_tables.specs.Sweeping.{AllOwn}
use Rattle.local_tables.proofs.sweeping.settled.Given as goal

abbrev pub invariant-loop-row : goal.invariant-loop-row
invariant-loop-row l = AllOwn l.number l.rows → l.change ≡ edits_by (settle l.number) (take l.row-index l.rows)
