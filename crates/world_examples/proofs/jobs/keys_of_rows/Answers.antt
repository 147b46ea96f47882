use Rattle.std.proofs.Common.{[], ◌∷◌}
use Rattle.cell_world.specs.Orders.{row_cmp}
use Rattle.world_examples.specs.Examples.{numbered_rows}
use Rattle.world_examples.proofs.Tables.{entries_of}
use Rattle.world_examples.proofs.jobs.keys_of_rows.Goals as goal

pub returns-clause-between : goal.returns-clause-between
returns-clause-between c = rw (entries_of row_cmp (numbered_rows 1 (1 ∷ 3 ∷ 3 ∷ 5 ∷ 7 ∷ [])) tt)

pub returns-clause-unbounded : goal.returns-clause-unbounded
returns-clause-unbounded c = rw (entries_of row_cmp (numbered_rows 1 (1 ∷ 3 ∷ [])) tt)

pub returns-clause-other_map : goal.returns-clause-other_map
returns-clause-other_map c = rw (entries_of row_cmp (numbered_rows 1 (1 ∷ 3 ∷ [])) tt)
